-- The packets that stand in lent arrays: how many they are, what is read at a place, and what stores to the arrays make of them.
use Rattle.std.specs.Prelude.{◌≡◌, refl, List, [], ◌∷◌, ℕ, zero, suc, ◌+◌, ◌*◌, ◌<◌, length, get_or, set, drop}
use Rattle.std.proofs.Common.{ap, ap₂, ◌∙◌, le_of_suc-le-suc, arith, length-set, get_or-drop}
use Rattle.outgoing.specs.declared.kept.Packet.{Packet}
use Rattle.sent_lent.specs.Lent.{packets_in, Places}
use Rattle.outgoing.specs.Tracker.{no_packet}

pub packets_length : (t s m : List ℕ) → length (packets_in t s m) ≡ length t
unfolding packets_in
packets_length [] s m = refl
packets_length (x ∷ t) s m = ap suc (packets_length t (drop 2 s) (drop 4 m))

pub packets_512 : (t s m : List ℕ) → Places t s m → length (packets_in t s m) ≡ 512
packets_512 t s m h = packets_length t s m ∙ h.times_512

-- what stands at a place of the arrays
abbrev pub record_at : (t s m : List ℕ) → ℕ → Packet
record_at t s m i =
    record {
      sent_at = get_or t i 0;
      tag = get_or s (2 * i) 0;
      len = get_or s (2 * i + 1) 0;
      kind = get_or m (4 * i) 0;
      acked = get_or m (4 * i + 1) 0;
      lost = get_or m (4 * i + 2) 0;
      resent = get_or m (4 * i + 3) 0;
    }

past : (n : ℕ) (l : List ℕ) (i j : ℕ) → n + i ≡ j → get_or (drop n l) i 0 ≡ get_or l j 0
past n l i j e = get_or-drop n l i 0 ∙ ap (λ (k : ℕ). get_or l k 0) e

record_past : (x : ℕ) (t s m : List ℕ) (i : ℕ) → record_at t (drop 2 s) (drop 4 m) i ≡ record_at (x ∷ t) s m (suc i)
record_past x t s m i =
    rw (past 2 s (2 * i) (2 * suc i) (omega arith))
    (rw (past 2 s (2 * i + 1) (2 * suc i + 1) (omega arith))
    (rw (past 4 m (4 * i) (4 * suc i) (omega arith))
    (rw (past 4 m (4 * i + 1) (4 * suc i + 1) (omega arith))
    (rw (past 4 m (4 * i + 2) (4 * suc i + 2) (omega arith))
    (rw (past 4 m (4 * i + 3) (4 * suc i + 3) (omega arith)) refl)))))

pub packet_in : (t s m : List ℕ) (i : ℕ) → i < length t → get_or (packets_in t s m) i no_packet ≡ record_at t s m i
unfolding packets_in
packet_in [] s m i h = absurd (omega arith)
packet_in (x ∷ t) s m zero h = refl
packet_in (x ∷ t) s m (suc i) h = packet_in t (drop 2 s) (drop 4 m) i (le_of_suc-le-suc h) ∙ record_past x t s m i

-- the stores of one packet
abbrev pub sizes_with : List ℕ → ℕ → Packet → List ℕ
sizes_with s i p = set (set s (2 * i) p.tag) (2 * i + 1) p.len

abbrev pub marks_with : List ℕ → ℕ → Packet → List ℕ
marks_with m i p = set (set (set (set m (4 * i) p.kind) (4 * i + 1) p.acked) (4 * i + 2) p.lost) (4 * i + 3) p.resent

twice : (i n : ℕ) → 2 * suc i + n ≡ suc (suc (2 * i + n))
twice i n = omega arith

four : (i n : ℕ) → 4 * suc i + n ≡ suc (suc (suc (suc (4 * i + n))))
four i n = omega arith

sizes_past : (a b : ℕ) (s : List ℕ) (i : ℕ) (p : Packet) → sizes_with (a ∷ b ∷ s) (suc i) p ≡ a ∷ b ∷ sizes_with s i p
sizes_past a b s i p =
    let first : 2 * suc i ≡ suc (suc (2 * i)) = omega arith in
    ap₂ (λ (j k : ℕ). set (set (a ∷ b ∷ s) j p.tag) k p.len) first (twice i 1)

marks_past : (a b c d : ℕ) (m : List ℕ) (i : ℕ) (p : Packet) → marks_with (a ∷ b ∷ c ∷ d ∷ m) (suc i) p ≡ a ∷ b ∷ c ∷ d ∷ marks_with m i p
marks_past a b c d m i p =
    let first : 4 * suc i ≡ suc (suc (suc (suc (4 * i)))) = omega arith in
    let l = a ∷ b ∷ c ∷ d ∷ m in
    ap (λ (j : ℕ). set (set (set (set l j p.kind) (4 * suc i + 1) p.acked) (4 * suc i + 2) p.lost) (4 * suc i + 3) p.resent) first
    ∙ ap (λ (j : ℕ). set (set (set (a ∷ b ∷ c ∷ d ∷ set m (4 * i) p.kind) j p.acked) (4 * suc i + 2) p.lost) (4 * suc i + 3) p.resent) (four i 1)
    ∙ ap₂ (λ (j k : ℕ). set (set (a ∷ b ∷ c ∷ d ∷ set (set m (4 * i) p.kind) (4 * i + 1) p.acked) j p.lost) k p.resent) (four i 2) (four i 3)

pub packet_put : (t s m : List ℕ) (i : ℕ) (p : Packet) → i < length t → 2 * i + 1 < length s → 4 * i + 3 < length m
    → packets_in (set t i p.sent_at) (sizes_with s i p) (marks_with m i p) ≡ set (packets_in t s m) i p
unfolding packets_in
packet_put [] s m i p h k n = absurd (omega arith)
packet_put (x ∷ t) (a ∷ b ∷ s) (c ∷ d ∷ e ∷ f ∷ m) zero p h k n = refl
packet_put (x ∷ t) (a ∷ b ∷ s) (c ∷ d ∷ e ∷ f ∷ m) (suc i) p h k n =
    ap₂ (λ (y z : List ℕ). packets_in (x ∷ set t i p.sent_at) y z) (sizes_past a b s i p) (marks_past c d e f m i p)
    ∙ ap (λ (l : List Packet). record { sent_at = x; tag = a; len = b; kind = c; acked = d; lost = e; resent = f } ∷ l)
    (packet_put t s m i p (le_of_suc-le-suc h) (omega arith) (omega arith))
packet_put (x ∷ t) [] m i p h k n = absurd (omega arith)
packet_put (x ∷ t) (a ∷ []) m i p h k n = absurd (omega arith)
packet_put (x ∷ t) (a ∷ b ∷ s) [] i p h k n = absurd (omega arith)
packet_put (x ∷ t) (a ∷ b ∷ s) (c ∷ []) i p h k n = absurd (omega arith)
packet_put (x ∷ t) (a ∷ b ∷ s) (c ∷ d ∷ []) i p h k n = absurd (omega arith)
packet_put (x ∷ t) (a ∷ b ∷ s) (c ∷ d ∷ e ∷ []) i p h k n = absurd (omega arith)

pub places-put : (t s m : List ℕ) (i : ℕ) (p : Packet) → Places t s m → Places (set t i p.sent_at) (sizes_with s i p) (marks_with m i p)
places-put t s m i p h =
    record {
      times_512 = length-set t i p.sent_at ∙ h.times_512;
      sizes_1024 = length-set (set s (2 * i) p.tag) (2 * i + 1) p.len ∙ length-set s (2 * i) p.tag ∙ h.sizes_1024;
      marks_2048 =
          length-set (set (set (set m (4 * i) p.kind) (4 * i + 1) p.acked) (4 * i + 2) p.lost) (4 * i + 3) p.resent
          ∙ length-set (set (set m (4 * i) p.kind) (4 * i + 1) p.acked) (4 * i + 2) p.lost
          ∙ length-set (set m (4 * i) p.kind) (4 * i + 1) p.acked
          ∙ length-set m (4 * i) p.kind
          ∙ h.marks_2048;
    }
