-- The kept packets as a list and as the front of an array.
use Rattle.std.specs.Prelude.{◌≡◌, refl, List, [], ◌∷◌, ◌++◌, ℕ, zero, suc, ◌+◌, ◌-◌, ◌≤◌, ◌<◌, take, get_or, Bool, true, false, ◌||◌, cond, eqb}
use Rattle.std.proofs.Common.{sym, ◌∙◌, append_assoc, arith, drop_of_length-le, take-append-drop, drop-cons, length-take-le, get_or-take, drop-set-lt, ne_eqb}
use Rattle.std.proofs.Math.Path.{ap, ap₂}
use Rattle.std.proofs.Math.ListN.{length, drop, set, length-set, length-append}
use Rattle.std.proofs.Math.Numerals.{add-one}
use Rattle.std.proofs.Math.Seq.{take-set-lt}
use Rattle.std.proofs.lemmas.List.{set_split}
use Rattle.outgoing.specs.declared.kept.Packet.{Packet}
use Rattle.outgoing.specs.Tracker.{no_packet}
use Rattle.outgoing.specs.Loss.{is_unacked, acked_one}
use Rattle.outgoing.specs.Sound.{starts_unacked}
use Rattle.sent.specs.State.{written_of}
use Rattle.sent.specs.declared.state.SentPackets.{SentPackets}
use Rattle.seq.specs.declared.SeqNum.{SeqNum}
use Rattle.congestion.specs.declared.numbers.Numbers.{Numbers}
use Rattle.controller.specs.declared.delays.Delays.{Delays}

pub kept_length : (a : List Packet) (n : ℕ) → n ≤ length a → length (take n a) ≡ n
kept_length a n h = length-take-le n a h

-- one more, in a walk from the back
pub kept_behind : (a : List Packet) (n i : ℕ) → n ≤ length a → 0 < i → i ≤ n → drop (i - 1) (take n a) ≡ get_or a (i - 1) no_packet ∷ drop i (take n a)
kept_behind a n i h k m =
    let e : suc (i - 1) ≡ i = omega arith in
    drop-cons (take n a) (i - 1) no_packet (omega (arith, kept_length a n h))
    ∙ ap (λ (p : Packet). p ∷ drop (suc (i - 1)) (take n a)) (get_or-take n a (i - 1) no_packet (omega arith))
    ∙ ap (λ (k : ℕ). get_or a (i - 1) no_packet ∷ drop k (take n a)) e

pub kept_end : (a : List Packet) (n : ℕ) → n ≤ length a → drop n (take n a) ≡ []
kept_end a n h = drop_of_length-le (take n a) {i = n} (omega (arith, kept_length a n h))

pub acked_one_small : (p : Packet) → acked_one p ≤ 1
acked_one_small p = by_test (is_unacked p)
  where
    by_test : (t : Bool) → cond t 0 1 ≤ 1
    by_test true = omega arith
    by_test false = omega arith

pub starts_at_first : (a : List Packet) (n : ℕ) → n ≤ length a → starts_unacked (take n a) ≡ (eqb n 0 || is_unacked (get_or a 0 no_packet))
starts_at_first a zero h = refl
starts_at_first [] (suc n) h = absurd (omega arith)
starts_at_first (p ∷ a) (suc n) h = simp (ne_eqb (suc n) 0 (λ e. omega arith))

-- Where the kept packets stay as they are, so does the array.
pub written_kept : (s : SentPackets) (initial : SeqNum) (sent : ℕ) (numbers : Numbers) (delays : Delays) → s.live ≤ length s.packets
    → written_of s (record { initial = initial; sent = sent; packets = take s.live s.packets; numbers = numbers; delays = delays })
    ≡ record { initial = initial.0; count = sent; live = s.live; numbers = numbers; delays = delays; packets = s.packets }
written_kept s initial sent numbers delays h =
    ap₂ whole (kept_length s.packets s.live h)
    (ap (λ (n : ℕ). take s.live s.packets ++ drop n s.packets) (kept_length s.packets s.live h) ∙ take-append-drop s.live s.packets)
  where
    whole : ℕ → List Packet → SentPackets
    whole live packets = record { initial = initial.0; count = sent; live = live; numbers = numbers; delays = delays; packets = packets }

-- A kept packet replaced, and one more kept, as stores to the array.
pub written_set : (a : List Packet) (n i : ℕ) (p : Packet) → i < n → n ≤ length a → set (take n a) i p ++ drop n a ≡ set a i p
written_set a n i p h k =
    ap₂ (λ (x y : List Packet). x ++ y) (sym (take-set-lt n a i p h)) (sym (drop-set-lt n a i p h)) ∙ take-append-drop n (set a i p)

pub written_more : (a : List Packet) (n : ℕ) (p : Packet) → n < length a → (take n a ++ p ∷ []) ++ drop (suc n) a ≡ set a n p
written_more a n p h = append_assoc (take n a) (p ∷ []) (drop (suc n) a) ∙ sym (set_split a n p h)

module _ (s : SentPackets) (initial : SeqNum) (sent : ℕ) (numbers : Numbers) (delays : Delays) where
  state_with_lem : ℕ → List Packet → SentPackets
  state_with_lem live packets = record { initial = initial.0; count = sent; live = live; numbers = numbers; delays = delays; packets = packets }

  pub written_at : (i : ℕ) (p : Packet) → i < s.live → s.live ≤ length s.packets
      → written_of s (record { initial = initial; sent = sent; packets = set (take s.live s.packets) i p; numbers = numbers; delays = delays })
      ≡ record { initial = initial.0; count = sent; live = s.live; numbers = numbers; delays = delays; packets = set s.packets i p }
  unfolding state_with_lem
  written_at i p h k =
      let len : length (set (take s.live s.packets) i p) ≡ s.live = length-set (take s.live s.packets) i p ∙ kept_length s.packets s.live k in
      ap₂ state_with_lem len
      (ap (λ (n : ℕ). set (take s.live s.packets) i p ++ drop n s.packets) len ∙ written_set s.packets s.live i p h k)

  pub written_behind : (p : Packet) → s.live < length s.packets
      → written_of s (record { initial = initial; sent = sent; packets = take s.live s.packets ++ p ∷ []; numbers = numbers; delays = delays })
      ≡ record { initial = initial.0; count = sent; live = s.live + 1; numbers = numbers; delays = delays; packets = set s.packets s.live p }
  unfolding state_with_lem
  written_behind p h =
      let len : length (take s.live s.packets ++ p ∷ []) ≡ s.live + 1 = length-append (take s.live s.packets) (p ∷ []) ∙ ap (λ (n : ℕ). n + 1) (kept_length s.packets s.live (omega arith)) in
      ap₂ state_with_lem len
      (ap (λ (n : ℕ). (take s.live s.packets ++ p ∷ []) ++ drop n s.packets) (len ∙ add-one s.live) ∙ written_more s.packets s.live p h)
