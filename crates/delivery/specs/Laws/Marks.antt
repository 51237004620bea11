-- What the sender holds as acknowledged, call by call: a first transmit adds one that is not, a retransmission and a timeout change nothing, and an
-- ack adds no other than those that it speaks of.
use Rattle.std.specs.Prelude.{ℕ, zero, suc, ◌+◌, ◌-◌, ◌*◌, ◌≤◌, ◌<◌, Bool, true, false, ◌&&◌, not, cond, List, [], ◌∷◌, ◌++◌, map, ◌⊎◌, ◌≡◌, refl, leb, ltb, eqb, length, get_or, set, replicate}
use Rattle.std.proofs.Common.{add-zero, arith, append_assoc, inl, inr, ⊎_elim, ◌∙◌, ap, ap₂, sym, length-append, length-set, ltb-true, ltb-false, eqb-true, get_or-append-add, get_or-set_other}
use Rattle.std.proofs.lemmas.List.{length-map, length-replicate, get_or-replicate}
use Rattle.std.proofs.Math.ListN.{get_or-append}
use Rattle.std.proofs.lemmas.Bool.{eqb-false}
use Rattle.std.proofs.Math.Seq.{map-set_same}
use Rattle.outgoing.specs.declared.kept.Packet.{Packet}
use Rattle.outgoing.specs.Tracker.{Tracker, gone_of, is_kept, packet_at, no_packet, with_packet_at}
use Rattle.outgoing.specs.Loss.{is_unacked, with_lost, is_newly_lost_of, acked_count_of, loss_marked_of}
use Rattle.outgoing.specs.Transmit.{with_resent, resent_of, recorded_of}
use Rattle.outgoing.specs.Ack.{sacked_from, offsets_from, heard_of, with_acked, newly_acked_of, acknowledged_of, all_acknowledged_of, loss_of, from_unacked, released_of, marked_of}
use Rattle.packet.specs.Sack.{bit_of}
use Rattle.delivery.specs.Run.{marks_of}

abbrev mark : Packet → Bool
mark p = not (is_unacked p)

map-append : {A B : Type 0} (f : A → B) (s t : List A) → map f (s ++ t) ≡ map f s ++ map f t
map-append f [] t = refl
map-append f (x ∷ s) t = ap (λ (l : List _). f x ∷ l) (map-append f s t)

-- ---- transmit

pub marks_recorded : (t : Tracker) (p : Packet) → length t.packets ≤ t.sent → marks_of (recorded_of t p) ≡ marks_of t ++ (mark p ∷ [])
marks_recorded t p h =
    let same : t.sent + 1 - length (t.packets ++ p ∷ []) ≡ gone_of t = simp length-append (omega arith) in
    simp (same, map-append, append_assoc)

pub marks_resent : (t : Tracker) (o : ℕ) → marks_of (resent_of t o) ≡ marks_of t
marks_resent t o = by_test (is_kept t o)
  where
    i : ℕ
    i = o - gone_of t - 1

    by_test : (b : Bool) → marks_of (cond b (with_packet_at t o (with_resent (packet_at t o))) t) ≡ marks_of t
    by_test true = simp (length-set, map-set_same mark t.packets i (with_resent (packet_at t o)) no_packet refl)
    by_test false = refl

-- ---- what an ack speaks of

abbrev pub In : ℕ → List ℕ → Type 0
In x [] = ⊥
In x (y ∷ l) = (x ≡ y) ⊎ In x l

in_append : (x : ℕ) (s t : List ℕ) → In x (s ++ t) → In x s ⊎ In x t
in_append x [] t h = inr h
in_append x (y ∷ s) t (inl e) = inl (inl e)
in_append x (y ∷ s) t (inr h) = ⊎_elim (λ k. inl (inr k)) (λ k. inr k) (in_append x s t h)

-- The number, a set bit, or an earlier one.
pub data Speaks (ack : ℕ) (mask : List ℕ) (x : ℕ) : Type 0 where
  itself : x ≡ ack → Speaks ack mask x
  bit : (i : ℕ) → bit_of mask i ≡ true → x ≡ ack + 2 + i → Speaks ack mask x
  before : 1 ≤ x → x < ack → Speaks ack mask x

in_offsets : (x o count : ℕ) → In x (offsets_from o count) → (o ≤ x) × (x < o + count)
unfolding offsets_from
in_offsets x o zero h = absurd h
in_offsets x o (suc count) (inl e) = (omega arith, omega arith)
in_offsets x o (suc count) (inr h) = let more = in_offsets x (o + 1) count h in (omega arith, omega arith)

in_sacked : (mask : List ℕ) (n ack i left x : ℕ) → In x (sacked_from mask n ack i left) → Speaks ack mask x
unfolding sacked_from
in_sacked mask n ack i zero x h = absurd h
in_sacked mask n ack i (suc left) x h = within (leb (ack + 2 + i) n) h (λ k. in_sacked mask n ack (i + 1) left x k)
  where
    rest : List ℕ
    rest = sacked_from mask n ack (i + 1) left

    here : (b : Bool) → bit_of mask i ≡ b → In x (cond b ((ack + 2 + i) ∷ []) []) → Speaks ack mask x
    here true e (inl f) = bit i e f
    here true e (inr f) = absurd f
    here false e f = absurd f

    within : (b : Bool) → In x (cond b (cond (bit_of mask i) ((ack + 2 + i) ∷ []) [] ++ rest) []) → (In x rest → Speaks ack mask x) → Speaks ack mask x
    within true k more = ⊎_elim (here (bit_of mask i) refl) more (in_append x (cond (bit_of mask i) ((ack + 2 + i) ∷ []) []) rest k)
    within false k more = absurd k

pub in_heard : (n ack : ℕ) (mask : List ℕ) (x : ℕ) → 1 ≤ ack → In x (heard_of n ack mask) → Speaks ack mask x
unfolding heard_of
in_heard n ack mask x some (inl e) = itself e
in_heard n ack mask x some (inr h) =
    ⊎_elim (in_sacked mask n ack 0 (8 * length mask) x) earlier (in_append x (sacked_from mask n ack 0 (8 * length mask)) (offsets_from 1 (ack - 1)) h)
  where
    earlier : In x (offsets_from 1 (ack - 1)) → Speaks ack mask x
    earlier k = let range = in_offsets x 1 (ack - 1) k in before range.0 (omega arith)

-- ---- acknowledging

-- A tracker whose packets are kept among those sent; what stays through a call.
pub record Stays (t next : Tracker) : Type 0 where
  pub initial : next.initial ≡ t.initial
  pub sent : next.sent ≡ t.sent
  pub kept : length next.packets ≤ next.sent

-- Marks in which each is as before, or is one of a list.
abbrev pub Grown : List Bool → List Bool → (ℕ → Type 0) → Type 0
Grown old new P = (x : ℕ) → 1 ≤ x → get_or new (x - 1) false ≡ true → (get_or old (x - 1) false ≡ true) ⊎ P x

marks-length : (t : Tracker) → length t.packets ≤ t.sent → length (marks_of t) ≡ t.sent
marks-length t h = simp (length-append, length-replicate, length-map) (omega arith)

map-set : {A B : Type 0} (f : A → B) (l : List A) (i : ℕ) (y : A) → map f (set l i y) ≡ set (map f l) i (f y)
map-set f [] i y = refl
map-set f (x ∷ l) zero y = refl
map-set f (x ∷ l) (suc i) y = ap (λ (k : List _). f x ∷ k) (map-set f l i y)

-- One mark more, at place i past the run of g.
grown_set : (g : ℕ) (m : List Bool) (i : ℕ) → Grown (replicate g true ++ m) (replicate g true ++ set m i true) (λ x. x ≡ g + i + 1)
grown_set g m i x some new = by_place (ltb (x - 1) g) refl
  where
    run : List Bool
    run = replicate g true

    Goal : Type 0
    Goal = (get_or (run ++ m) (x - 1) false ≡ true) ⊎ (x ≡ g + i + 1)

    j : ℕ
    j = x - 1 - g

    past : (l : List Bool) → g ≤ x - 1 → get_or (run ++ l) (x - 1) false ≡ get_or l j false
    past l h =
        let place : length run + j ≡ x - 1 = omega (arith, length-replicate g true) in
        ap (λ (k : ℕ). get_or (run ++ l) k false) (sym place) ∙ get_or-append-add run l j false

    by_same : g ≤ x - 1 → (b : Bool) → eqb j i ≡ b → Goal
    by_same h true e = inr (omega (arith, eqb-true j i e))
    by_same h false e = inl (past m h ∙ (sym (get_or-set_other m i j true false (eqb-false j i e)) ∙ (sym (past (set m i true) h) ∙ new)))

    by_place : (b : Bool) → ltb (x - 1) g ≡ b → Goal
    by_place true e =
        let below : x - 1 < g = ltb-true (x - 1) g e in
        inl (get_or-append run m false (x - 1) (omega (arith, length-replicate g true)) ∙ get_or-replicate g (x - 1) true false below)
    by_place false e = by_same (ltb-false (x - 1) g e) (eqb j i) refl

-- One packet.
pub one_stays : (delay clock : ℕ) (t : Tracker) (o : ℕ) → length t.packets ≤ t.sent → Stays t (acknowledged_of delay clock t o)
unfolding newly_acked_of
one_stays delay clock t o h = by_test (is_kept t o && is_unacked (packet_at t o))
  where
    by_test : (b : Bool) → Stays t (cond b (newly_acked_of t delay clock o) t)
    by_test true = record { initial = refl; sent = refl; kept = rw (length-set t.packets (o - gone_of t - 1) (with_acked (packet_at t o))) h }
    by_test false = record { initial = refl; sent = refl; kept = h }

one_grown : (delay clock : ℕ) (t : Tracker) (o : ℕ) → Grown (marks_of t) (marks_of (acknowledged_of delay clock t o)) (λ x. x ≡ o)
unfolding newly_acked_of
one_grown delay clock t o = by_test (is_kept t o && is_unacked (packet_at t o)) refl
  where
    i : ℕ
    i = o - gone_of t - 1

    next : List Packet
    next = set t.packets i (with_acked (packet_at t o))

    kept_above : (a b : Bool) → ltb (gone_of t) o ≡ a → ((a && b) && is_unacked (packet_at t o)) ≡ true → gone_of t < o
    kept_above true b e f = ltb-true _ _ e
    kept_above false b e f = let z : ◌≡◌ {A = ℕ} 0 1 = cc in absurd (omega arith)

    by_test : (b : Bool) → (is_kept t o && is_unacked (packet_at t o)) ≡ b → Grown (marks_of t) (marks_of (cond b (newly_acked_of t delay clock o) t)) (λ x. x ≡ o)
    by_test false e x some new = inl new
    by_test true e x some new =
        let above = kept_above (ltb (gone_of t) o) (leb o t.sent) refl e in
        let gone : t.sent - length next ≡ gone_of t = rw (length-set t.packets i (with_acked (packet_at t o))) in
        let marks : replicate (t.sent - length next) true ++ map mark next ≡ replicate (gone_of t) true ++ set (map mark t.packets) i true =
        ap₂ (λ (g : ℕ) (m : List Bool). replicate g true ++ m) gone (map-set mark t.packets i (with_acked (packet_at t o))) in
        ⊎_elim (λ k. inl k) (λ k. inr (omega arith)) (grown_set (gone_of t) (map mark t.packets) i x some (ap (λ (l : List Bool). get_or l (x - 1) false) (sym marks) ∙ new))

-- All that an ack speaks of.
pub all_stays : (delay clock : ℕ) (t : Tracker) (os : List ℕ) → length t.packets ≤ t.sent → Stays t (all_acknowledged_of delay clock t os)
unfolding all_acknowledged_of
all_stays delay clock t [] h = record { initial = refl; sent = refl; kept = h }
all_stays delay clock t (o ∷ os) h =
    let one = one_stays delay clock t o h in
    let rest = all_stays delay clock (acknowledged_of delay clock t o) os one.kept in
    record { initial = rest.initial ∙ one.initial; sent = rest.sent ∙ one.sent; kept = rest.kept }

all_grown : (delay clock : ℕ) (t : Tracker) (os : List ℕ) → Grown (marks_of t) (marks_of (all_acknowledged_of delay clock t os)) (λ x. In x os)
unfolding all_acknowledged_of
all_grown delay clock t [] x some new = inl new
all_grown delay clock t (o ∷ os) x some new =
    ⊎_elim (λ k. ⊎_elim (λ a. inl a) (λ e. inr (inl e)) (one_grown delay clock t o x some k)) (λ k. inr (inr k))
    (all_grown delay clock (acknowledged_of delay clock t o) os x some new)

-- Loss marks nothing as acknowledged, nor does the release of the run.
loss_same : (l : List Packet) → (map mark (loss_marked_of l) ≡ map mark l) × (length (loss_marked_of l) ≡ length l)
unfolding loss_marked_of
loss_same [] = (refl, refl)
loss_same (p ∷ l) =
    let rest = loss_same l in
    (ap₂ (λ (b : Bool) (m : List Bool). b ∷ m) (by_test (is_newly_lost_of p (acked_count_of l))) rest.0, ap suc rest.1)
  where
    by_test : (b : Bool) → mark (cond b (with_lost p 1) p) ≡ mark p
    by_test true = refl
    by_test false = refl

marks_loss : (t : Tracker) → marks_of (loss_of t) ≡ marks_of t
marks_loss t =
    let same = loss_same t.packets in
    ap₂ (λ (g : ℕ) (m : List Bool). replicate g true ++ m) (ap (λ (n : ℕ). t.sent - n) same.1) same.0

released_length : (l : List Packet) → length (from_unacked l) ≤ length l
unfolding from_unacked
released_length [] = omega arith
released_length (p ∷ l) = by_test (is_unacked p) (released_length l)
  where
    by_test : (b : Bool) → length (from_unacked l) ≤ length l → length (cond b (p ∷ l) (from_unacked l)) ≤ suc (length l)
    by_test true h = omega arith
    by_test false h = omega arith

released_marks : (g : ℕ) (l : List Packet) → replicate (g + (length l - length (from_unacked l))) true ++ map mark (from_unacked l) ≡ replicate g true ++ map mark l
unfolding from_unacked
released_marks g [] = ap (λ (n : ℕ). replicate n true ++ []) (add-zero g)
released_marks g (p ∷ l) = by_test (is_unacked p) refl (released_marks (suc g) l)
  where
    moved : (n : ℕ) → replicate (suc n) true ++ map mark l ≡ replicate n true ++ (true ∷ map mark l)
    moved zero = refl
    moved (suc n) = ap (λ (m : List Bool). true ∷ m) (moved n)

    by_test :
        (b : Bool) → is_unacked p ≡ b
        → replicate (suc g + (length l - length (from_unacked l))) true ++ map mark (from_unacked l) ≡ replicate (suc g) true ++ map mark l
        → replicate (g + (suc (length l) - length (cond b (p ∷ l) (from_unacked l)))) true ++ map mark (cond b (p ∷ l) (from_unacked l)) ≡ replicate g true ++ (mark p ∷ map mark l)
    by_test true e ih =
        let none : g + (suc (length l) - suc (length l)) ≡ g = omega arith in
        ap (λ (n : ℕ). replicate n true ++ (mark p ∷ map mark l)) none
    by_test false e ih =
        let count : g + (suc (length l) - length (from_unacked l)) ≡ suc g + (length l - length (from_unacked l)) = omega (arith, released_length l) in
        ap (λ (n : ℕ). replicate n true ++ map mark (from_unacked l)) count ∙ (ih ∙ (moved g ∙ ap (λ (b : Bool). replicate g true ++ (not b ∷ map mark l)) (sym e)))

marks_released : (t : Tracker) → length t.packets ≤ t.sent → marks_of (released_of t) ≡ marks_of t
marks_released t h =
    let fewer = released_length t.packets in
    ap (λ (n : ℕ). replicate n true ++ map mark (from_unacked t.packets)) (sum fewer) ∙ released_marks (gone_of t) t.packets
  where
    sum : length (from_unacked t.packets) ≤ length t.packets → t.sent - length (from_unacked t.packets) ≡ gone_of t + (length t.packets - length (from_unacked t.packets))
    sum fewer = omega arith

-- ---- an ack, whole

-- The tracker as a heard ack leaves it, but for the clock.
abbrev pub acked_by_of : Tracker → ℕ → List ℕ → ℕ → ℕ → Tracker
acked_by_of t o mask delay clock = released_of (marked_of t o mask delay clock)

pub ack_stays : (t : Tracker) (o : ℕ) (mask : List ℕ) (delay clock : ℕ) → length t.packets ≤ t.sent → Stays t (acked_by_of t o mask delay clock)
unfolding marked_of
ack_stays t o mask delay clock h =
    let all = all_stays delay clock t (heard_of t.sent o mask) h in
    let heard = all_acknowledged_of delay clock t (heard_of t.sent o mask) in
    record {
      initial = all.initial;
      sent = all.sent;
      kept = omega (arith, all.kept, released_length (loss_marked_of heard.packets), (loss_same heard.packets).1);
    }

pub ack_grown :
    (t : Tracker) (o : ℕ) (mask : List ℕ) (delay clock : ℕ) → length t.packets ≤ t.sent → 1 ≤ o
    → Grown (marks_of t) (marks_of (acked_by_of t o mask delay clock)) (Speaks o mask)
unfolding marked_of
ack_grown t o mask delay clock h some x above new =
    let os = heard_of t.sent o mask in
    let heard = all_acknowledged_of delay clock t os in
    let all = all_stays delay clock t os h in
    let lossy : length (loss_of heard).packets ≤ heard.sent = omega (arith, all.kept, (loss_same heard.packets).1) in
    let marks : marks_of (released_of (loss_of heard)) ≡ marks_of heard = marks_released (loss_of heard) lossy ∙ marks_loss heard in
    ⊎_elim (λ k. inl k) (λ k. inr (in_heard t.sent o mask x some k)) (all_grown delay clock t os x above (ap (λ (l : List Bool). get_or l (x - 1) false) (sym marks) ∙ new))
