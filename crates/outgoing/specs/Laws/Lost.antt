-- The lost list: how its order follows from the offsets, and how the k-th is found in the array.
use Rattle.std.specs.Prelude.{◌≡◌, Bool, leb, get_or}
use Rattle.std.proofs.Math.Path.{refl, sym, ap, ap₂}
use Rattle.std.proofs.Common.{◌∙◌, add-one}
use Rattle.std.proofs.Math.Bool.{true, false, cond}
use mathlib.Core.List.{List, [], ◌∷◌, ◌++◌, append-nil, append_assoc}
use Prim.Native.Nat.{ℕ, zero, suc, ◌+◌, ◌-◌, ◌*◌, ◌≤◌, ◌<◌}
use native.Mathlib.Omega.{arith}
use Rattle.std.proofs.Math.Dec.{eqb}
use Rattle.std.proofs.Math.ListN.{length, length-append}
use Rattle.std.proofs.Math.Seq.{slice, slice-cons, slice_empty}
use borrow.Author.Tests.{eq-eqb, ne_eqb, eqb-true, eqb-false, le-leb, lt-leb}
use Rattle.seq.specs.declared.SeqNum.{SeqNum}
use Rattle.packet.specs.declared.kind.PacketType.TheVariants.{Syn}
use Rattle.packet.specs.Kind.{type_of}
use Rattle.seq.specs.Seq.{plus_of}
use Rattle.outgoing.specs.declared.kept.Packet.{Packet}
use Rattle.outgoing.specs.declared.answer.LostPacket.{LostPacket}
use Rattle.outgoing.specs.Tracker.{no_packet}
use Rattle.outgoing.specs.Lost.{lost_packet_of, lost_from, insert_of, ascending_of, no_lost, lost_one, lost_count_of, nth_lost}

pub type_syn : (n : ℕ) → (n ≡ 0 → ⊥) → (n ≡ 1 → ⊥) → (n ≡ 2 → ⊥) → (n ≡ 3 → ⊥) → Syn ≡ type_of n
type_syn zero a b c d = absurd (a refl)
type_syn (suc zero) a b c d = absurd (b refl)
type_syn (suc (suc zero)) a b c d = absurd (c refl)
type_syn (suc (suc (suc zero))) a b c d = absurd (d refl)
type_syn (suc (suc (suc (suc n)))) a b c d = refl

pub lost_one_small : (p : Packet) → lost_one p ≤ 1
lost_one_small p = by_test (eqb p.lost 0)
  where
    by_test : (t : Bool) → cond t 0 1 ≤ 1
    by_test true = omega arith
    by_test false = omega arith

-- ---- a walk over a part of the array

module _ (a : List Packet) (to : ℕ) (within : to ≤ length a) where
  pub count_done : (n : ℕ) → n + lost_count_of (slice to to a) ≡ n
  unfolding lost_count_of
  count_done n = ap (λ (l : List Packet). n + lost_count_of l) (slice_empty to a) ∙ omega arith

  pub nth_done : (k : ℕ) → to + nth_lost (slice to to a) k ≡ to
  unfolding nth_lost
  nth_done k = ap (λ (l : List Packet). to + nth_lost l k) (slice_empty to a) ∙ omega arith

  module _ (i : ℕ) (h : i < to) where
    next : slice i to a ≡ get_or a i no_packet ∷ slice (i + 1) to a
    next = slice-cons i to a no_packet h within ∙ ap (λ (n : ℕ). get_or a i no_packet ∷ slice n to a) (sym (add-one i))

    pub count_next : (n : ℕ) → n + lost_one (get_or a i no_packet) + lost_count_of (slice (i + 1) to a) ≡ n + lost_count_of (slice i to a)
    unfolding lost_count_of
    count_next n =
        let c : n + lost_one (get_or a i no_packet) + lost_count_of (slice (i + 1) to a) ≡ n + (lost_one (get_or a i no_packet) + lost_count_of (slice (i + 1) to a)) = omega arith in
        c ∙ ap (λ (l : List Packet). n + lost_count_of l) (sym next)

    pub nth_skip : (k : ℕ) → (get_or a i no_packet).lost ≡ 0 → i + nth_lost (slice i to a) k ≡ i + 1 + nth_lost (slice (i + 1) to a) k
    unfolding nth_lost
    nth_skip k e =
        let l = slice (i + 1) to a in
        let c : i + (1 + nth_lost l k) ≡ i + 1 + nth_lost l k = omega arith in
        ap (λ (m : List Packet). i + nth_lost m k) next
        ∙ ap (λ (t : Bool). i + cond t (1 + nth_lost l k) (cond (eqb k 0) 0 (1 + nth_lost l (k - 1)))) (eq-eqb (get_or a i no_packet).lost 0 e)
        ∙ c

    pub nth_here : (k : ℕ) → ((get_or a i no_packet).lost ≡ 0 → ⊥) → k ≡ 0 → i + nth_lost (slice i to a) k ≡ i
    unfolding nth_lost
    nth_here k e z =
        let l = slice (i + 1) to a in
        let c : i + 0 ≡ i = omega arith in
        ap (λ (m : List Packet). i + nth_lost m k) next
        ∙ ap (λ (t : Bool). i + cond t (1 + nth_lost l k) (cond (eqb k 0) 0 (1 + nth_lost l (k - 1)))) (ne_eqb (get_or a i no_packet).lost 0 e)
        ∙ ap (λ (t : Bool). i + cond t 0 (1 + nth_lost l (k - 1))) (eq-eqb k 0 z)
        ∙ c

    pub nth_next : (k : ℕ) → ((get_or a i no_packet).lost ≡ 0 → ⊥) → (k ≡ 0 → ⊥) → i + nth_lost (slice i to a) k ≡ i + 1 + nth_lost (slice (i + 1) to a) (k - 1)
    unfolding nth_lost
    nth_next k e z =
        let l = slice (i + 1) to a in
        let c : i + (1 + nth_lost l (k - 1)) ≡ i + 1 + nth_lost l (k - 1) = omega arith in
        ap (λ (m : List Packet). i + nth_lost m k) next
        ∙ ap (λ (t : Bool). i + cond t (1 + nth_lost l k) (cond (eqb k 0) 0 (1 + nth_lost l (k - 1)))) (ne_eqb (get_or a i no_packet).lost 0 e)
        ∙ ap (λ (t : Bool). i + cond t 0 (1 + nth_lost l (k - 1))) (ne_eqb k 0 z)
        ∙ c

-- ---- the k-th of a list

module _ (initial : SeqNum) where
  pub lost_length : (l : List Packet) (o : ℕ) → length (lost_from initial o l) ≡ lost_count_of l
  unfolding lost_from lost_count_of
  lost_length [] o = refl
  lost_length (p ∷ l) o =
      length-append (cond (eqb p.lost 0) [] (lost_packet_of initial o p ∷ [])) (lost_from initial (o + 1) l)
      ∙ ap₂ (λ (x y : ℕ). x + y) (by_test (eqb p.lost 0)) (lost_length l (o + 1))
    where
      by_test : (t : Bool) → length (cond t [] (lost_packet_of initial o p ∷ [])) ≡ cond t 0 1
      by_test true = refl
      by_test false = refl

  pub nth_within : (l : List Packet) (k : ℕ) → k < lost_count_of l → nth_lost l k < length l
  unfolding lost_count_of nth_lost
  nth_within [] k h = absurd (omega arith)
  nth_within (p ∷ l) k h = by_lost (λ j q. nth_within l j q) (eqb p.lost 0) (eqb k 0) refl h
    where
      by_lost : ((j : ℕ) → j < lost_count_of l → nth_lost l j < length l) → (t u : Bool) → eqb k 0 ≡ u → k < cond t 0 1 + lost_count_of l
          → cond t (1 + nth_lost l k) (cond u 0 (1 + nth_lost l (k - 1))) < suc (length l)
      by_lost again true u e h = omega (arith, again k (omega arith))
      by_lost again false true e h = omega arith
      by_lost again false false e h = let z = eqb-false k 0 e in omega (arith, again (k - 1) (omega arith))

  pub nth_is : (l : List Packet) (o k : ℕ) → k < lost_count_of l
      → get_or (lost_from initial o l) k no_lost ≡ lost_packet_of initial (o + nth_lost l k) (get_or l (nth_lost l k) no_packet)
  unfolding lost_from lost_count_of nth_lost
  nth_is [] o k h = absurd (omega arith)
  nth_is (p ∷ l) o k h = by_lost (λ j q. nth_is l (o + 1) j q) (eqb p.lost 0) (eqb k 0) refl h
    where
      later : (j : ℕ) → lost_packet_of initial (o + 1 + nth_lost l j) (get_or l (nth_lost l j) no_packet) ≡ lost_packet_of initial (o + (1 + nth_lost l j)) (get_or (p ∷ l) (1 + nth_lost l j) no_packet)
      later j =
          let e : o + 1 + nth_lost l j ≡ o + (1 + nth_lost l j) = omega arith in
          let s : suc (nth_lost l j) ≡ 1 + nth_lost l j = omega arith in
          ap₂ (λ (x : ℕ) (y : ℕ). lost_packet_of initial x (get_or (p ∷ l) y no_packet)) e s

      by_lost : ((j : ℕ) → j < lost_count_of l → get_or (lost_from initial (o + 1) l) j no_lost ≡ lost_packet_of initial (o + 1 + nth_lost l j) (get_or l (nth_lost l j) no_packet))
          → (t u : Bool) → eqb k 0 ≡ u → k < cond t 0 1 + lost_count_of l
          → get_or (cond t [] (lost_packet_of initial o p ∷ []) ++ lost_from initial (o + 1) l) k no_lost
          ≡ lost_packet_of initial (o + cond t (1 + nth_lost l k) (cond u 0 (1 + nth_lost l (k - 1)))) (get_or (p ∷ l) (cond t (1 + nth_lost l k) (cond u 0 (1 + nth_lost l (k - 1)))) no_packet)
      by_lost again true u e h = again k (omega arith) ∙ later k
      by_lost again false true e h =
          let z : o ≡ o + 0 = omega arith in
          ap (λ (j : ℕ). get_or (lost_packet_of initial o p ∷ lost_from initial (o + 1) l) j no_lost) (eqb-true k 0 e)
          ∙ ap (λ (x : ℕ). lost_packet_of initial x p) z
      by_lost again false false e h =
          let n = eqb-false k 0 e in
          let s : k ≡ suc (k - 1) = omega arith in
          ap (λ (j : ℕ). get_or (lost_packet_of initial o p ∷ lost_from initial (o + 1) l) j no_lost) s ∙ again (k - 1) (omega arith) ∙ later (k - 1)

  pub lost_append : (l m : List Packet) (o : ℕ) → lost_from initial o (l ++ m) ≡ lost_from initial o l ++ lost_from initial (o + length l) m
  unfolding lost_from
  lost_append [] m o = let z : o ≡ o + 0 = omega arith in ap (λ (x : ℕ). lost_from initial x m) z
  lost_append (p ∷ l) m o =
      let z : o + 1 + length l ≡ o + suc (length l) = omega arith in
      ap (λ (x : List LostPacket). cond (eqb p.lost 0) [] (lost_packet_of initial o p ∷ []) ++ x) (lost_append l m (o + 1) ∙ ap (λ (x : ℕ). lost_from initial (o + 1) l ++ lost_from initial x m) z)
      ∙ sym (append_assoc (cond (eqb p.lost 0) [] (lost_packet_of initial o p ∷ [])) (lost_from initial (o + 1) l) (lost_from initial (o + suc (length l)) m))

-- ---- the order

-- numbers that rise, from low on
abbrev pub Rising : ℕ → List LostPacket → Type 0
Rising low [] = Unit {0}
Rising low (x ∷ l) = (low ≤ x.seq_num.0) × Rising (x.seq_num.0 + 1) l

abbrev pub Below : ℕ → List LostPacket → Type 0
Below high [] = Unit {0}
Below high (x ∷ l) = (x.seq_num.0 < high) × Below high l

insert_front : (x : LostPacket) (l : List LostPacket) → Rising (x.seq_num.0 + 1) l → insert_of x l ≡ x ∷ l
unfolding insert_of
insert_front x [] r = refl
insert_front x (y ∷ l) r = ap (λ (t : Bool). cond t (x ∷ y ∷ l) (y ∷ insert_of x l)) (le-leb x.seq_num.0 y.seq_num.0 (omega (arith, r.0)))

insert_behind : (x : LostPacket) (b l : List LostPacket) → Below x.seq_num.0 b → insert_of x (b ++ l) ≡ b ++ insert_of x l
unfolding insert_of
insert_behind x [] l e = refl
insert_behind x (y ∷ b) l e =
    ap (λ (t : Bool). cond t (x ∷ y ∷ (b ++ l)) (y ∷ insert_of x (b ++ l))) (lt-leb x.seq_num.0 y.seq_num.0 e.0)
    ∙ ap (λ (m : List LostPacket). y ∷ m) (insert_behind x b l e.1)

below_more : (low high : ℕ) (b : List LostPacket) → low ≤ high → Below low b → Below high b
below_more low high [] h e = tt
below_more low high (x ∷ b) h e = (omega (arith, e.0), below_more low high b h e.1)

rising_sorted : (low : ℕ) (l : List LostPacket) → Rising low l → ascending_of l ≡ l
unfolding ascending_of
rising_sorted low [] r = refl
rising_sorted low (x ∷ l) r = ap (insert_of x) (rising_sorted (x.seq_num.0 + 1) l r.1) ∙ insert_front x l r.1

-- Two lists that rise, the second below the first: it comes first.
pub swapped_sorted : (low low' : ℕ) (l b : List LostPacket) → Rising low l → Rising low' b → Below low b → ascending_of (l ++ b) ≡ b ++ l
unfolding ascending_of
swapped_sorted low low' [] b r s e = rising_sorted low' b s ∙ sym (append-nil b)
swapped_sorted low low' (x ∷ l) b r s e =
    let e' = below_more low (x.seq_num.0 + 1) b (omega (arith, r.0)) e in
    ap (insert_of x) (swapped_sorted (x.seq_num.0 + 1) low' l b r.1 s e')
    ∙ insert_behind x b l (below_more low x.seq_num.0 b r.0 e)
    ∙ ap (λ (m : List LostPacket). b ++ m) (insert_front x l r.1)

insert_length : (x : LostPacket) (l : List LostPacket) → length (insert_of x l) ≡ suc (length l)
unfolding insert_of
insert_length x [] = refl
insert_length x (y ∷ l) = by_test (insert_length x l) (leb x.seq_num.0 y.seq_num.0)
  where
    by_test : length (insert_of x l) ≡ suc (length l) → (t : Bool) → length (cond t (x ∷ y ∷ l) (y ∷ insert_of x l)) ≡ suc (suc (length l))
    by_test again true = refl
    by_test again false = ap suc again

pub sorted_length : (l : List LostPacket) → length (ascending_of l) ≡ length l
unfolding ascending_of
sorted_length [] = refl
sorted_length (x ∷ l) = insert_length x (ascending_of l) ∙ ap suc (sorted_length l)

-- Before the wrap (turn 0) or past it (turn 1), numbers rise with the offsets.
module _ (initial : SeqNum) (turn : ℕ) where
  number_is : (o : ℕ) → turn * 65536 ≤ initial.0 + o → initial.0 + o < turn * 65536 + 65536 → (plus_of initial o).0 ≡ initial.0 + o - turn * 65536
  number_is o h k = omega arith

  pub rising_offsets : (l : List Packet) (o low : ℕ) → turn * 65536 ≤ initial.0 + o → initial.0 + o + length l ≤ turn * 65536 + 65536 → low ≤ initial.0 + o - turn * 65536
      → Rising low (lost_from initial o l)
  unfolding lost_from
  rising_offsets [] o low h k b = tt
  rising_offsets (p ∷ l) o low h k b = by_test (λ low' b'. rising_offsets l (o + 1) low' (omega arith) (omega arith) b') (eqb p.lost 0)
    where
      by_test : ((low' : ℕ) → low' ≤ initial.0 + (o + 1) - turn * 65536 → Rising low' (lost_from initial (o + 1) l)) → (t : Bool)
          → Rising low (cond t [] (lost_packet_of initial o p ∷ []) ++ lost_from initial (o + 1) l)
      by_test again true = again low (omega arith)
      by_test again false = let e = number_is o h (omega arith) in (omega arith, again ((plus_of initial o).0 + 1) (omega arith))

  pub below_offsets : (l : List Packet) (o high : ℕ) → turn * 65536 ≤ initial.0 + o → initial.0 + o + length l ≤ turn * 65536 + 65536
      → initial.0 + o + length l ≤ turn * 65536 + high → Below high (lost_from initial o l)
  unfolding lost_from
  below_offsets [] o high h k b = tt
  below_offsets (p ∷ l) o high h k b = by_test (below_offsets l (o + 1) high (omega arith) (omega arith) (omega arith)) (eqb p.lost 0)
    where
      by_test : Below high (lost_from initial (o + 1) l) → (t : Bool) → Below high (cond t [] (lost_packet_of initial o p ∷ []) ++ lost_from initial (o + 1) l)
      by_test again true = again
      by_test again false = let e = number_is o h (omega arith) in (omega arith, again)
