-- Taking the same sample again right after it was taken changes nothing, so that an ack may take it once for all packets that it acknowledges.
use Rattle.std.specs.Prelude.{◌≡◌, refl, Bool, true, false, ◌&&◌, not, ℕ, zero, suc, ◌+◌, ◌-◌, ◌≤◌, ◌<◌, leb, ltb, eqb, length, take, drop}
use Rattle.std.proofs.Common.{sym, ap₂, ◌∙◌, arith, length-take-le, le-leb, leb-false, ltb-true, ne_eqb, eqb-true}
use Rattle.std.proofs.Math.Path.{ap}
use Rattle.std.proofs.Math.Bool.{cond}
use mathlib.Core.List.{List, [], ◌∷◌, ◌++◌}
use Rattle.std.proofs.Math.Seq.{take-append_seam, drop-append_seam}
use Rattle.std.proofs.lemmas.Bool.{lt-leb, not-true}
use Rattle.controller.specs.declared.delays.Sample.{Sample}
use Rattle.controller.specs.declared.delays.Delays.{Delays}
use Rattle.controller.specs.Delays.{drop_front, onto, drop_back, most, expired_of, not_smaller_of, remaining_of, room_of, take_of, list_of, written_of, taken_of, delay_below, time_by, kept_sound_of, delays_sound_of}
use Rattle.congestion.specs.Laws.Numbers.{both, and_of}
use Rattle.controller.specs.Laws.Delays.{back_last}

-- ---- a list whose first does not pass the test

abbrev head_not : (Sample → Bool) → List Sample → Bool
head_not p [] = true
head_not p (x ∷ l) = not (p x)

front_kept : (p : Sample → Bool) (l : List Sample) → head_not p l ≡ true → drop_front p l ≡ l
front_kept p [] e = refl
front_kept p (x ∷ l) e = ap (λ (t : Bool). cond t (drop_front p l) (x ∷ l)) (not-true (p x) e)

head_not_front : (p : Sample → Bool) (l : List Sample) → head_not p (drop_front p l) ≡ true
head_not_front p [] = refl
head_not_front p (x ∷ l) = by_test (head_not_front p l) (p x) refl
  where
    by_test : head_not p (drop_front p l) ≡ true → (t : Bool) → p x ≡ t → head_not p (cond t (drop_front p l) (x ∷ l)) ≡ true
    by_test again true e = again
    by_test again false e = ap not e

head_not_onto : (p : Sample → Bool) (t : Bool) (x : Sample) (d : List Sample) → not (p x) ≡ true → head_not p (onto t x d) ≡ true
head_not_onto p true x [] e = refl
head_not_onto p false x [] e = e
head_not_onto p true x (y ∷ d) e = e
head_not_onto p false x (y ∷ d) e = e

head_not_back : (p q : Sample → Bool) (l : List Sample) → head_not p l ≡ true → head_not p (drop_back q l) ≡ true
head_not_back p q [] e = refl
head_not_back p q (x ∷ l) e = head_not_onto p (q x) x (drop_back q l) e

head_not_take : (p : Sample → Bool) (k : ℕ) (l : List Sample) → head_not p l ≡ true → head_not p (take k l) ≡ true
head_not_take p zero l e = refl
head_not_take p (suc k) [] e = refl
head_not_take p (suc k) (x ∷ l) e = e

head_not_room : (p : Sample → Bool) (l : List Sample) → head_not p l ≡ true → head_not p (room_of l) ≡ true
unfolding room_of
head_not_room p l e = by_test (eqb (length l) most)
  where
    by_test : (t : Bool) → head_not p (cond t (take (most - 1) l) l) ≡ true
    by_test true = head_not_take p (most - 1) l e
    by_test false = e

head_not_append : (p : Sample → Bool) (l : List Sample) (x : Sample) → head_not p l ≡ true → p x ≡ false → head_not p (l ++ x ∷ []) ≡ true
head_not_append p [] x e n = ap not n
head_not_append p (y ∷ l) x e n = e

-- ---- a list of which none passes the test

abbrev none_of : (Sample → Bool) → List Sample → Bool
none_of p [] = true
none_of p (x ∷ l) = not (p x) && none_of p l

back_kept : (p : Sample → Bool) (l : List Sample) → none_of p l ≡ true → drop_back p l ≡ l
back_kept p [] e = refl
back_kept p (x ∷ l) e =
    let b = both (not (p x)) (none_of p l) e in
    ap₂ (λ (t : Bool) (d : List Sample). onto t x d) (not-true (p x) b.0) (back_kept p l b.1) ∙ alone l
  where
    alone : (d : List Sample) → onto false x d ≡ x ∷ d
    alone [] = refl
    alone (y ∷ d) = refl

none-take : (p : Sample → Bool) (k : ℕ) (l : List Sample) → none_of p l ≡ true → none_of p (take k l) ≡ true
none-take p zero l e = refl
none-take p (suc k) [] e = refl
none-take p (suc k) (x ∷ l) e = let b = both (not (p x)) (none_of p l) e in and_of (not (p x)) (none_of p (take k l)) b.0 (none-take p k l b.1)

none_room : (p : Sample → Bool) (l : List Sample) → none_of p l ≡ true → none_of p (room_of l) ≡ true
unfolding room_of
none_room p l e = by_test (eqb (length l) most)
  where
    by_test : (t : Bool) → none_of p (cond t (take (most - 1) l) l) ≡ true
    by_test true = none-take p (most - 1) l e
    by_test false = e

-- Where delays rise, what remains from the back is all smaller.
sound_front : (last : ℕ) (p : Sample → Bool) (l : List Sample) → kept_sound_of last l ≡ true → kept_sound_of last (drop_front p l) ≡ true
sound_front last p [] e = refl
sound_front last p (x ∷ l) e =
    by_test (sound_front last p l (both (ltb x.delay (delay_below l) && leb x.at (time_by last l)) (kept_sound_of last l) e).1) (p x)
  where
    by_test : kept_sound_of last (drop_front p l) ≡ true → (t : Bool) → kept_sound_of last (cond t (drop_front p l) (x ∷ l)) ≡ true
    by_test again true = again
    by_test again false = e

onto-first : (t : Bool) (x y : Sample) (d : List Sample) → onto t x (y ∷ d) ≡ x ∷ y ∷ d
onto-first true x y d = refl
onto-first false x y d = refl

none_remain : (delay last : ℕ) (l : List Sample) → kept_sound_of last l ≡ true
    → (none_of (not_smaller_of delay) (drop_back (not_smaller_of delay) l) ≡ true) × (((y : Sample) (d : List Sample) → drop_back (not_smaller_of delay) l ≡ y ∷ d → y.delay ≡ delay_below l))
none_remain delay last [] e = (refl, λ y d q. cc)
none_remain delay last (x ∷ l) e =
    let b = both (ltb x.delay (delay_below l) && leb x.at (time_by last l)) (kept_sound_of last l) e in
    let rises = ltb-true x.delay (delay_below l) (both (ltb x.delay (delay_below l)) (leb x.at (time_by last l)) b.0).0 in
    let again = none_remain delay last l b.1 in
    (by_rest again.0 again.1 rises (drop_back (not_smaller_of delay) l) refl, λ y d q. head (not_smaller_of delay x) (drop_back (not_smaller_of delay) l) y d q)
  where
    head : (t : Bool) (r : List Sample) (y : Sample) (d : List Sample) → onto t x r ≡ y ∷ d → y.delay ≡ x.delay
    head true [] y d q = cc
    head false [] y d q = cc
    head true (z ∷ r) y d q = cc
    head false (z ∷ r) y d q = cc

    alone : (t : Bool) → not_smaller_of delay x ≡ t → none_of (not_smaller_of delay) (onto t x []) ≡ true
    alone true q = refl
    alone false q = and_of (not (not_smaller_of delay x)) true (ap not q) refl

    by_rest : none_of (not_smaller_of delay) (drop_back (not_smaller_of delay) l) ≡ true
        → ((y : Sample) (d : List Sample) → drop_back (not_smaller_of delay) l ≡ y ∷ d → y.delay ≡ delay_below l)
        → x.delay < delay_below l
        → (r : List Sample) → drop_back (not_smaller_of delay) l ≡ r → none_of (not_smaller_of delay) (onto (not_smaller_of delay x) x (drop_back (not_smaller_of delay) l)) ≡ true
    by_rest n h r [] q = ap (λ (d : List Sample). none_of (not_smaller_of delay) (onto (not_smaller_of delay x) x d)) q ∙ alone (not_smaller_of delay x) refl
    by_rest n h r (y ∷ d) q =
        let none : none_of (not_smaller_of delay) (y ∷ d) ≡ true = sym (ap (none_of (not_smaller_of delay)) q) ∙ n in
        let small = leb-false delay y.delay (not-true (not_smaller_of delay y) (both (not (not_smaller_of delay y)) (none_of (not_smaller_of delay) d) none).0) in
        let smaller : not_smaller_of delay x ≡ false = lt-leb delay x.delay (omega (arith, h y d q)) in
        ap (λ (e : List Sample). none_of (not_smaller_of delay) (onto (not_smaller_of delay x) x e)) q
        ∙ ap (none_of (not_smaller_of delay)) (onto-first (not_smaller_of delay x) x y d)
        ∙ and_of (not (not_smaller_of delay x)) (none_of (not_smaller_of delay) (y ∷ d)) (ap not smaller) none

-- ---- room is found again

room_again : (l : List Sample) → room_of (room_of l) ≡ room_of l
unfolding room_of
room_again l = by_test (eqb (length l) most) refl
  where
    by_test : (t : Bool) → eqb (length l) most ≡ t → room_of (cond t (take (most - 1) l) l) ≡ cond t (take (most - 1) l) l
    by_test true e =
        let len = eqb-true (length l) most e in
        let short : length (take (most - 1) l) ≡ most - 1 = length-take-le (most - 1) l (omega arith) in
        ap (λ (t : Bool). cond t (take (most - 1) (take (most - 1) l)) (take (most - 1) l)) (ne_eqb (length (take (most - 1) l)) most (λ z. omega arith))
    by_test false e = ap (λ (t : Bool). cond t (take (most - 1) l) l) e

-- ---- the sample taken again

module _ (window delay clock last : ℕ) (l : List Sample) (wide : 1 ≤ window) (sound : kept_sound_of last l ≡ true) where
  abbrev x : Sample
  x = record { delay = delay; at = clock }

  abbrev m : List Sample
  m = room_of (remaining_of window delay clock l)

  front : drop_front (expired_of window clock) (m ++ x ∷ []) ≡ m ++ x ∷ []
  unfolding remaining_of
  front =
      let e = expired_of window clock in
      front_kept e (m ++ x ∷ [])
      (head_not_append e m x
      (head_not_room e (remaining_of window delay clock l) (head_not_back e (not_smaller_of delay) (drop_front e l) (head_not_front e l)))
      (lt-leb (clock + window) clock (omega arith)))

  back : drop_back (not_smaller_of delay) (m ++ x ∷ []) ≡ m
  unfolding remaining_of
  back =
      back_last (not_smaller_of delay) m x
      ∙ ap (λ (t : Bool). cond t (drop_back (not_smaller_of delay) m) (m ++ x ∷ [])) (le-leb delay delay (omega arith))
      ∙ back_kept (not_smaller_of delay) m
      (none_room (not_smaller_of delay) (remaining_of window delay clock l)
      (none_remain delay last (drop_front (expired_of window clock) l) (sound_front last (expired_of window clock) l sound)).0)

  pub take_again : take_of window delay clock (take_of window delay clock l) ≡ take_of window delay clock l
  unfolding take_of remaining_of
  take_again =
      ap (λ (d : List Sample). room_of (drop_back (not_smaller_of delay) d) ++ x ∷ []) front
      ∙ ap (λ (d : List Sample). room_of d ++ x ∷ []) back
      ∙ ap (λ (d : List Sample). d ++ x ∷ []) (room_again (remaining_of window delay clock l))

-- ---- in the state

pub taken_again : (d : Delays) (delay clock window last : ℕ) → 1 ≤ window → delays_sound_of last d ≡ true
    → taken_of (taken_of d delay clock window) delay clock window ≡ taken_of d delay clock window
taken_again d delay clock window last w s =
    ap (λ (e : Delays). taken_of e delay clock window) first ∙ by_test (leb (length l) most) ∙ sym first
  where
    l : List Sample
    l = take_of window delay clock (list_of d)

    first : taken_of d delay clock window ≡ written_of d l
    first = ap (λ (t : Bool). cond t (written_of d l) d) (both (leb d.count most) (kept_sound_of last (list_of d)) s).0

    same_list : list_of (written_of d l) ≡ l
    same_list = take-append_seam l (drop (length l) d.kept)

    whole : take_of window delay clock (list_of (written_of d l)) ≡ l
    whole = ap (take_of window delay clock) same_list ∙ take_again window delay clock last (list_of d) w (both (leb d.count most) (kept_sound_of last (list_of d)) s).1

    with_kept : List Sample → Delays
    with_kept kept = record { kept = kept; count = length l }

    by_test : (t : Bool) → cond t (written_of (written_of d l) (take_of window delay clock (list_of (written_of d l)))) (written_of d l) ≡ written_of d l
    by_test true = ap (written_of (written_of d l)) whole ∙ ap (λ (k : List Sample). with_kept (l ++ k)) (drop-append_seam l (drop (length l) d.kept))
    by_test false = refl
