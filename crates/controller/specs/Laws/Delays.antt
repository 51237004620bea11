-- The kept samples as a list and as the front of an array: what a walk from either end finds, and what the array holds after the sample is taken.
use Rattle.std.specs.Prelude.{◌≡◌, refl, Bool, true, false, ◌&&◌, cond, ℕ, zero, suc, ◌+◌, ◌-◌, ◌≤◌, ◌<◌, T, leb, ltb, eqb, length, take, get_or, set}
use Rattle.std.proofs.Common.{sym, ◌∙◌, subst, add_comm, add-one, arith, length-take, length-drop, length-append, drop_of_length-le, take-append-drop, take-suc, drop-cons, take_all, length-take-le, drop-drop, get_or-append-add, get_or-drop, get_or-take, take-take, eqb-true, le-ltb, lt-ltb, le-leb}
use Rattle.std.proofs.Math.Path.{ap}
use Rattle.std.proofs.Math.Bool.{and-false}
use mathlib.Core.List.{List, [], ◌∷◌, ◌++◌, append_assoc}
use Rattle.std.proofs.Math.ListN.{drop}
use Rattle.std.proofs.Math.Seq.{take-nil, drop-append-add}
use Rattle.std.proofs.lemmas.List.{take-append-le, set_at, set_split}
use Rattle.std.proofs.lemmas.Bool.{eqb-false, lt-leb}
use Rattle.controller.specs.declared.delays.Sample.{Sample}
use Rattle.controller.specs.declared.delays.Delays.{Delays}
use Rattle.controller.specs.Delays.{drop_front, onto, drop_back, most, expired_of, not_smaller_of, remaining_of, room_of, take_of, base_of, list_of, delays_of, no_sample, written_of, delay_below, time_by, kept_sound_of, moved_down_of, room_count_of}
use Rattle.congestion.specs.Laws.Numbers.{both}

-- ---- from the front

pub front_stops : (p : Sample → Bool) (l : List Sample) (i : ℕ) (d : Sample) → i < length l → p (get_or l i d) ≡ false → drop_front p (drop i l) ≡ drop i l
front_stops p l i d h e =
    ap (λ (m : List Sample). drop_front p m) (drop-cons l i d h)
    ∙ ap (λ (t : Bool). cond t (drop_front p (drop (suc i) l)) (get_or l i d ∷ drop (suc i) l)) e
    ∙ sym (drop-cons l i d h)

pub front_goes_on : (p : Sample → Bool) (l : List Sample) (i : ℕ) (d : Sample) → i < length l → p (get_or l i d) ≡ true
    → drop_front p (drop i l) ≡ drop_front p (drop (suc i) l)
front_goes_on p l i d h e =
    ap (λ (m : List Sample). drop_front p m) (drop-cons l i d h)
    ∙ ap (λ (t : Bool). cond t (drop_front p (drop (suc i) l)) (get_or l i d ∷ drop (suc i) l)) e

pub first_of : (kept : List Sample) (n : ℕ) (d : Sample) → 0 < n → 0 < length kept → base_of (take n kept) ≡ (get_or kept 0 d).delay
first_of [] n d h k = absurd (omega arith)
first_of (s ∷ l) zero d h k = absurd (omega arith)
first_of (s ∷ l) (suc n) d h k = refl

-- ---- from the back

onto_kept : (t : Bool) (y x : Sample) (m : List Sample) → onto t y (m ++ x ∷ []) ≡ y ∷ (m ++ x ∷ [])
onto_kept t y x [] = refl
onto_kept t y x (z ∷ m) = refl

pub back_last : (p : Sample → Bool) (m : List Sample) (x : Sample) → drop_back p (m ++ x ∷ []) ≡ cond (p x) (drop_back p m) (m ++ x ∷ [])
back_last p [] x = by_test (p x)
  where
    by_test : (t : Bool) → onto t x [] ≡ cond t [] (x ∷ [])
    by_test true = refl
    by_test false = refl
back_last p (y ∷ m) x = ap (λ (l : List Sample). onto (p y) y l) (back_last p m x) ∙ by_test (p x)
  where
    by_test : (t : Bool) → onto (p y) y (cond t (drop_back p m) (m ++ x ∷ [])) ≡ cond t (onto (p y) y (drop_back p m)) (y ∷ (m ++ x ∷ []))
    by_test true = refl
    by_test false = onto_kept (p y) y x m

pub back_stops : (p : Sample → Bool) (l : List Sample) (j : ℕ) (d : Sample) → j < length l → p (get_or l j d) ≡ false
    → drop_back p (take (suc j) l) ≡ take (suc j) l
back_stops p l j d h e =
    ap (λ (m : List Sample). drop_back p m) (take-suc l j d h)
    ∙ back_last p (take j l) (get_or l j d)
    ∙ ap (λ (t : Bool). cond t (drop_back p (take j l)) (take j l ++ get_or l j d ∷ [])) e
    ∙ sym (take-suc l j d h)

pub back_goes_on : (p : Sample → Bool) (l : List Sample) (j : ℕ) (d : Sample) → j < length l → p (get_or l j d) ≡ true
    → drop_back p (take (suc j) l) ≡ drop_back p (take j l)
back_goes_on p l j d h e =
    ap (λ (m : List Sample). drop_back p m) (take-suc l j d h)
    ∙ back_last p (take j l) (get_or l j d)
    ∙ ap (λ (t : Bool). cond t (drop_back p (take j l)) (take j l ++ get_or l j d ∷ [])) e

-- ---- moved down, one place at a time

pub moved_read : (kept : List Sample) (first i : ℕ) (d : Sample) → first + i < length kept
    → get_or (take i (drop first kept) ++ drop i kept) (first + i) d ≡ get_or (drop first kept) i d
moved_read kept first i d h =
    let len : length (take i (drop first kept)) ≡ i = simp (length-take, length-drop) (omega arith) in
    ap (λ (k : ℕ). get_or (take i (drop first kept) ++ drop i kept) k d) (add_comm first i ∙ ap (λ (k : ℕ). k + first) (sym len))
    ∙ get_or-append-add (take i (drop first kept)) (drop i kept) first d
    ∙ get_or-drop i kept first d
    ∙ ap (λ (k : ℕ). get_or kept k d) (add_comm i first)
    ∙ sym (get_or-drop first kept i d)

pub moved_one : (kept : List Sample) (first i : ℕ) (d : Sample) → first + i < length kept
    → set (take i (drop first kept) ++ drop i kept) i (get_or (drop first kept) i d) ≡ take (suc i) (drop first kept) ++ drop (suc i) kept
moved_one kept first i d h =
    let s = drop first kept in
    let len : length (take i s) ≡ i = simp (length-take, length-drop) (omega arith) in
    let inside : i < length s = simp length-drop (omega arith) in
    ap (λ (l : List Sample). set (take i s ++ l) i (get_or s i d)) (drop-cons kept i d (omega arith))
    ∙ set_at (take i s) (get_or kept i d) (drop (suc i) kept) (get_or s i d) i len
    ∙ sym (append_assoc (take i s) (get_or s i d ∷ []) (drop (suc i) kept))
    ∙ ap (λ (l : List Sample). l ++ drop (suc i) kept) (sym (take-suc s i d inside))

-- what has been moved down is as long as before, so that one length tells the other
pub moved_full : (kept : List Sample) (first left : ℕ) → first + left ≤ most → length (take left (drop first kept) ++ drop left kept) ≡ most → length kept ≡ most
moved_full kept first left h e =
    omega (arith, length-append (take left (drop first kept)) (drop left kept), length-take left (drop first kept), length-drop first kept, length-drop left kept, e)

-- from the front on, all stand already
pub moved_none : (d : Delays) (first left : ℕ) → moved_down_of d first (cond (eqb first 0) left 0) ≡ d
moved_none d first left = by_test (eqb first 0) refl
  where
    by_test : (t : Bool) → eqb first 0 ≡ t → moved_down_of d first (cond t left 0) ≡ d
    by_test true e =
        ap (λ (k : ℕ). moved_down_of d k left) (eqb-true first 0 e)
        ∙ ap (λ (l : List Sample). with_list l) (take-append-drop left d.kept)
      where
        with_list : List Sample → Delays
        with_list l = record { kept = l; count = d.count }
    by_test false e = refl

-- ---- room for one more

pub room_is : (l : List Sample) (n : ℕ) → length l ≡ n → room_of l ≡ take (room_count_of n) l
unfolding room_of
room_is l n e = ap (λ (k : ℕ). cond (eqb k most) (take (most - 1) l) l) e ∙ by_test (eqb n most)
  where
    by_test : (t : Bool) → cond t (take (most - 1) l) l ≡ take (cond t (most - 1) n) l
    by_test true = refl
    by_test false = sym (take_all n l (omega arith))

pub room_at_most : (n : ℕ) → n ≤ most → (room_count_of n ≤ n) × (room_count_of n < most)
room_at_most n h = by_test (eqb n most) refl
  where
    by_test : (t : Bool) → eqb n most ≡ t → (cond t (most - 1) n ≤ n) × (cond t (most - 1) n < most)
    by_test true e = let q = eqb-true n most e in (omega arith, omega arith)
    by_test false e = let q = eqb-false n most e in (omega arith, omega arith)

-- A sample put behind what stays of r, which stands over the front of a full array.
pub put_behind : (kept r : List Sample) (n : ℕ) (s : Sample) → length kept ≡ most → length r ≡ n → n ≤ most
    → set (r ++ drop n kept) (room_count_of n) s ≡ (take (room_count_of n) r ++ s ∷ []) ++ drop (suc (room_count_of n)) kept
put_behind kept r n s full len h = by_test (eqb n most) refl
  where
    whole : (k : ℕ) → k ≤ n → k < most → drop (suc k) (r ++ drop n kept) ≡ drop (suc k) kept
        → set (r ++ drop n kept) k s ≡ (take k r ++ s ∷ []) ++ drop (suc k) kept
    whole k a b e =
        set_split (r ++ drop n kept) k s (simp (length-append, length-drop) (omega arith))
        ∙ ap (λ (l : List Sample). l ++ s ∷ drop (suc k) (r ++ drop n kept)) (take-append-le k r (drop n kept) (omega arith))
        ∙ ap (λ (l : List Sample). take k r ++ s ∷ l) e
        ∙ sym (append_assoc (take k r) (s ∷ []) (drop (suc k) kept))

    by_test : (t : Bool) → eqb n most ≡ t
        → set (r ++ drop n kept) (cond t (most - 1) n) s ≡ (take (cond t (most - 1) n) r ++ s ∷ []) ++ drop (suc (cond t (most - 1) n)) kept
    by_test true e =
        let q = eqb-true n most e in
        whole (most - 1) (omega arith) (omega arith)
        (drop_of_length-le (r ++ drop n kept) {i = most} (simp (length-append, length-drop) (omega arith)) ∙ sym (drop_of_length-le kept {i = most} (omega arith)))
    by_test false e =
        let q = eqb-false n most e in
        whole n (omega arith) (omega arith)
        (ap (λ (k : ℕ). drop k (r ++ drop n kept)) (sym (add-one n) ∙ ap (λ (k : ℕ). k + 1) (sym len))
        ∙ drop-append-add r (drop n kept) 1
        ∙ drop-drop 1 n kept
        ∙ ap (λ (k : ℕ). drop k kept) (add-one n))

-- ---- the soundness test

pub sound_behind : (last : ℕ) (l : List Sample) (i : ℕ) → kept_sound_of last l ≡ true → kept_sound_of last (drop i l) ≡ true
sound_behind last l zero e = e
sound_behind last [] (suc i) e = refl
sound_behind last (s ∷ l) (suc i) e = sound_behind last l i (both (ltb s.delay (delay_below l) && leb s.at (time_by last l)) (kept_sound_of last l) e).1

pub unsound_behind : (last : ℕ) (l : List Sample) (i : ℕ) → kept_sound_of last (drop i l) ≡ false → kept_sound_of last l ≡ false
unsound_behind last l i e = by_test (kept_sound_of last l) refl
  where
    by_test : (t : Bool) → kept_sound_of last l ≡ t → kept_sound_of last l ≡ false
    by_test true q = absurd (subst T (sym (sound_behind last l i q) ∙ e) tt)
    by_test false q = q

-- ---- the list at the front of a full array

pub list_length : (kept : List Sample) (n : ℕ) → length kept ≡ most → n ≤ most → length (take n kept) ≡ n
list_length kept n full h = length-take-le n kept (omega arith)

pub list_at : (kept : List Sample) (n i : ℕ) (d : Sample) → i < n → get_or (take n kept) i d ≡ get_or kept i d
list_at kept n i d h = get_or-take n kept i d h

-- the sample that a walk from the back reads next, with what stands behind it
pub list_next : (d : Delays) (i : ℕ) (x : Sample) → length d.kept ≡ most → d.count ≤ most → 0 < i → i ≤ d.count → x ≡ get_or d.kept (i - 1) no_sample
    → drop (i - 1) (list_of d) ≡ x ∷ drop i (list_of d)
list_next d i x full few some i_in read =
    let e : suc (i - 1) ≡ i = omega arith in
    drop-cons (list_of d) (i - 1) no_sample (omega (arith, list_length d.kept d.count full few))
    ∙ ap (λ (s : Sample). s ∷ drop (suc (i - 1)) (list_of d)) (list_at d.kept d.count (i - 1) no_sample (omega arith) ∙ sym read)
    ∙ ap (λ (k : ℕ). x ∷ drop k (list_of d)) e

-- dropping from the back of what stands from `first` on, past what it reads
pub back_next : (p : Sample → Bool) (d : Delays) (first i : ℕ) (x : Sample) → length d.kept ≡ most → d.count ≤ most → first < i → i ≤ d.count
    → x ≡ get_or d.kept (i - 1) no_sample
    → drop_back p (take (i - first) (drop first (list_of d)))
    ≡ cond (p x) (drop_back p (take (i - 1 - first) (drop first (list_of d)))) (take (i - first) (drop first (list_of d)))
back_next p d first i x full few some i_in read =
    let l = drop first (list_of d) in
    let e : suc (i - 1 - first) ≡ i - first = omega arith in
    let f : first + (i - 1 - first) ≡ i - 1 = omega arith in
    let one_more : take (i - first) l ≡ take (i - 1 - first) l ++ x ∷ [] =
    ap (λ (k : ℕ). take k l) (sym e)
    ∙ take-suc l (i - 1 - first) no_sample (omega (arith, length-drop first (list_of d), list_length d.kept d.count full few))
    ∙ ap (λ (s : Sample). take (i - 1 - first) l ++ s ∷ [])
    (get_or-drop first (list_of d) (i - 1 - first) no_sample
    ∙ ap (λ (k : ℕ). get_or (list_of d) k no_sample) f
    ∙ list_at d.kept d.count (i - 1) no_sample (omega arith)
    ∙ sym read)
    in
    ap (drop_back p) one_more
    ∙ back_last p (take (i - 1 - first) l) x
    ∙ ap (cond (p x) (drop_back p (take (i - 1 - first) l))) (sym one_more)

-- ---- one more sample at the front, in the soundness test

module _ (last : ℕ) (l r : List Sample) (x : Sample) (i : ℕ) (e : drop i l ≡ x ∷ r) where
  pub unsound_by_delay : delay_below r ≤ x.delay → kept_sound_of last l ≡ false
  unsound_by_delay h = unsound_behind last l i (ap (kept_sound_of last) e ∙ simp (le-ltb x.delay (delay_below r) h))

  pub unsound_by_time : time_by last r < x.at → kept_sound_of last l ≡ false
  unsound_by_time h =
      unsound_behind last l i (ap (kept_sound_of last) e ∙ simp (lt-leb x.at (time_by last r) h, and-false))

  pub sound_with : x.delay < delay_below r → x.at ≤ time_by last r → kept_sound_of last r ≡ true → kept_sound_of last (drop i l) ≡ true
  sound_with h k s = ap (kept_sound_of last) e ∙ simp (lt-ltb x.delay (delay_below r) h, le-leb x.at (time_by last r) k, s)

-- ---- the array after the sample is taken

drop-take : (n k : ℕ) (l : List Sample) → k ≤ n → drop k (take n l) ≡ take (n - k) (drop k l)
drop-take n zero l h = let e : n ≡ n - 0 = omega arith in ap (λ (m : ℕ). take m l) e
drop-take zero (suc k) l h = absurd (omega arith)
drop-take (suc n) (suc k) [] h = sym (take-nil (suc n - suc k))
drop-take (suc n) (suc k) (x ∷ l) h =
    let e : n - k ≡ suc n - suc k = omega arith in
    drop-take n k l (omega arith) ∙ ap (λ (m : ℕ). take m (drop k l)) e

-- what stays of the list is the same part of the array
part_of_array : (kept : List Sample) (n first left : ℕ) → first ≤ n → left ≤ n - first → take left (drop first (take n kept)) ≡ take left (drop first kept)
part_of_array kept n first left h k = ap (take left) (drop-take n first kept h) ∙ take-take left (n - first) (drop first kept) k

module _ (d : Delays) (delay clock window first left : ℕ) (full : length d.kept ≡ most) (few : d.count ≤ most) (first_in : first ≤ d.count)
    (left_in : left ≤ d.count - first) (front : drop_front (expired_of window clock) (list_of d) ≡ drop first (list_of d))
    (back : drop_back (not_smaller_of delay) (drop first (list_of d)) ≡ take left (drop first (list_of d))) where
  stays : List Sample
  stays = take left (drop first d.kept)

  stays_length : length stays ≡ left
  unfolding stays
  stays_length = simp (length-take, length-drop) (omega arith)

  remaining_is : remaining_of window delay clock (list_of d) ≡ stays
  unfolding remaining_of stays
  remaining_is =
      ap (λ (l : List Sample). drop_back (not_smaller_of delay) l) front ∙ back ∙ part_of_array d.kept d.count first left first_in left_in

  taken_list : take_of window delay clock (list_of d) ≡ take (room_count_of left) stays ++ record { delay = delay; at = clock } ∷ []
  unfolding take_of
  taken_list =
      ap (λ (l : List Sample). room_of l ++ record { delay = delay; at = clock } ∷ []) remaining_is
      ∙ ap (λ (l : List Sample). l ++ record { delay = delay; at = clock } ∷ []) (room_is stays left stays_length)

  taken_length : length (take_of window delay clock (list_of d)) ≡ suc (room_count_of left)
  taken_length =
      let r = room_at_most left (omega arith) in
      ap length taken_list
      ∙ length-append (take (room_count_of left) stays) (record { delay = delay; at = clock } ∷ [])
      ∙ ap (λ (n : ℕ). n + 1) (length-take-le (room_count_of left) stays (omega (arith, stays_length)))
      ∙ add-one (room_count_of left)

  pub taken_is : delays_of (set (moved_down_of d first left).kept (room_count_of left) (record { delay = delay; at = clock })) (suc (room_count_of left))
      ≡ written_of d (take_of window delay clock (list_of d))
  unfolding stays
  taken_is =
      ap (λ (l : List Sample). delays_of l (suc (room_count_of left))) (put_behind d.kept stays left (record { delay = delay; at = clock }) full stays_length (omega arith))
      ∙ ap (λ (n : ℕ). delays_of ((take (room_count_of left) stays ++ record { delay = delay; at = clock } ∷ []) ++ drop n d.kept) n)
      (sym taken_length)
      ∙ ap (λ (l : List Sample). delays_of (l ++ drop (length (take_of window delay clock (list_of d))) d.kept) (length (take_of window delay clock (list_of d)))) (sym taken_list)
