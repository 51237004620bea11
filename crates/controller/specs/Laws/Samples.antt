-- The kept samples in order: delays rise and times do not fall from each to the next. Taking a sample keeps that order, and taking it twice at one
-- moment is taking it once.
use Rattle.std.specs.Prelude.{◌≡◌, refl, Bool, true, false, ◌&&◌, cond, List, [], ◌∷◌, ◌++◌, ℕ, zero, suc, ◌+◌, ◌-◌, ◌≤◌, ◌<◌, leb, ltb, eqb, length, take, drop, get_or}
use Rattle.std.proofs.Common.{sym, ap, ◌∙◌, arith, drop-cons, length-append, length-take, take_at, drop_at, leb-true, leb-false, ltb-true, le-leb, lt-ltb, ne_eqb}
use Rattle.std.proofs.Math.Path.{subst⁻¹}
use Rattle.std.proofs.lemmas.Bool.{lt-leb}
use Rattle.controller.specs.declared.delays.Sample.{Sample}
use Rattle.controller.specs.declared.delays.Delays.{Delays}
use Rattle.congestion.specs.Settings.{latest}
use Rattle.controller.specs.Delays.{drop_front, onto, drop_back, most, expired_of, not_smaller_of, remaining_of, room_of, take_of, base_of, list_of, delays_of, no_sample, written_of, taken_of, delay_below, time_by, kept_sound_of, delays_sound_of, room_count_of}
use Rattle.congestion.specs.Laws.Numbers.{both, and_of}
use Rattle.controller.specs.Laws.Delays.{back_last, room_is, room_at_most, list_length, list_at}

-- ---- in order, up to a delay and a time

abbrev pub first_delay : ℕ → List Sample → ℕ
first_delay below [] = below
first_delay below (s ∷ l) = s.delay

abbrev pub first_time : ℕ → List Sample → ℕ
first_time by [] = by
first_time by (s ∷ l) = s.at

abbrev pub InOrder : ℕ → ℕ → List Sample → Type 0
InOrder below by [] = Unit
InOrder below by (s ∷ l) = (s.delay < first_delay below l) × (s.at ≤ first_time by l) × InOrder below by l

delay_bound : (l : List Sample) → delay_below l ≡ first_delay (suc latest) l
delay_bound [] = refl
delay_bound (s ∷ l) = refl

time_bound : (last : ℕ) (l : List Sample) → time_by last l ≡ first_time last l
time_bound last [] = refl
time_bound last (s ∷ l) = refl

-- the soundness test is that order, up to 2^50 and the last accepted now
pub sound_in_order : (last : ℕ) (l : List Sample) → kept_sound_of last l ≡ true → InOrder (suc latest) last l
sound_in_order last [] e = tt
sound_in_order last (s ∷ l) e =
    let p = both (ltb s.delay (delay_below l) && leb s.at (time_by last l)) (kept_sound_of last l) e in
    let q = both (ltb s.delay (delay_below l)) (leb s.at (time_by last l)) p.0 in
    (rw (delay_bound l) at (ltb-true s.delay (delay_below l) q.0), rw (time_bound last l) at (leb-true s.at (time_by last l) q.1), sound_in_order last l p.1)

pub in_order_sound : (last : ℕ) (l : List Sample) → InOrder (suc latest) last l → kept_sound_of last l ≡ true
in_order_sound last [] h = refl
in_order_sound last (s ∷ l) h =
    and_of (ltb s.delay (delay_below l) && leb s.at (time_by last l)) (kept_sound_of last l)
    (and_of (ltb s.delay (delay_below l)) (leb s.at (time_by last l))
    (lt-ltb s.delay (delay_below l) (rw (delay_bound l) h.0))
    (le-leb s.at (time_by last l) (rw (time_bound last l) h.1)))
    (in_order_sound last l h.2)

-- ---- each part of the rule keeps the order

first_delay_to : (b t : ℕ) (l : List Sample) → InOrder b t l → first_delay b l ≤ b
first_delay_to b t [] h = omega arith
first_delay_to b t (s ∷ l) h = let k = first_delay_to b t l h.2 in omega arith

first_time_to : (b t : ℕ) (l : List Sample) → InOrder b t l → first_time t l ≤ t
first_time_to b t [] h = omega arith
first_time_to b t (s ∷ l) h = let k = first_time_to b t l h.2 in omega arith

pub later_in_order : (b t t' : ℕ) (l : List Sample) → t ≤ t' → InOrder b t l → InOrder b t' l
later_in_order b t t' [] k h = tt
later_in_order b t t' (s ∷ []) k h = (h.0, omega arith, tt)
later_in_order b t t' (s ∷ u ∷ l) k h = (h.0, h.1, later_in_order b t t' (u ∷ l) k h.2)

front_in_order : (p : Sample → Bool) (b t : ℕ) (l : List Sample) → InOrder b t l → InOrder b t (drop_front p l)
front_in_order p b t [] h = tt
front_in_order p b t (s ∷ l) h = by_test (p s) (front_in_order p b t l h.2)
  where
    by_test : (v : Bool) → InOrder b t (drop_front p l) → InOrder b t (cond v (drop_front p l) (s ∷ l))
    by_test true k = k
    by_test false k = h

-- what is left after dropping from the back begins as before
back_begins : (q : Sample → Bool) (l : List Sample) (y : Sample) (m : List Sample) → drop_back q l ≡ y ∷ m → (b t : ℕ) → (first_delay b l ≡ y.delay) × (first_time t l ≡ y.at)
back_begins q [] y m e b t = let z : ◌≡◌ {A = ℕ} 0 1 = cc in absurd (omega arith)
back_begins q (x ∷ l) y m e b t = by_case (q x) (drop_back q l) e
  where
    by_case : (v : Bool) (r : List Sample) → onto v x r ≡ y ∷ m → (x.delay ≡ y.delay) × (x.at ≡ y.at)
    by_case true [] k = let z : ◌≡◌ {A = ℕ} 0 1 = cc in absurd (omega arith)
    by_case false [] k = let z : x ≡ y = cc in (ap (λ (s : Sample). s.delay) z, ap (λ (s : Sample). s.at) z)
    by_case v (z ∷ r) k = let w : x ≡ y = cc in (ap (λ (s : Sample). s.delay) w, ap (λ (s : Sample). s.at) w)

back_in_order : (d c b t : ℕ) (l : List Sample) → t ≤ c → InOrder b t l → InOrder d c (drop_back (not_smaller_of d) l)
back_in_order d c b t [] k h = tt
back_in_order d c b t (x ∷ l) k h = by_case (leb d x.delay) refl (drop_back (not_smaller_of d) l) refl (back_in_order d c b t l k h.2)
  where
    by_case : (v : Bool) → leb d x.delay ≡ v → (r : List Sample) → drop_back (not_smaller_of d) l ≡ r → InOrder d c r → InOrder d c (onto v x r)
    by_case true e [] f g = tt
    by_case false e [] f g = (leb-false d x.delay e, omega (arith, first_time_to b t l h.2), tt)
    by_case v e (y ∷ r) f g = let w = back_begins (not_smaller_of d) l y r f b t in (omega arith, omega arith, g)

take_in_order : (b t k : ℕ) (l : List Sample) → InOrder b t l → InOrder b t (take k l)
take_in_order b t zero l h = tt
take_in_order b t (suc k) [] h = tt
take_in_order b t (suc zero) (s ∷ l) h = (omega (arith, first_delay_to b t l h.2), omega (arith, first_time_to b t l h.2), tt)
take_in_order b t (suc (suc k)) (s ∷ []) h = h
take_in_order b t (suc (suc k)) (s ∷ u ∷ l) h = (h.0, h.1, take_in_order b t (suc k) (u ∷ l) h.2)

append_in_order : (b t d c : ℕ) (l : List Sample) → d < b → c ≤ t → InOrder d c l → InOrder b t (l ++ record { delay = d; at = c } ∷ [])
append_in_order b t d c [] p q h = (p, q, tt)
append_in_order b t d c (s ∷ []) p q h = (h.0, h.1, (p, q, tt))
append_in_order b t d c (s ∷ u ∷ l) p q h = (h.0, h.1, append_in_order b t d c (u ∷ l) p q h.2)

-- ---- what stays when a sample is taken, and how much

front_length : (p : Sample → Bool) (l : List Sample) → length (drop_front p l) ≤ length l
front_length p [] = omega arith
front_length p (s ∷ l) = by_test (p s) (front_length p l)
  where
    by_test : (v : Bool) → length (drop_front p l) ≤ length l → length (cond v (drop_front p l) (s ∷ l)) ≤ suc (length l)
    by_test true k = omega arith
    by_test false k = omega arith

back_length : (q : Sample → Bool) (l : List Sample) → length (drop_back q l) ≤ length l
back_length q [] = omega arith
back_length q (s ∷ l) = by_case (q s) (drop_back q l) (back_length q l)
  where
    by_case : (v : Bool) (r : List Sample) → length r ≤ length l → length (onto v s r) ≤ suc (length l)
    by_case true [] k = omega arith
    by_case false [] k = omega arith
    by_case v (y ∷ r) k = omega arith

abbrev pub staying_of : ℕ → ℕ → ℕ → List Sample → List Sample
staying_of window delay clock l = room_of (remaining_of window delay clock l)

pub staying_length : (window delay clock : ℕ) (l : List Sample) → length l ≤ most → length (staying_of window delay clock l) < most
unfolding remaining_of
staying_length window delay clock l h =
    let r = drop_back (not_smaller_of delay) (drop_front (expired_of window clock) l) in
    let few : length r ≤ most =
    omega (arith, back_length (not_smaller_of delay) (drop_front (expired_of window clock) l), front_length (expired_of window clock) l)
    in
    let k = room_at_most (length r) few in
    subst⁻¹ (λ (m : List Sample). length m < most) (room_is r (length r) refl) (omega (arith, length-take (room_count_of (length r)) r))

pub staying_in_order : (window delay clock b t : ℕ) (l : List Sample) → t ≤ clock → InOrder b t l → InOrder delay clock (staying_of window delay clock l)
unfolding remaining_of
staying_in_order window delay clock b t l k h =
    let r = drop_back (not_smaller_of delay) (drop_front (expired_of window clock) l) in
    let o : InOrder delay clock r = back_in_order delay clock b t (drop_front (expired_of window clock) l) k (front_in_order (expired_of window clock) b t l h) in
    subst⁻¹ (InOrder delay clock) (room_is r (length r) refl) (take_in_order delay clock (room_count_of (length r)) r o)

pub taken_in_order : (window delay clock b b' t : ℕ) (l : List Sample) → t ≤ clock → delay < b' → InOrder b t l → InOrder b' clock (take_of window delay clock l)
unfolding take_of
taken_in_order window delay clock b b' t l k j h =
    append_in_order b' clock delay clock (staying_of window delay clock l) j (omega arith) (staying_in_order window delay clock b t l k h)

pub taken_few : (window delay clock : ℕ) (l : List Sample) → length l ≤ most → length (take_of window delay clock l) ≤ most
unfolding take_of
taken_few window delay clock l h =
    omega (arith, length-append (staying_of window delay clock l) (record { delay = delay; at = clock } ∷ []), staying_length window delay clock l h)

-- The base delay is never above the delay of the sample just taken.
pub base_at_most : (window delay clock b t : ℕ) (l : List Sample) → t ≤ clock → InOrder b t l → base_of (take_of window delay clock l) ≤ delay
unfolding take_of
base_at_most window delay clock b t l k h = by_case (staying_of window delay clock l) (staying_in_order window delay clock b t l k h)
  where
    by_case : (m : List Sample) → InOrder delay clock m → base_of (m ++ record { delay = delay; at = clock } ∷ []) ≤ delay
    by_case [] o = omega arith
    by_case (s ∷ m) o = omega (arith, first_delay_to delay clock m o.2)

-- ---- taking one sample twice at one moment

-- a list whose first does not pass the test
abbrev pub Fresh : (Sample → Bool) → List Sample → Type 0
Fresh p [] = Unit
Fresh p (s ∷ l) = p s ≡ false

front_fresh : (p : Sample → Bool) (l : List Sample) → Fresh p (drop_front p l)
front_fresh p [] = tt
front_fresh p (s ∷ l) = by_test (p s) refl (front_fresh p l)
  where
    by_test : (v : Bool) → p s ≡ v → Fresh p (drop_front p l) → Fresh p (cond v (drop_front p l) (s ∷ l))
    by_test true e k = k
    by_test false e k = e

back_fresh : (p q : Sample → Bool) (l : List Sample) → Fresh p l → Fresh p (drop_back q l)
back_fresh p q [] h = tt
back_fresh p q (s ∷ l) h = by_case (q s) (drop_back q l)
  where
    by_case : (v : Bool) (r : List Sample) → Fresh p (onto v s r)
    by_case true [] = tt
    by_case false [] = h
    by_case v (y ∷ r) = h

take_fresh : (p : Sample → Bool) (k : ℕ) (l : List Sample) → Fresh p l → Fresh p (take k l)
take_fresh p zero l h = tt
take_fresh p (suc k) [] h = tt
take_fresh p (suc k) (s ∷ l) h = h

append_fresh : (p : Sample → Bool) (l : List Sample) (s : Sample) → Fresh p l → p s ≡ false → Fresh p (l ++ s ∷ [])
append_fresh p [] s h e = e
append_fresh p (x ∷ l) s h e = h

fresh_stays : (p : Sample → Bool) (l : List Sample) → Fresh p l → drop_front p l ≡ l
fresh_stays p [] h = refl
fresh_stays p (s ∷ l) h = ap (λ (v : Bool). cond v (drop_front p l) (s ∷ l)) h

smaller_stay : (d c : ℕ) (l : List Sample) → InOrder d c l → drop_back (not_smaller_of d) l ≡ l
smaller_stay d c [] h = refl
smaller_stay d c (s ∷ l) h = ap (onto (leb d s.delay) s) (smaller_stay d c l h.2) ∙ by_case l h
  where
    by_case : (r : List Sample) → InOrder d c (s ∷ r) → onto (leb d s.delay) s r ≡ s ∷ r
    by_case [] o = ap (λ (v : Bool). onto v s []) (lt-leb d s.delay o.0)
    by_case (y ∷ r) o = refl

pub taken_fresh : (window delay clock : ℕ) (l : List Sample) → 1 ≤ window → Fresh (expired_of window clock) (take_of window delay clock l)
unfolding take_of remaining_of
taken_fresh window delay clock l w =
    let p = expired_of window clock in
    let r = drop_back (not_smaller_of delay) (drop_front p l) in
    append_fresh p (room_of r) (record { delay = delay; at = clock })
    (subst⁻¹ (Fresh p) (room_is r (length r) refl) (take_fresh p (room_count_of (length r)) r (back_fresh p (not_smaller_of delay) (drop_front p l) (front_fresh p l))))
    (lt-leb (clock + window) clock (omega arith))

pub taken_twice : (window delay clock b t : ℕ) (l : List Sample) → 1 ≤ window → t ≤ clock → length l ≤ most → InOrder b t l
    → take_of window delay clock (take_of window delay clock l) ≡ take_of window delay clock l
unfolding take_of remaining_of room_of
taken_twice window delay clock b t l w k few h =
    let p = expired_of window clock in
    let q = not_smaller_of delay in
    let s : Sample = record { delay = delay; at = clock } in
    let m = staying_of window delay clock l in
    let again : drop_back q (drop_front p (m ++ s ∷ [])) ≡ m =
    ap (drop_back q) (fresh_stays p (m ++ s ∷ []) (taken_fresh window delay clock l w))
    ∙ back_last q m s
    ∙ ap (λ (v : Bool). cond v (drop_back q m) (m ++ s ∷ [])) (le-leb delay delay (omega arith))
    ∙ smaller_stay delay clock m (staying_in_order window delay clock b t l k h)
    in
    ap (λ (r : List Sample). room_of r ++ s ∷ []) again
    ∙ ap (λ (v : Bool). cond v (take (most - 1) m) m ++ s ∷ [])
    (ne_eqb (length m) most (λ e. omega (arith, staying_length window delay clock l few)))

-- ---- in the state

pub list_of_written : (d : Delays) (l : List Sample) → list_of (written_of d l) ≡ l
list_of_written d l = take_at l (drop (length l) d.kept) (length l) refl

list_few : (d : Delays) → d.count ≤ most → length (list_of d) ≤ most
list_few d h = omega (arith, length-take d.count d.kept)

-- where the state is sound, a sample is taken
pub taken_written : (last : ℕ) (d : Delays) (delay clock window : ℕ) → delays_sound_of last d ≡ true
    → taken_of d delay clock window ≡ written_of d (take_of window delay clock (list_of d))
taken_written last d delay clock window e =
    ap (λ (v : Bool). cond v (written_of d (take_of window delay clock (list_of d))) d) (both (leb d.count most) (kept_sound_of last (list_of d)) e).0

module _ (last : ℕ) (d : Delays) (e : delays_sound_of last d ≡ true) where
  few : d.count ≤ most
  few = leb-true d.count most (both (leb d.count most) (kept_sound_of last (list_of d)) e).0

  in_order : InOrder (suc latest) last (list_of d)
  in_order = sound_in_order last (list_of d) (both (leb d.count most) (kept_sound_of last (list_of d)) e).1

  pub later_sound : (clock : ℕ) → last ≤ clock → delays_sound_of clock d ≡ true
  later_sound clock h =
      and_of (leb d.count most) (kept_sound_of clock (list_of d)) (le-leb d.count most few)
      (in_order_sound clock (list_of d) (later_in_order (suc latest) last clock (list_of d) h in_order))

  pub taken_sound : (delay clock window : ℕ) → last ≤ clock → delay ≤ latest → delays_sound_of clock (taken_of d delay clock window) ≡ true
  taken_sound delay clock window h k =
      let l = take_of window delay clock (list_of d) in
      ap (delays_sound_of clock) (taken_written last d delay clock window e)
      ∙ and_of (leb (length l) most) (kept_sound_of clock (list_of (written_of d l)))
      (le-leb (length l) most (taken_few window delay clock (list_of d) (list_few d few)))
      (ap (kept_sound_of clock) (list_of_written d l)
      ∙ in_order_sound clock l (taken_in_order window delay clock (suc latest) (suc latest) last (list_of d) h (omega arith) in_order))

  pub taken_base : (delay clock window : ℕ) → last ≤ clock → base_of (list_of (taken_of d delay clock window)) ≤ delay
  taken_base delay clock window h =
      let l = take_of window delay clock (list_of d) in
      subst⁻¹ (λ (m : Delays). base_of (list_of m) ≤ delay) (taken_written last d delay clock window e)
      (subst⁻¹ (λ (m : List Sample). base_of m ≤ delay) (list_of_written d l)
      (base_at_most window delay clock (suc latest) last (list_of d) h in_order))

  -- Taking the same sample twice at one moment is taking it once: the packets of one ack bring one sample.
  pub state_taken_twice : (delay clock window : ℕ) → 1 ≤ window → last ≤ clock → delay ≤ latest
      → taken_of (taken_of d delay clock window) delay clock window ≡ taken_of d delay clock window
  state_taken_twice delay clock window w h k =
      let l = take_of window delay clock (list_of d) in
      taken_written clock (taken_of d delay clock window) delay clock window (taken_sound delay clock window h k)
      ∙ ap (λ (m : Delays). written_of m (take_of window delay clock (list_of m))) (taken_written last d delay clock window e)
      ∙ ap (λ (m : List Sample). written_of (written_of d l) (take_of window delay clock m)) (list_of_written d l)
      ∙ ap (written_of (written_of d l)) (taken_twice window delay clock (suc latest) last (list_of d) w h (list_few d few) in_order)
      ∙ ap (λ (m : List Sample). delays_of (l ++ m) (length l)) (drop_at l (drop (length l) d.kept) (length l) refl)
      ∙ sym (taken_written last d delay clock window e)

-- ---- the base delay that goes with a sample, once it is taken

base_first : (x : Sample) (l m : List Sample) → base_of (room_of (x ∷ l) ++ m) ≡ x.delay
unfolding room_of
base_first x l m = by_test (eqb (length (x ∷ l)) most)
  where
    by_test : (t : Bool) → base_of (cond t (take (most - 1) (x ∷ l)) (x ∷ l) ++ m) ≡ x.delay
    by_test true = refl
    by_test false = refl

module _ (d : Delays) (delay clock window first left : ℕ) (few : d.count ≤ most) (front : drop_front (expired_of window clock) (list_of d) ≡ drop first (list_of d))
    (back : drop_back (not_smaller_of delay) (drop first (list_of d)) ≡ take left (drop first (list_of d))) where
  base_of_taken : base_of (list_of (taken_of d delay clock window)) ≡ base_of (room_of (take left (drop first (list_of d))) ++ record { delay = delay; at = clock } ∷ [])
  unfolding take_of remaining_of
  base_of_taken =
      let l = take_of window delay clock (list_of d) in
      ap (λ (t : Bool). base_of (list_of (cond t (written_of d l) d))) (le-leb d.count most few)
      ∙ ap base_of (list_of_written d l)
      ∙ ap (λ (m : List Sample). base_of (room_of (drop_back (not_smaller_of delay) m) ++ record { delay = delay; at = clock } ∷ [])) front
      ∙ ap (λ (m : List Sample). base_of (room_of m ++ record { delay = delay; at = clock } ∷ [])) back

  -- nothing remains
  pub base_alone : left ≡ 0 → delay ≡ base_of (list_of (taken_of d delay clock window))
  unfolding room_of
  base_alone e =
      sym (base_of_taken ∙ ap (λ (n : ℕ). base_of (room_of (take n (drop first (list_of d))) ++ record { delay = delay; at = clock } ∷ [])) e)

  -- the first that remains
  pub base_of-first : length d.kept ≡ most → first ≤ d.count → left ≤ d.count - first → 0 < left
      → (get_or d.kept first no_sample).delay ≡ base_of (list_of (taken_of d delay clock window))
  base_of-first full first_in left_in h =
      let e : left ≡ suc (left - 1) = omega arith in
      sym
      (base_of_taken
      ∙ ap (λ (m : List Sample). base_of (room_of (take left m) ++ record { delay = delay; at = clock } ∷ []))
      (drop-cons (list_of d) first no_sample (omega (arith, list_length d.kept d.count full few)))
      ∙ ap (λ (n : ℕ). base_of (room_of (take n (get_or (list_of d) first no_sample ∷ drop (suc first) (list_of d))) ++ record { delay = delay; at = clock } ∷ [])) e
      ∙ base_first (get_or (list_of d) first no_sample) (take (left - 1) (drop (suc first) (list_of d))) (record { delay = delay; at = clock } ∷ [])
      ∙ ap (λ (s : Sample). s.delay) (list_at d.kept d.count first no_sample (omega arith)))
