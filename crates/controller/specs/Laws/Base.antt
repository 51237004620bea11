-- The base delay is the least delay among the samples of a session that are still in the window, where none was dropped for room: each sample in
-- the window is covered by a kept one that is no larger and no older, and the first of those is the least.
use Rattle.std.specs.Prelude.{◌≡◌, refl, Bool, true, false, cond, ◌⊎◌, List, [], ◌∷◌, ◌++◌, ℕ, suc, ◌+◌, ◌-◌, ◌≤◌, ◌<◌, T, leb, length, take}
use Rattle.std.proofs.Common.{sym, ap, ◌∙◌, subst, inl, inr, arith, leb-true, leb-false, ne_eqb}
use Rattle.std.proofs.Math.Path.{subst⁻¹}
use Rattle.std.proofs.lemmas.Bool.{lt-leb}
use Rattle.controller.specs.declared.delays.Sample.{Sample}
use Rattle.controller.specs.Delays.{drop_front, onto, drop_back, most, expired_of, not_smaller_of, remaining_of, room_of, take_of, base_of}
use Rattle.controller.specs.Laws.Samples.{first_time, InOrder, Fresh, staying_of, taken_in_order, taken_fresh}

-- x is one of the list
abbrev pub Among : Sample → List Sample → Type 0
Among x [] = ⊥
Among x (y ∷ l) = (x ≡ y) ⊎ Among x l

-- The samples of a session, the newest first, and those that are kept of them, where times do not fall and none was dropped for room.
pub data Kept (window : ℕ) : List Sample → List Sample → Type 0 where
  none : Kept window [] []
  more : {h l : List Sample} (s : Sample) → Kept window h l → first_time 0 h ≤ s.at → length (remaining_of window s.delay s.at l) < most
      → Kept window (s ∷ h) (take_of window s.delay s.at l)

never_both : {v : Bool} {A : Type 0} → v ≡ true → v ≡ false → A
never_both e f = absurd (subst T (sym e ∙ f) tt)

among_front : (p : Sample → Bool) (x : Sample) (l : List Sample) → p x ≡ false → Among x l → Among x (drop_front p l)
among_front p x [] e a = a
among_front p x (y ∷ l) e a = by_test (p y) refl a (λ b. among_front p x l e b)
  where
    by_test : (v : Bool) → p y ≡ v → Among x (y ∷ l) → (Among x l → Among x (drop_front p l)) → Among x (cond v (drop_front p l) (y ∷ l))
    by_test true f (inl g) ih = never_both f (ap p (sym g) ∙ e)
    by_test true f (inr b) ih = ih b
    by_test false f b ih = b

among_back : (q : Sample → Bool) (x : Sample) (l : List Sample) → q x ≡ false → Among x l → Among x (drop_back q l)
among_back q x [] e a = a
among_back q x (y ∷ l) e a = by_case (q y) refl (drop_back q l) a (λ b. among_back q x l e b)
  where
    by_case : (v : Bool) → q y ≡ v → (r : List Sample) → Among x (y ∷ l) → (Among x l → Among x r) → Among x (onto v y r)
    by_case true f [] (inl g) ih = never_both f (ap q (sym g) ∙ e)
    by_case true f [] (inr b) ih = ih b
    by_case false f [] (inl g) ih = inl g
    by_case false f [] (inr b) ih = absurd (ih b)
    by_case v f (z ∷ r) (inl g) ih = inl g
    by_case v f (z ∷ r) (inr b) ih = inr (ih b)

of_front : (p : Sample → Bool) (x : Sample) (l : List Sample) → Among x (drop_front p l) → Among x l
of_front p x [] a = a
of_front p x (y ∷ l) a = by_test (p y) a (λ b. of_front p x l b)
  where
    by_test : (v : Bool) → Among x (cond v (drop_front p l) (y ∷ l)) → (Among x (drop_front p l) → Among x l) → Among x (y ∷ l)
    by_test true b ih = inr (ih b)
    by_test false b ih = b

of_back : (q : Sample → Bool) (x : Sample) (l : List Sample) → Among x (drop_back q l) → Among x l
of_back q x [] a = a
of_back q x (y ∷ l) a = by_case (q y) (drop_back q l) a (λ b. of_back q x l b)
  where
    by_case : (v : Bool) (r : List Sample) → Among x (onto v y r) → (Among x r → Among x l) → Among x (y ∷ l)
    by_case true [] b ih = absurd b
    by_case false [] (inl g) ih = inl g
    by_case false [] (inr b) ih = absurd b
    by_case v (z ∷ r) (inl g) ih = inl g
    by_case v (z ∷ r) (inr b) ih = inr (ih b)

among_left : (x : Sample) (l m : List Sample) → Among x l → Among x (l ++ m)
among_left x [] m a = absurd a
among_left x (y ∷ l) m (inl e) = inl e
among_left x (y ∷ l) m (inr a) = inr (among_left x l m a)

among_last : (x : Sample) (l : List Sample) → Among x (l ++ x ∷ [])
among_last x [] = inl refl
among_last x (y ∷ l) = inr (among_last x l)

either_end : (x s : Sample) (l : List Sample) → Among x (l ++ s ∷ []) → Among x l ⊎ (x ≡ s)
either_end x s [] (inl e) = inr e
either_end x s [] (inr a) = absurd a
either_end x s (y ∷ l) (inl e) = inl (inl e)
either_end x s (y ∷ l) (inr a) = elim (either_end x s l a) [ inl b ↦ inl (inr b) | inr e ↦ inr e ]

-- where there is room, what remains stays
all_stay : (l : List Sample) → length l < most → room_of l ≡ l
unfolding room_of
all_stay l h = ap (λ (v : Bool). cond v (take (most - 1) l) l) (ne_eqb (length l) most (λ e. omega arith))

taken_whole : (window delay clock : ℕ) (l : List Sample) → length (remaining_of window delay clock l) < most
    → take_of window delay clock l ≡ remaining_of window delay clock l ++ record { delay = delay; at = clock } ∷ []
unfolding take_of
taken_whole window delay clock l h = ap (λ (r : List Sample). r ++ record { delay = delay; at = clock } ∷ []) (all_stay (remaining_of window delay clock l) h)

kept_in_order : {window : ℕ} {h l : List Sample} → Kept window h l → (b : ℕ) × InOrder b (first_time 0 h) l
kept_in_order none = (0, tt)
kept_in_order {window} (more {h} {l} s k le room) =
    let o = kept_in_order k in
    (suc s.delay, taken_in_order window s.delay s.at o.0 (suc s.delay) (first_time 0 h) l le (omega arith) o.1)

times_to : {window : ℕ} {h l : List Sample} → Kept window h l → (x : Sample) → Among x h → x.at ≤ first_time 0 h
times_to none x a = absurd a
times_to (more s k le room) x (inl e) = omega (arith, ap (λ (y : Sample). y.at) e)
times_to (more s k le room) x (inr a) = omega (arith, times_to k x a)

kept_of : {window : ℕ} {h l : List Sample} → Kept window h l → (x : Sample) → Among x l → Among x h
unfolding remaining_of
kept_of none x a = a
kept_of {window} (more {h} {l} s k le room) x a =
    elim (either_end x s (remaining_of window s.delay s.at l) (subst (Among x) (taken_whole window s.delay s.at l room) a)) [
      | inl b ↦ inr (kept_of k x (of_front (expired_of window s.at) x l (of_back (not_smaller_of s.delay) x (drop_front (expired_of window s.at) l) b)))
      | inr e ↦ inl e
    ]

-- a sample that covers x still does when s is taken, or s does
still_covered : (window : ℕ) (s x : Sample) (l : List Sample) → length (remaining_of window s.delay s.at l) < most → s.at < x.at + window → x.at ≤ s.at
    → (y : Sample) × Among y l × (y.delay ≤ x.delay) × (x.at ≤ y.at)
    → (y : Sample) × Among y (take_of window s.delay s.at l) × (y.delay ≤ x.delay) × (x.at ≤ y.at)
unfolding remaining_of
still_covered window s x l room fresh old r = by_test (leb s.delay r.0.delay) refl
  where
    by_test : (v : Bool) → leb s.delay r.0.delay ≡ v
        → (y : Sample) × Among y (take_of window s.delay s.at l) × (y.delay ≤ x.delay) × (x.at ≤ y.at)
    by_test true e = (
      s,
      subst⁻¹ (Among s) (taken_whole window s.delay s.at l room) (among_last s (remaining_of window s.delay s.at l)),
      omega (arith, leb-true s.delay r.0.delay e, r.2),
      old,
    )
    by_test false e =
        let y = r.0 in
        let in_window : expired_of window s.at y ≡ false = lt-leb (y.at + window) s.at (omega (arith, r.3)) in (
          y,
          subst⁻¹ (Among y) (taken_whole window s.delay s.at l room)
              (among_left y (remaining_of window s.delay s.at l) (s ∷ [])
              (among_back (not_smaller_of s.delay) y (drop_front (expired_of window s.at) l) e (among_front (expired_of window s.at) y l in_window r.1))),
          r.2,
          r.3,
        )

-- For each sample that is not expired, one is kept that is no larger and no older.
covered : {window : ℕ} {h l : List Sample} → Kept window h l → (x : Sample) → Among x h → (c : ℕ) → first_time 0 h ≤ c → expired_of window c x ≡ false
    → (y : Sample) × Among y l × (y.delay ≤ x.delay) × (x.at ≤ y.at)
covered none x a c t e = absurd a
covered {window} (more {h} {l} s k le room) x (inl g) c t e = (
  s,
  subst⁻¹ (Among s) (taken_whole window s.delay s.at l room) (among_last s (remaining_of window s.delay s.at l)),
  omega (arith, ap (λ (y : Sample). y.delay) g),
  omega (arith, ap (λ (y : Sample). y.at) g),
)
covered {window} (more {h} {l} s k le room) x (inr a) c t e =
    let late = leb-false (x.at + window) c e in
    let r = covered k x a s.at le (lt-leb (x.at + window) s.at (omega arith)) in
    let old = times_to k x a in
    still_covered window s x l room (omega arith) (omega arith) r

-- What the base delay is to be: no sample of the session that is still in the window has a smaller delay, and one has it.
pub record Least (window clock : ℕ) (session : List Sample) (base : ℕ) : Type 0 where
  pub at_most_each : (x : Sample) → Among x session → expired_of window clock x ≡ false → base ≤ x.delay
  pub one_has_it : (x : Sample) × Among x session × (expired_of window clock x ≡ false) × (x.delay ≡ base)

first_least : (b t : ℕ) (l : List Sample) → InOrder b t l → (x : Sample) → Among x l → base_of l ≤ x.delay
first_least b t [] o x a = absurd a
first_least b t (s ∷ l) o x (inl e) = omega (arith, ap (λ (y : Sample). y.delay) e)
first_least b t (s ∷ []) o x (inr a) = absurd a
first_least b t (s ∷ u ∷ l) o x (inr a) = let k = first_least b t (u ∷ l) o.2 x a in omega arith

first_of_some : (p : Sample → Bool) (m : List Sample) (s : Sample) → Fresh p (m ++ s ∷ [])
    → (x : Sample) × Among x (m ++ s ∷ []) × (p x ≡ false) × (x.delay ≡ base_of (m ++ s ∷ []))
first_of_some p [] s f = (s, inl refl, f, refl)
first_of_some p (y ∷ m) s f = (y, inl refl, f, refl)

-- The base delay is the least delay among the samples still in the window.
pub base_is_least : {window : ℕ} {h l : List Sample} (s : Sample) → 1 ≤ window → Kept window h l → first_time 0 h ≤ s.at
    → length (remaining_of window s.delay s.at l) < most → Least window s.at (s ∷ h) (base_of (take_of window s.delay s.at l))
unfolding take_of
base_is_least {window} {h} {l} s w k le room =
    let now = more s k le room in
    let o = kept_in_order now in
    let f = first_of_some (expired_of window s.at) (staying_of window s.delay s.at l) s (taken_fresh window s.delay s.at l w) in
    record {
      at_most_each = λ x a e.
          let y = covered now x a s.at (omega arith) e in
          omega (arith, first_least o.0 s.at (take_of window s.delay s.at l) o.1 y.0 y.1, y.2);
      one_has_it = (f.0, kept_of now f.0 f.1, f.2, f.3);
    }
