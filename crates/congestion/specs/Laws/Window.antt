-- Where the window rule bounds the maximum.
use Rattle.std.specs.Prelude.{◌≡◌, ℕ, suc, ◌+◌, ◌-◌, ◌^◌, ◌<◌, ◌≤◌, min, max, Bool, true, false, ℤ, pos, negsuc, ◌+ℤ◌, ◌<ℤ◌, nat_le, nat_lt, refl}
use Rattle.std.proofs.Common.{sym, ap, ◌∙◌, arith, ltb→lt, leb-true, leb-false, ltb-true, ltb-false}
use Rattle.std.proofs.Math.IntN.{sub_ℕ}
use Rattle.std.specs.Int.{w64, saturate_unsigned}
use Rattle.congestion.specs.Window.{at_least, next_maximum_of, rise_of, fall_of, top}
use Rattle.congestion.specs.Laws.Trip.{sub_from_above, sub_from_below}

at_least_sub : (m a b : ℕ) → at_least m (sub_ℕ a b) ≡ max m (a - b)
at_least_sub m a b = by_test (nat_lt a b) refl
  where
    by_test : (t : Bool) → nat_lt a b ≡ t → at_least m (sub_ℕ a b) ≡ max m (a - b)
    by_test true e = ap (at_least m) (sub_from_below a b (ltb-true a b e)) ∙ omega (arith, ltb-true a b e)
    by_test false e = ap (at_least m) (sub_from_above a b (ltb-false a b e))

-- maximum + adjustment by how far the adjustment lies above and below 0
pub next_maximum_is : (minimum increase maximum : ℕ) (z : ℤ)
    → next_maximum_of minimum increase maximum z ≡ min (min (max minimum (maximum + rise_of z - fall_of z)) (maximum + increase)) top
unfolding next_maximum_of
next_maximum_is minimum increase maximum (pos n) = ap (λ (m : ℕ). min (min (max minimum m) (maximum + increase)) top) (omega arith)
next_maximum_is minimum increase maximum (negsuc n) =
    ap (λ (m : ℕ). min (min m (maximum + increase)) top) (at_least_sub minimum maximum (suc n))
    ∙ ap (λ (m : ℕ). min (min (max minimum m) (maximum + increase)) top) (omega arith)

-- what lies past a bound does not matter
past : (m x b : ℕ) → b ≤ x → min (max m x) b ≡ b
past m x b h = omega arith

-- so a rise may be held at 2^33
pub rise_held : (minimum increase maximum : ℕ) (z : ℤ) → increase < 2 ^ 32
    → min (min (max minimum (maximum + min (rise_of z) (2 ^ 33) - fall_of z)) (maximum + increase)) top ≡ next_maximum_of minimum increase maximum z
rise_held minimum increase maximum (pos n) h = by_test (nat_le n (2 ^ 33)) refl ∙ sym (next_maximum_is minimum increase maximum (pos n))
  where
    by_test : (t : Bool) → nat_le n (2 ^ 33) ≡ t
        → min (min (max minimum (maximum + min n (2 ^ 33) - 0)) (maximum + increase)) top
        ≡ min (min (max minimum (maximum + n - 0)) (maximum + increase)) top
    by_test true e =
        let g = leb-true n (2 ^ 33) e in
        ap (λ (m : ℕ). min (min (max minimum m) (maximum + increase)) top) (omega arith)
    by_test false e =
        let g = leb-false n (2 ^ 33) e in
        ap (λ (m : ℕ). min m top) (past minimum (maximum + min n (2 ^ 33) - 0) (maximum + increase) (omega arith))
        ∙ sym (ap (λ (m : ℕ). min m top) (past minimum (maximum + n - 0) (maximum + increase) (omega arith)))
rise_held minimum increase maximum (negsuc n) h =
    ap (λ (m : ℕ). min (min (max minimum m) (maximum + increase)) top) (omega arith)
    ∙ sym (next_maximum_is minimum increase maximum (negsuc n))

-- The sum may be held at 0, and at 2^64 - 1, which is past every bound.
pub sum_held : (minimum increase maximum : ℕ) (z : ℤ) → maximum + increase < 2 ^ 64
    → min (min (max (saturate_unsigned w64 (pos maximum +ℤ z)) minimum) (maximum + increase)) top ≡ next_maximum_of minimum increase maximum z
unfolding next_maximum_of
sum_held minimum increase maximum z h = by_sign (pos maximum +ℤ z)
  where
    by_sign : (y : ℤ) → min (min (max (saturate_unsigned w64 y) minimum) (maximum + increase)) top ≡ min (min (at_least minimum y) (maximum + increase)) top
    by_sign (pos n) = omega arith
    by_sign (negsuc n) = omega arith

-- ---- the bounds

-- never above 2^32 - 1
pub maximum_at_most_top : (minimum increase maximum : ℕ) (z : ℤ) → next_maximum_of minimum increase maximum z ≤ top
unfolding next_maximum_of
maximum_at_most_top minimum increase maximum z = omega arith

-- never more than the increase above the old one
pub maximum_grows_by_increase : (minimum increase maximum : ℕ) (z : ℤ) → next_maximum_of minimum increase maximum z ≤ maximum + increase
unfolding next_maximum_of
maximum_grows_by_increase minimum increase maximum z = omega arith

at_least_least : (m : ℕ) (z : ℤ) → m ≤ at_least m z
at_least_least m (pos n) = omega arith
at_least_least m (negsuc n) = omega arith

-- never below the minimum, where the old one is not
pub maximum_at_least_minimum : (minimum increase maximum : ℕ) (z : ℤ)
    → minimum ≤ maximum → minimum ≤ top → minimum ≤ next_maximum_of minimum increase maximum z
unfolding next_maximum_of
maximum_at_least_minimum minimum increase maximum z h k = omega (arith, at_least_least minimum (pos maximum +ℤ z))

-- The fault that started this work: where the delay is so far above the target that old maximum + adjustment falls below the minimum, 0 or
-- further, the new maximum is the minimum. The Rust casts the negative sum to a large number and takes old maximum + increase.
pub maximum_falls_to_minimum : (minimum increase maximum : ℕ) (z : ℤ)
    → minimum ≤ maximum → minimum ≤ top → (pos maximum +ℤ z) <ℤ (pos minimum) → next_maximum_of minimum increase maximum z ≡ minimum
unfolding next_maximum_of
maximum_falls_to_minimum minimum increase maximum z h k l =
    ap (λ (m : ℕ). min (min m (maximum + increase)) top) (below minimum (pos maximum +ℤ z) l) ∙ omega arith
  where
    below : (m : ℕ) (y : ℤ) → y <ℤ (pos m) → at_least m y ≡ m
    below m (pos n) l = omega (arith, ltb→lt n m l.lt)
    below m (negsuc n) l = refl
