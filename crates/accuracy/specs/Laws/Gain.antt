-- The gain of every accepted setting is G / 2^62 for a whole G. It has 53 binary digits at most and is 2^-10 at least, so that the last of them stands
-- for 2^-62 or more.
use Rattle.std.specs.Prelude.{◌≡◌, refl, Bool, true, false, ◌&&◌, ℕ, zero, suc, ◌+◌, ◌-◌, ◌*◌, ◌/◌, ◌%◌, ◌^◌, ◌≤◌, ◌<◌, T, eqb, leb, ltb, pos, negsuc, Float}
use Rattle.std.proofs.Common.{sym, ap, ◌∙◌, subst, mul-one, mul_assoc, div-one, lt_of_le_of_lt, lt_irrefl, le_of_mul-le-mul_right, arith, leb-true, leb-false, ltb→lt, pow-add, pow_mono, shl_lt}
use Rattle.std.proofs.lemmas.Nat.{shl-shr}
use Rattle.std.specs.Float.{nan, inf, fin, binary64}
use Rattle.std.specs.Float.Ieee.{fits, le}
use Rattle.std.specs.Float.Ieee.Fits.{and_l, and_r}
use Rattle.std.specs.Float.Ieee.Exact.{HasValue}
use Rattle.std.specs.Float.Ieee.Positive.{num, den, den_pos, positive, le→cross, between}
use Rattle.congestion.specs.Settings.{gain_in_range_of}
use Rattle.congestion.specs.Laws.Numbers.{both}
use Rattle.accuracy.specs.Accuracy.{whole_gain_of}
use Rattle.accuracy.specs.Laws.Approx.{cross}

-- ---- a gain in range, as a fraction

module _ (gain : Float) (range : gain_in_range_of gain ≡ true) where
  tests : (le (fin false 1 (negsuc 9)) gain ≡ true) × (le gain (fin false 1 (pos 0)) ≡ true)
  tests = both (le (fin false 1 (negsuc 9)) gain) (le gain (fin false 1 (pos 0))) range

  from : T (le (fin false 1 (negsuc 9)) gain)
  from = subst T (sym tests.0) tt

  to : T (le gain (fin false 1 (pos 0)))
  to = subst T (sym tests.1) tt

  is_positive : T (positive gain)
  is_positive = between (fin false 1 (negsuc 9)) gain (fin false 1 (pos 0)) tt tt from to

  lowest : den gain ≤ num gain * 2 ^ 10
  lowest = omega (arith, le→cross (fin false 1 (negsuc 9)) gain tt is_positive from)

  highest : num gain ≤ den gain
  highest = omega (arith, le→cross gain (fin false 1 (pos 0)) is_positive tt to)

-- ---- its digits

-- digits below 2^53 over 2^k, from 2^-10 up: k is at most 62
exponent_to : (m k : ℕ) → m < 2 ^ 53 → 2 ^ k ≤ m * 2 ^ 10 → k ≤ 62
exponent_to m k h l = by_test (leb k 62) refl
  where
    by_test : (t : Bool) → leb k 62 ≡ t → k ≤ 62
    by_test true e = leb-true k 62 e
    by_test false e =
        let big : 2 ^ 63 ≤ 2 ^ k = pow_mono (leb-false k 62 e) in
        absurd (lt_irrefl (2 ^ 63) (lt_of_le_of_lt big (lt_of_le_of_lt l (shl_lt 53 10 h))))

-- m / 2^k is a whole number over 2^62
over_62 : (m k : ℕ) → k ≤ 62 → m * 2 ^ 62 / 2 ^ k * 2 ^ k ≡ m * 2 ^ 62
over_62 m k h =
    let e : m * 2 ^ 62 ≡ m * 2 ^ (62 - k) * 2 ^ k =
    ap (λ (j : ℕ). m * 2 ^ j) (joined k h) ∙ ap (λ (j : ℕ). m * j) (pow-add 2 (62 - k) k) ∙ sym (mul_assoc m (2 ^ (62 - k)) (2 ^ k))
    in
    ap (λ (n : ℕ). n / 2 ^ k * 2 ^ k) e ∙ ap (λ (n : ℕ). n * 2 ^ k) (shl-shr (m * 2 ^ (62 - k)) k) ∙ sym e
  where
    joined : (k : ℕ) → k ≤ 62 → 62 ≡ 62 - k + k
    joined k h = omega arith

digits_fit : (m : ℕ) (a c d : Bool) → T (((a && ltb m (2 ^ 53)) && c) && d) → m < 2 ^ 53
digits_fit m a c d t = ltb→lt m (2 ^ 53) (and_r a (ltb m (2 ^ 53)) (and_l (a && ltb m (2 ^ 53)) c (and_l ((a && ltb m (2 ^ 53)) && c) d t)))

-- ---- the law

-- Every f64 from 2^-10 to 1 is G / 2^62.
pub gain_whole : (gain : Float) → T (fits binary64 gain) → gain_in_range_of gain ≡ true → HasValue gain false (whole_gain_of gain) (2 ^ 62)
unfolding fits
gain_whole nan f r = absurd (is_positive nan r)
gain_whole (inf s) f r = absurd (is_positive (inf s) r)
gain_whole (fin true m e) f r = absurd (is_positive (fin true m e) r)
gain_whole (fin false zero e) f r = absurd (is_positive (fin false zero e) r)
gain_whole (fin false (suc m) (pos k)) f r = (refl, sym (mul-one _ ∙ div-one _))
gain_whole (fin false (suc m) (negsuc k)) f r =
    let small : suc m < 2 ^ 53 = digits_fit (suc m) (eqb (suc m % 2) 1) (leb (2 ^ suc k) (2 ^ 1074)) (ltb (suc m * 1) (2 ^ 1024 * 2 ^ suc k)) f in
    let low : 2 ^ suc k ≤ suc m * 2 ^ 10 = subst (λ (n : ℕ). 2 ^ suc k ≤ n * 2 ^ 10) (mul-one (suc m)) (lowest (fin false (suc m) (negsuc k)) r) in
    (refl, sym (over_62 (suc m * 1) (suc k) (exponent_to (suc m) (suc k) small low)))

-- G is from 2^52 to 2^62.
module _ (gain : Float) (f : T (fits binary64 gain)) (range : gain_in_range_of gain ≡ true) where
  whole : num gain * 2 ^ 62 ≡ whole_gain_of gain * den gain
  whole = cross gain false (whole_gain_of gain) (2 ^ 62) (gain_whole gain f range)

  pub whole_gain_from : 2 ^ 62 ≤ whole_gain_of gain * 2 ^ 10
  whole_gain_from = le_of_mul-le-mul_right (omega (arith, whole, lowest gain range)) (den_pos gain)

  pub whole_gain_to : whole_gain_of gain ≤ 2 ^ 62 * 1
  whole_gain_to = le_of_mul-le-mul_right (omega (arith, whole, highest gain range)) (den_pos gain)
