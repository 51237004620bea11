-- The whole part of a float that approximates a / c is less than 65/64 from a / c: less than 1 is cut off, and the roundings lose less than 1/64, since
-- they lose one part in 2^50 at most of something that is at most 2^52 / 1,000.
use Rattle.std.specs.Prelude.{◌≡◌, refl, Bool, cond, ℕ, zero, suc, ◌+◌, ◌*◌, ◌/◌, ◌^◌, ◌≤◌, ◌<◌, ℤ, pos, neg_ℤ, Float}
use Rattle.std.proofs.Common.{subst, zero-lt-suc, zero-mul, mul-le-mul_left, mul-le-mul_right, mul-lt-mul_of_pos_right, le_of_mul-le-mul_right, lt_of_mul-lt-mul_right, mul-pos, div-lt_iff_lt-mul, div-add-mod', mod-lt, arith}
use Rattle.std.specs.Float.Ieee.{to_signed}
use Rattle.std.specs.Float.Ieee.Positive.{num, den, den_pos}
use Rattle.congestion.specs.Laws.Whole.{truncated}
use Rattle.accuracy.specs.Laws.Approx.{Approx, span}

abbrev pub signed : Bool → ℕ → ℤ
signed s n = cond s (neg_ℤ (pos n)) (pos n)

-- the whole part of nx / dx
module _ (nx dx a c m hi lo : ℕ) (D : 0 < dx) (C : 0 < c) (M : 0 < m) (p : nx * c * m ≤ a * dx * hi) (q : a * dx * lo ≤ nx * c * m)
    (small : 1000 * a ≤ 2 ^ 52 * c) (over : 2 ^ 50 * hi ≤ (2 ^ 50 + 1) * m) (short : 2 ^ 50 * m ≤ 2 ^ 50 * lo + m) where
  not_over : 64 * (nx / dx * c) < 64 * a + 65 * c
  not_over =
      let r = nx / dx in
      let s : r * dx ≤ nx = omega (arith, div-add-mod' nx dx) in
      let t : r * c * m ≤ a * hi = le_of_mul-le-mul_right (omega (arith, mul-le-mul_right (c * m) s)) D in
      let u : 2 ^ 50 * (r * c) ≤ (2 ^ 50 + 1) * a = le_of_mul-le-mul_right (omega (arith, mul-le-mul_left a over)) M in
      omega arith

  not_short : 64 * a < 64 * (nx / dx * c) + 65 * c
  not_short =
      let r = nx / dx in
      let s : nx < (r + 1) * dx = omega (arith, div-add-mod' nx dx, mod-lt nx D) in
      let s' : nx * (c * m) < (r + 1) * dx * (c * m) = mul-lt-mul_of_pos_right s (mul-pos C M) in
      let t : a * lo < (r + 1) * (c * m) = lt_of_mul-lt-mul_right dx (omega arith) in
      let u : 2 ^ 50 * a < 2 ^ 50 * ((r + 1) * c) + a = lt_of_mul-lt-mul_right m (omega (arith, mul-le-mul_left a short)) in
      omega arith

  -- nothing has no whole part
  nothing : a ≡ 0 → nx / dx ≡ 0
  nothing e =
      let s : nx / dx * dx ≤ nx = omega (arith, div-add-mod' nx dx) in
      let t : nx / dx * c * m ≤ a * hi = le_of_mul-le-mul_right (omega (arith, mul-le-mul_right (c * m) s)) D in
      none (nx / dx) (subst (λ (k : ℕ). nx / dx * c * m ≤ k * hi) e t)
    where
      none : (k : ℕ) → k * c * m ≤ 0 * hi → k ≡ 0
      none zero h = refl
      none (suc k) h = absurd (omega (arith, mul-pos (mul-pos (zero-lt-suc k) C) M, zero-mul hi))

-- k is the whole part of x's size
pub record Cut (x : Float) (s : Bool) (a c : ℕ) : Type 0 where
  pub k : ℕ
  pub is : to_signed 63 x ≡ signed s k
  pub over : 64 * (k * c) < 64 * a + 65 * c
  pub short : 64 * a < 64 * (k * c) + 65 * c
  pub none : a ≡ 0 → k ≡ 0

pub cut_near : (x : Float) (s : Bool) (a c m hi lo : ℕ) → Approx x s a c m hi lo → 0 < c → 0 < m → 1000 * a ≤ 2 ^ 52 * c → hi ≤ 2 * m
    → 2 ^ 50 * hi ≤ (2 ^ 50 + 1) * m → 2 ^ 50 * m ≤ 2 ^ 50 * lo + m → Cut x s a c
cut_near x s a c m hi lo p C M small twice over short =
    let b : num x ≤ den x * (2 * 2 ^ 52) = span (num x) c a (den x) m hi (2 ^ 52) M C p.above twice (omega arith) in
    let t : num x / den x < 2 ^ 63 = (div-lt_iff_lt-mul (den_pos x)).1 (omega (arith, den_pos x)) in
    record {
      k = num x / den x;
      is = truncated x s (num x) (den x) p.has (den_pos x) t;
      over = not_over (num x) (den x) a c m hi lo (den_pos x) C M p.above p.below small over short;
      short = not_short (num x) (den x) a c m hi lo (den_pos x) C M p.above p.below small over short;
      none = nothing (num x) (den x) a c m hi lo (den_pos x) C M p.above p.below small over short;
    }
