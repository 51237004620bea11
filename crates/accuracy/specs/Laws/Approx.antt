-- Floats as approximations of fractions: one that a rounding gives is within one part in 2 ^ 53, and a product's parts multiply. Zero is exact, and the
-- sign is carried along.
use Rattle.std.specs.Prelude.{◌≡◌, refl, Bool, ℕ, zero, suc, ◌+◌, ◌-◌, ◌*◌, ◌^◌, ◌≤◌, ◌<◌, Float}
use Rattle.std.proofs.Common.{sym, ap, ◌∙◌, subst, zero-lt-suc, le_trans, le_of_eq, lt_of_le_of_lt, lt_of_lt_of_le, mul-one, mul_assoc, zero-mul, mul-le-mul_left, mul-le-mul_right, mul-le-mul, le_of_mul-le-mul_right, mul-pos, arith, lit≤, lit<}
use Rattle.std.specs.Float.{nan, inf, fin, binary64}
use Rattle.std.specs.Float.Ieee.{up, down, unlike, round, mul}
use Rattle.std.specs.Float.Ieee.Exact.{HasValue, units_val}
use Rattle.std.specs.Float.Ieee.Fits.{round_is}
use Rattle.std.specs.Float.Ieee.Order.{drop, kept}
use Rattle.std.specs.Float.Ieee.Positive.{num, den, den_pos, first_pos}
use Rattle.std.specs.Float.Ieee.Scale.{grid, overflow, round_same, normal_of_fraction}
use Rattle.congestion.specs.Laws.Whole.{held_whole}
use Rattle.accuracy.specs.Laws.Rounding.{Relative, grid_near}

-- ---- a float's size as the fraction num / den

pub own : (x : Float) (s : Bool) (a c : ℕ) → HasValue x s a c → HasValue x s (num x) (den x)
own nan s a c h = absurd h
own (inf t) s a c h = absurd h
own (fin t m e) s a c h = (h.0, refl)

pub cross : (x : Float) (s : Bool) (a c : ℕ) → HasValue x s a c → num x * c ≡ a * den x
cross nan s a c h = absurd h
cross (inf t) s a c h = absurd h
cross (fin t m e) s a c h = h.1

-- ---- approximations

-- a / b ≤ c / d * (h / m)
abbrev pub Up : ℕ → ℕ → ℕ → ℕ → ℕ → ℕ → Type 0
Up a b c d m h = a * d * m ≤ c * b * h

-- x has the sign s, and its size is a / c times something from lo / m to hi / m.
pub record Approx (x : Float) (s : Bool) (a c m hi lo : ℕ) : Type 0 where
  pub has : HasValue x s (num x) (den x)
  pub above : Up (num x) (den x) a c m hi
  pub below : Up a c (num x) (den x) lo m

pub exactly : (x : Float) (s : Bool) (a c : ℕ) → HasValue x s a c → Approx x s a c 1 1 1
exactly x s a c v =
    let e : num x * c ≡ a * den x = cross x s a c v in
    record { has = own x s a c v; above = omega arith; below = omega arith }

up_through : (a b c d e f m h m' h' : ℕ) → 0 < d → Up a b c d m h → Up c d e f m' h' → Up a b e f (m * m') (h * h')
up_through a b c d e f m h m' h' D p q = le_of_mul-le-mul_right (omega (arith, mul-le-mul_right (f * m') p, mul-le-mul_right (b * h) q)) D

up_times : (a b c d a' b' c' d' m h m' h' : ℕ) → Up a b c d m h → Up a' b' c' d' m' h' → Up (a * a') (b * b') (c * c') (d * d') (m * m') (h * h')
up_times a b c d a' b' c' d' m h m' h' p q = omega (arith, mul-le-mul p q)

-- x / w is at most twice what z / y is: with z ≤ y * h, x ≤ w * (2 * h)
pub span : (x y z w s t h : ℕ) → 0 < s → 0 < y → x * y * s ≤ z * w * t → t ≤ 2 * s → z ≤ y * h → x ≤ w * (2 * h)
span x y z w s t h S Y p q r =
    let a : x * y ≤ z * w * 2 = le_of_mul-le-mul_right (omega (arith, mul-le-mul_left (z * w) q)) S in
    le_of_mul-le-mul_right (omega (arith, mul-le-mul_right (2 * w) r)) Y

-- ---- n / d, rounded

-- from the grid to the float's own fraction
off_grid_hi : (nx dx G L a c P H : ℕ) → 0 < L → nx * L ≡ G * dx → G * c * P ≤ a * L * H → nx * c * P ≤ a * dx * H
off_grid_hi nx dx G L a c P H Lp e h = le_of_mul-le-mul_right (omega (arith, ap (λ (z : ℕ). z * (c * P)) e, mul-le-mul_right dx h)) Lp

off_grid_lo : (nx dx G L a c P H : ℕ) → 0 < L → nx * L ≡ G * dx → a * L * H ≤ G * c * P → a * dx * H ≤ nx * c * P
off_grid_lo nx dx G L a c P H Lp e h = le_of_mul-le-mul_right (omega (arith, ap (λ (z : ℕ). z * (c * P)) e, mul-le-mul_right dx h)) Lp

-- the grid's number is at most twice the fraction
under_twice : (G n d L P h : ℕ) → 0 < d → 0 < P → G * d * P ≤ n * L * (P + 1) → n ≤ d * h → G ≤ 2 * (h * L)
under_twice G n d L P h D Pp p q =
    let a : G * d ≤ n * L * 2 = le_of_mul-le-mul_right (omega (arith, mul-le-mul_left (n * L) Pp)) Pp in
    le_of_mul-le-mul_right (omega (arith, mul-le-mul_right (2 * L) q)) D

lift : (d n l K B : ℕ) → d ≤ n * l → K * l ≤ B → K * d ≤ n * B
lift d n l K B p q = omega (arith, mul-le-mul_left K p, mul-le-mul_left n q)

-- from 1 / l to h, in the normal range
module _ (s : Bool) (n d : ℕ) (D : 0 < d) (h l : ℕ) (hi : n ≤ d * h) (lo : d ≤ n * l) (hb : h ≤ 2 ^ 1000) (lb : l ≤ 2 ^ 1000) where
  near_grid : Relative 53 (n * 2 ^ 1074) d (grid binary64 n d)
  near_grid = grid_near binary64 n d D (normal_of_fraction binary64 n d D (lift d n l (2 ^ 52) (2 ^ 1074) lo (le_trans (mul-le-mul_left (2 ^ 52) lb) (lit≤ tt))))

  fine : grid binary64 n d < overflow binary64
  fine =
      lt_of_le_of_lt (under_twice (grid binary64 n d) n d (2 ^ 1074) (2 ^ 53) h D (lit< tt) near_grid.0 hi)
      (lt_of_le_of_lt (mul-le-mul_left 2 (mul-le-mul_right (2 ^ 1074) hb)) (lit< tt))

  has_value : HasValue (round binary64 s n d) s (grid binary64 n d) (2 ^ 1074)
  has_value =
      subst (λ (z : Float). HasValue z s (grid binary64 n d) (2 ^ 1074)) (sym (round_is binary64 s n d))
      (units_val binary64 s (kept 53 (n * 2 ^ 1074) d) (drop 53 (n * 2 ^ 1074) d) fine)

  rounded_some : Approx (round binary64 s n d) s n d (2 ^ 53) (2 ^ 53 + 1) (2 ^ 53 - 1)
  rounded_some =
      let x = round binary64 s n d in
      let G = grid binary64 n d in
      let e : num x * 2 ^ 1074 ≡ G * den x = cross x s G (2 ^ 1074) has_value in
      record {
        has = own x s G (2 ^ 1074) has_value;
        above = off_grid_hi (num x) (den x) G (2 ^ 1074) n d (2 ^ 53) (2 ^ 53 + 1) (lit< tt) e near_grid.0;
        below = off_grid_lo (num x) (den x) G (2 ^ 1074) n d (2 ^ 53) (2 ^ 53 - 1) (lit< tt) e near_grid.1;
      }

rounded_none : (s : Bool) (d : ℕ) → 0 < d → Approx (round binary64 s 0 d) s 0 d (2 ^ 53) (2 ^ 53 + 1) (2 ^ 53 - 1)
rounded_none s d D =
    let x = round binary64 s 0 d in
    let v : HasValue x s 0 1 =
    subst (λ (z : Float). HasValue z s 0 1) (sym (round_same binary64 s 0 d 0 1 D (lit< tt) (mul-one 0 ∙ sym (zero-mul d)))) (held_whole s 0 (lit≤ tt))
    in
    let e : num x * 1 ≡ 0 * den x = cross x s 0 1 v in
    let z : num x ≡ 0 = omega (arith, zero-mul (den x)) in
    record {
      has = own x s 0 1 v;
      above = subst (λ (k : ℕ). k * d * 2 ^ 53 ≤ 0 * den x * (2 ^ 53 + 1)) (sym z) (omega (arith, zero-mul d, zero-mul (den x)));
      below = omega (arith, zero-mul (den x));
    }

-- 0, or from 1 / l to h
pub rounded : (s : Bool) (n d : ℕ) → 0 < d → (h l : ℕ) → n ≤ d * h → (0 < n → d ≤ n * l) → h ≤ 2 ^ 1000 → l ≤ 2 ^ 1000
    → Approx (round binary64 s n d) s n d (2 ^ 53) (2 ^ 53 + 1) (2 ^ 53 - 1)
rounded s zero d D h l hi lo hb lb = rounded_none s d D
rounded s (suc n) d D h l hi lo hb lb = rounded_some s (suc n) d D h l hi (lo (zero-lt-suc n)) hb lb

-- ---- two approximations, multiplied

product_is : (x y : Float) (s t : Bool) → HasValue x s (num x) (den x) → HasValue y t (num y) (den y)
    → mul binary64 x y ≡ round binary64 (unlike s t) (num x * num y) (den x * den y)
unfolding mul
product_is nan y s t h k = absurd h
product_is (inf u) y s t h k = absurd h
product_is (fin u m e) nan s t h k = absurd k
product_is (fin u m e) (inf v) s t h k = absurd k
product_is (fin u m e) (fin v n d) s t h k =
    ap (λ (b : Bool). round binary64 (unlike b v) (m * up e * (n * up d)) (down e * down d)) h.0
    ∙ ap (λ (b : Bool). round binary64 (unlike s b) (m * up e * (n * up d)) (down e * down d)) k.0

-- what is at most a multiple of a is 0 where a is
some_of : (n k a e g : ℕ) → 0 < n → 0 < k → n * k ≤ a * e * g → 0 < a
some_of n k a e g N K h = first_pos a (e * g) (lt_of_lt_of_le (mul-pos N K) (le_trans h (le_of_eq (mul_assoc a e g))))

module _ (x y : Float) (s t : Bool) (a c m hi lo b d m' hi' lo' h l : ℕ) (p : Approx x s a c m hi lo) (q : Approx y t b d m' hi' lo') where
  pub times : 0 < c * d → 0 < m * m' → 0 < lo * lo' → hi * hi' ≤ 2 * (m * m') → m * m' ≤ 2 * (lo * lo')
      → a * b ≤ c * d * h → (0 < a * b → c * d ≤ a * b * l) → 2 * h ≤ 2 ^ 1000 → 2 * l ≤ 2 ^ 1000
      → Approx (mul binary64 x y) (unlike s t) (a * b) (c * d) (m * m' * 2 ^ 53) (hi * hi' * (2 ^ 53 + 1)) (lo * lo' * (2 ^ 53 - 1))
  times CD M L u v hr lr hb lb =
      let n = num x * num y in
      let e = den x * den y in
      let E : 0 < e = mul-pos (den_pos x) (den_pos y) in
      let up_of : Up n e (a * b) (c * d) (m * m') (hi * hi') = up_times (num x) (den x) a c (num y) (den y) b d m hi m' hi' p.above q.above in
      let down-of : Up (a * b) (c * d) n e (lo * lo') (m * m') = up_times a c (num x) (den x) b d (num y) (den y) lo m lo' m' p.below q.below in
      let top : n ≤ e * (2 * h) = span n (c * d) (a * b) e (m * m') (hi * hi') h M CD up_of u hr in
      let bottom : 0 < n → e ≤ n * (2 * l) =
      λ N. let AB : 0 < a * b = some_of n (c * d * (m * m')) (a * b) e (hi * hi') N (mul-pos CD M) (le_trans (le_of_eq (sym (mul_assoc n (c * d) (m * m')))) up_of) in
      span e (a * b) (c * d) n (lo * lo') (m * m') l L AB (omega (arith, down-of)) v (lr AB)
      in
      let r = rounded (unlike s t) n e E (2 * h) (2 * l) top bottom hb lb in
      let z = round binary64 (unlike s t) n e in
      subst (λ (w : Float). Approx w (unlike s t) (a * b) (c * d) (m * m' * 2 ^ 53) (hi * hi' * (2 ^ 53 + 1)) (lo * lo' * (2 ^ 53 - 1))) (sym (product_is x y s t p.has q.has))
      (record {
        has = r.has;
        above = turned (num z) (den z) (a * b) (c * d) (2 ^ 53) (2 ^ 53 + 1) (m * m') (hi * hi') (up_through (num z) (den z) n e (a * b) (c * d) (2 ^ 53) (2 ^ 53 + 1) (m * m') (hi * hi') E r.above up_of);
        below = up_through (a * b) (c * d) n e (num z) (den z) (lo * lo') (m * m') (2 ^ 53 - 1) (2 ^ 53) E down-of r.below;
      })
    where
      turned : (a b c d m h m' h' : ℕ) → Up a b c d (m * m') (h * h') → Up a b c d (m' * m) (h' * h)
      turned a b c d m h m' h' u = omega (arith, u)
