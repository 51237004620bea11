-- One rounding: `round` is off by at most one part in 2 ^ prec where its result is in the normal range.
use Rattle.std.specs.Prelude.{◌≡◌, not, T, eqb}
use Rattle.std.proofs.Common.{sym, ap, ◌∙◌, subst, le_trans, le_of_eq, mul_comm, mul_assoc, mul_left_comm, mul-le-mul_right, le-div_iff_mul-le, div-add-mod', mod-lt, mul-pos, arith, leb→le, eqb→eq, pow-add, pow_pos}
use Prim.Native.Nat.{ℕ, suc, ◌+◌, ◌-◌, ◌*◌, ◌/◌, ◌%◌, ◌^◌, ◌≤◌, ◌<◌, compare, Ordering}
use Rattle.std.proofs.Math.Nat.{pow-succ'}
use Rattle.std.proofs.Math.Dec.{is_le, compare_is_eq, nleb→lt, eqb_refl}
use Rattle.std.proofs.Math.Arith.{lt_of_le-ne}
use Rattle.std.proofs.Math.Pow.{suc_ones}
use Rattle.std.specs.Float.{Format}
use Rattle.std.specs.Float.Ieee.{prec, low, size, nearest}
use Rattle.std.specs.Float.Ieee.Digits.{size_reaches}
use Rattle.std.specs.Float.Ieee.Fits.{two, two-le_pos}
use Rattle.std.specs.Float.Ieee.Nearest.{closest}
use Rattle.std.specs.Float.Ieee.Order.{drop}
use Rattle.std.specs.Float.Ieee.Scale.{grid}

-- ---- what `compare` says
abbrev Cmp : Ordering → ℕ → ℕ → Type 0
Cmp Ordering.lt a b = a < b
Cmp Ordering.eq a b = a ≡ b
Cmp Ordering.gt a b = b < a

cmp : (a b : ℕ) → Cmp (compare a b) a b
cmp a b = go (compare a b) (leb→le a b) (nleb→lt a b) (eqb→eq a b) (λ (e : a ≡ b). subst (λ (x : ℕ). T (eqb a x)) e (eqb_refl a))
  where
    go : (o : Ordering) → (T (is_le o) → a ≤ b) → (T (not (is_le o)) → b < a) → (T (compare_is_eq o) → a ≡ b) → (a ≡ b → T (compare_is_eq o)) → Cmp o a b
    go Ordering.lt h k e n = lt_of_le-ne (h tt) n
    go Ordering.eq h k e n = e tt
    go Ordering.gt h k e n = k tt

-- ---- the nearest multiple of u is at most u / 2 away
abbrev Half : ℕ → ℕ → ℕ → Type 0
Half n u z = (2 * z ≤ 2 * n + u) × (2 * n ≤ 2 * z + u)

one_more : (q : ℕ) → q % 2 ≤ 1
one_more q = omega arith

half_by : (n u q r : ℕ) (o : Ordering) → q * u + r ≡ n → r < u → Cmp o (r * 2) u → Half n u (nearest q o * u)
half_by n u q r Ordering.lt e h k = omega arith
half_by n u q r Ordering.eq e h k = omega (arith, mul-le-mul_right u (one_more q))
half_by n u q r Ordering.gt e h k = omega arith

pub closest_half : (n u : ℕ) → 0 < u → Half n u (closest n u * u)
closest_half n u U = half_by n u (n / u) (n % u) (compare (n % u * 2) u) (div-add-mod' n u) (mod-lt n U) (cmp (n % u * 2) u)

-- ---- in the normal range the unit is at most one part in 2 ^ (prec - 1)
rebuild : (z p : ℕ) → p ≤ z → 0 < p → z - p + p ≡ suc (z - 1)
rebuild z p h P = omega arith

unit_small : (p n c : ℕ) → 0 < p → 0 < c → p ≤ size (n / c) → c * 2 ^ drop p n c * 2 ^ p ≤ 2 * n
unit_small p n c P C N =
    let z = size (n / c) in
    let k = drop p n c in
    let lead : 2 ^ (z - 1) * c ≤ n = (le-div_iff_mul-le C).0 (size_reaches (n / c) (z - 1) (omega arith)) in
    let e : 2 ^ k * 2 ^ p ≡ 2 * 2 ^ (z - 1) = sym (pow-add 2 k p) ∙ ap (λ (j : ℕ). 2 ^ j) (rebuild z p N P) ∙ pow-succ' 2 (z - 1) in
    le_trans (le_of_eq (mul_assoc c (2 ^ k) (2 ^ p) ∙ ap (λ (x : ℕ). c * x) e)) (omega arith)

-- ---- so the rounded number of units, g, is n / c within one part in 2 ^ prec
abbrev pub Relative : ℕ → ℕ → ℕ → ℕ → Type 0
Relative p n c g = (g * c * 2 ^ p ≤ n * (2 ^ p + 1)) × (n * (2 ^ p - 1) ≤ g * c * 2 ^ p)

scaled : (n u z P Q : ℕ) → suc Q ≡ P → Half n u z → u * P ≤ 2 * n → (z * P ≤ n * (P + 1)) × (n * Q ≤ z * P)
scaled n u z P Q e h k = (
  omega (arith, mul-le-mul_right P h.0),
  omega (arith, mul-le-mul_right P h.1, ap (λ (x : ℕ). n * x) e),
)

-- in units of the format's smallest value, `grid` is the rounded number: the unit's multiple, times the unit
on_grid : (f : Format) (a c : ℕ) → closest (a * 2 ^ low f) (c * 2 ^ drop (prec f) (a * 2 ^ low f) c) * (c * 2 ^ drop (prec f) (a * 2 ^ low f) c) ≡ grid f a c * c
on_grid f a c = simp (mul_assoc, mul_comm, mul_left_comm)

pub grid_near : (f : Format) (a c : ℕ) → 0 < c → prec f ≤ size (a * 2 ^ low f / c) → Relative (prec f) (a * 2 ^ low f) c (grid f a c)
grid_near f a c C N =
    let n = a * 2 ^ low f in
    let u = c * 2 ^ drop (prec f) n c in
    let P : 0 < prec f = two-le_pos (prec f) (two f) in
    subst (λ (z : ℕ). (z * 2 ^ prec f ≤ n * (2 ^ prec f + 1)) × (n * (2 ^ prec f - 1) ≤ z * 2 ^ prec f)) (on_grid f a c)
    (scaled n u (closest n u * u) (2 ^ prec f) (2 ^ prec f - 1) (suc_ones (prec f)) (closest_half n u (mul-pos C (pow_pos (drop (prec f) n c)))) (unit_small (prec f) n c P C N))
