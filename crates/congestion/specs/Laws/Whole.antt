-- Floats that are whole numbers: held as they are, divided with one rounding, truncated to their whole part.
use Rattle.std.specs.Prelude.{◌≡◌, ℕ, ◌-◌, ◌*◌, ◌/◌, ◌^◌, ◌<◌, ◌≤◌, min, Bool, true, false, cond, pos, neg_ℤ, ◌==◌, ◌≢◌, Float}
use Rattle.std.proofs.Common.{sym, ap, ◌∙◌, mul-pos, mul_assoc, mul_comm, mul-one, zero-mul, arith, ne_eqb}
use Rattle.std.specs.Float.{nan, inf, fin, binary64}
use Rattle.std.specs.Float.Ieee.{up, down, unlike, round, div, to_signed}
use Rattle.std.specs.Float.Ieee.Fits.{down_pos}
use Rattle.std.specs.Float.Ieee.Exact.{HasValue}
use Rattle.std.specs.Float.Ieee.Back.{round_whole}
use Rattle.std.specs.Float.Ieee.Scale.{round_same}
use Rattle.std.specs.Float.Ieee.Nearest.{div_same}

-- A whole number of up to 53 digits is held as it is.
pub held_whole : (s : Bool) (n : ℕ) → n ≤ 2 ^ 53 → HasValue (round binary64 s n 1) s n 1
held_whole s n h = round_whole binary64 s n h

-- a whole number over any common denominator
pub whole-over : (m u p w c : ℕ) → m * u * 1 ≡ p * w → m * u * c ≡ p * (w * c)
whole-over m u p w c h = ap (λ (k : ℕ). k * c) (sym (mul-one (m * u)) ∙ h) ∙ mul_assoc p w c

-- ---- the quotient

quotient_over : (n share c c' : ℕ) → c ≡ c' → n * c * share ≡ n * (share * c')
quotient_over n share c c' e = mul_assoc n c share ∙ ap (λ (k : ℕ). n * k) (mul_comm c share ∙ ap (λ (k : ℕ). share * k) e)

not_zero : (v u w : ℕ) → v * u * 1 ≡ w → 0 < w → v ≢ 0
not_zero v u w e h z =
    let q : v * u ≡ 0 = ap (λ (k : ℕ). k * u) z ∙ zero-mul u in
    omega arith

sign_kept : (t u s : Bool) → t ≡ s → u ≡ false → unlike t u ≡ s
sign_kept true true s p q = let z : ◌≡◌ {A = ℕ} 0 1 = cc in absurd (omega arith)
sign_kept true false s p q = p
sign_kept false true s p q = let z : ◌≡◌ {A = ℕ} 0 1 = cc in absurd (omega arith)
sign_kept false false s p q = p

-- Of two floats that are the whole numbers n, with its sign, and share: one rounding.
pub quotient : (x y : Float) (s : Bool) (n share : ℕ) → HasValue x s n 1 → HasValue y false share 1 → 0 < share → div binary64 x y ≡ round binary64 s n share
unfolding div
quotient nan y s n share h k g = absurd h
quotient (inf t) y s n share h k g = absurd h
quotient (fin t m e) nan s n share h k g = absurd k
quotient (fin t m e) (inf u) s n share h k g = absurd k
quotient (fin t m e) (fin u v d) s n share h k g =
    let c = down e * down d in
    ap (λ (b : Bool). cond b (cond (m == 0) nan (inf (unlike t u))) (round binary64 (unlike t u) (m * up e * down d) (v * up d * down e)))
    (ne_eqb v 0 (not_zero v (up d) (share * down d) k.1 (mul-pos g (down_pos d))))
    ∙ ap (λ (b : Bool). round binary64 b (m * up e * down d) (v * up d * down e)) (sign_kept t u s h.0 k.0)
    ∙ ap (λ (a : ℕ). round binary64 s a (v * up d * down e)) (whole-over m (up e) n (down e) (down d) h.1)
    ∙ ap (λ (b : ℕ). round binary64 s (n * c) b) (whole-over v (up d) share (down d) (down e) k.1)
    ∙ round_same binary64 s (n * c) (share * (down d * down e)) n share (mul-pos g (mul-pos (down_pos d) (down_pos e))) g (quotient_over n share c (down d * down e) (mul_comm (down e) (down d)))

-- ---- truncated

-- A float of the size n / share, truncated, where the whole part fits.
pub truncated : (x : Float) (s : Bool) (n share : ℕ) → HasValue x s n share → 0 < share → n / share < 2 ^ 63 → to_signed 63 x ≡ cond s (neg_ℤ (pos (n / share))) (pos (n / share))
unfolding to_signed
truncated nan s n share h g k = absurd h
truncated (inf t) s n share h g k = absurd h
truncated (fin t m e) s n share h g k =
    let q : m * up e / down e ≡ n / share = div_same (m * up e) (down e) n share (down_pos e) g h.1 in
    ap (λ (v : Bool). cond v (neg_ℤ (pos (min (m * up e / down e) (2 ^ 63)))) (pos (min (m * up e / down e) (2 ^ 63 - 1)))) h.0
    ∙ ap (λ (a : ℕ). cond s (neg_ℤ (pos (min a (2 ^ 63)))) (pos (min a (2 ^ 63 - 1)))) q
    ∙ ap (λ (a : ℕ). cond s (neg_ℤ (pos a)) (pos (min (n / share) (2 ^ 63 - 1)))) (low_min (n / share) k)
    ∙ ap (λ (a : ℕ). cond s (neg_ℤ (pos (n / share))) (pos a)) (low_min' (n / share) k)
  where
    low_min : (a : ℕ) → a < 2 ^ 63 → min a (2 ^ 63) ≡ a
    low_min a h = omega arith

    low_min' : (a : ℕ) → a < 2 ^ 63 → min a (2 ^ 63 - 1) ≡ a
    low_min' a h = omega arith
