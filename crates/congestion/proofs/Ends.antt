-- What truncation gives at and past the two ends of an i64's range, and that -x is 1 or more where x is -1 or less.
use Rattle.std.proofs.Common.{◌≡◌, ℕ, ◌+◌, ◌-◌, ◌*◌, ◌/◌, ◌^◌, ◌<◌, ◌≤◌, min, Bool, true, false, not, ◌&&◌, ◌||◌, T, eqb, ltb, ◌⊎◌, ℤ, pos, negsuc, neg_ℤ, refl, ap, inl, inr, le-div_iff_mul-le, arith, eqb→eq, ltb→lt, nltb→le}
use lib.Ieee.{Float, nan, inf, fin, up, down, neg, le, lt, to_signed}
use lib.Ieee.Fits.{down_pos, and_l, and_r}
use lib.Ieee.Order.{le_of_values}
use Rattle.std.proofs.num.Truncating.{one, two_to, minus_one}

either : (a b : Bool) → T (a || b) → T a ⊎ T b
either true b t = inl tt
either false b t = inr t

neither_left : (a b : Bool) → T (not (a || b)) → T (not a)
neither_left true b t = t
neither_left false b t = tt

-- numbers of unlike signs are equal only where both are zero
unlike_apart : (a d : ℕ) → 0 < a + d → T (eqb a d && (false || eqb a 0)) → ⊥
unlike_apart a d h t =
    let p : a ≡ d = eqb→eq a d (and_l (eqb a d) (eqb a 0) t) in
    let q : a ≡ 0 = eqb→eq a 0 (and_r (eqb a d) (eqb a 0) t) in
    omega arith

-- of two numbers below zero, the lesser has the larger size
sizes_turned : (a b : ℕ) (r : Bool) → T (ltb b a || (eqb a b && r)) → b ≤ a
sizes_turned a b r t = elim (either (ltb b a) (eqb a b && r) t) [
  | inl u ↦ let p : b < a = ltb→lt b a u in omega arith
  | inr u ↦ let p : a ≡ b = eqb→eq a b (and_l (eqb a b) r u) in omega arith
]

pub negated_from_one : (x : Float) → T (le x minus_one) → T (le one (neg x))
unfolding le neg
negated_from_one nan h = absurd h
negated_from_one (inf true) h = tt
negated_from_one (inf false) h = absurd h
negated_from_one (fin false m e) h = absurd (unlike_apart (m * up e * 1) (1 * down e) (omega (arith, down_pos e)) h)
negated_from_one (fin true m e) h =
    let k : 1 * down e ≤ m * up e * 1 = sizes_turned (m * up e * 1) (1 * down e) _ h in
    le_of_values one (fin false m e) 1 1 (m * up e) (down e) (omega arith) (down_pos e) (refl, refl) (refl, refl) k

-- a size of 2^63 or more stays so when it is truncated
truncated_past : (m : ℕ) (e : ℤ) → 2 ^ 63 * down e ≤ m * up e → 2 ^ 63 ≤ m * up e / down e
truncated_past m e h = (le-div_iff_mul-le (down_pos e)).1 h

pub past_top : (x : Float) → T (le one x) → T (not (lt x (two_to 63))) → pos (2 ^ 63 - 1) ≡ to_signed 63 x
unfolding le lt to_signed
past_top nan h k = absurd h
past_top (inf true) h k = absurd h
past_top (inf false) h k = refl
past_top (fin true m e) h k = absurd (unlike_apart (1 * down e) (m * up e * 1) (omega (arith, down_pos e)) h)
past_top (fin false m e) h k =
    let j : 2 ^ 63 * down e ≤ m * up e * 1 = nltb→le (m * up e * 1) (2 ^ 63 * down e) k in
    ap pos (capped (m * up e / down e) (truncated_past m e (omega arith)))
  where
    capped : (a : ℕ) → 2 ^ 63 ≤ a → 2 ^ 63 - 1 ≡ min a (2 ^ 63 - 1)
    capped a h = omega arith

pub past_bottom : (x : Float) → T (le x minus_one) → T (not (le (fin true 1 (pos 63)) x)) → negsuc (2 ^ 63 - 1) ≡ to_signed 63 x
unfolding le lt to_signed
past_bottom nan h k = absurd h
past_bottom (inf true) h k = refl
past_bottom (inf false) h k = absurd h
past_bottom (fin false m e) h k = absurd (unlike_apart (m * up e * 1) (1 * down e) (omega (arith, down_pos e)) h)
past_bottom (fin true m e) h k =
    let j : 2 ^ 63 * down e ≤ m * up e * 1 = nltb→le (m * up e * 1) (2 ^ 63 * down e) (neither_left (ltb (m * up e * 1) (2 ^ 63 * down e)) _ k) in
    ap (λ (a : ℕ). neg_ℤ (pos a)) (capped (m * up e / down e) (truncated_past m e (omega arith)))
  where
    capped : (a : ℕ) → 2 ^ 63 ≤ a → 2 ^ 63 ≡ min a (2 ^ 63)
    capped a h = omega arith
