-- In document 01's range every f64 step of the Rust's move of a round trip or a variance is exact, so that signed division agrees with it.
use Rattle.std.specs.Prelude.{◌≡◌, ℕ, suc, ◌-◌, ◌*◌, ◌/◌, ◌^◌, ◌<◌, ◌≤◌, Bool, true, false, cond, not, ℤ, pos, negsuc, ◌+ℤ◌, neg_ℤ, int_div, nat_lt, unsigned_abs, refl, Float}
use Rattle.std.proofs.Common.{sym, ◌∙◌, mul-pos, mul_assoc, mul_comm, mul-one, div-le_self, mul-lt-mul_of_pos_right, mul-le-mul_right, lt_of_le_of_lt, arith, lit<, shl_lt, lt-ltb, le-ltb, ltb-true, ltb-false}
use Rattle.std.proofs.Math.Path.{ap}
use Rattle.std.proofs.Math.Nat.{mul-sub}
use Rattle.std.proofs.Math.IntN.{sub_ℕ}
use Rattle.std.specs.Float.{nan, inf, fin}
use Rattle.std.specs.Float.Ieee.{binary64, up, down, round, neg, sum, add, sub, div, of_int, to_signed}
use Rattle.std.specs.Float.Ieee.Fits.{down_pos}
use Rattle.std.specs.Float.Ieee.Exact.{HasValue, round_exact}
use Rattle.std.specs.Float.Ieee.Scale.{round_same}
use Rattle.congestion.specs.Trip.{moved_of}
use Rattle.congestion.specs.Rust.{rust_move_of}
use Rattle.congestion.specs.Laws.Whole.{held_whole, whole-over, quotient, truncated}
use Rattle.congestion.specs.Laws.Trip.{sub_from_above, sub_from_below, apart_at_most, moved_exact}

-- ---- the difference

apart-over : (p r c : ℕ) → r * c - p * c ≡ (r - p) * c
apart-over p r c = ap (λ (k : ℕ). k - p * c) (mul_comm r c) ∙ ap (λ (k : ℕ). c * r - k) (mul_comm p c) ∙ sym (mul-sub c r p) ∙ mul_comm c (r - p)

-- one rounded difference over c is that of the whole numbers
rounded_over : (s : Bool) (p r c : ℕ) → 0 < c → round binary64 s (r * c - p * c) c ≡ round binary64 s (r - p) 1
rounded_over s p r c h =
    ap (λ (k : ℕ). round binary64 s k c) (apart-over p r c) ∙ round_same binary64 s ((r - p) * c) c (r - p) 1 h (omega arith) (mul-one ((r - p) * c))

test_over : (p r c : ℕ) → 0 < c → nat_lt (p * c) (r * c) ≡ nat_lt p r
test_over p r c h = by_test (nat_lt p r) refl
  where
    by_test : (t : Bool) → nat_lt p r ≡ t → nat_lt (p * c) (r * c) ≡ nat_lt p r
    by_test true e = lt-ltb (p * c) (r * c) (mul-lt-mul_of_pos_right (ltb-true p r e) h) ∙ sym e
    by_test false e = le-ltb (p * c) (r * c) (mul-le-mul_right c (ltb-false p r e)) ∙ sym e

summed : (p r c : ℕ) → 0 < c → sum binary64 false (p * c) true (r * c) c ≡ cond (nat_lt p r) (round binary64 true (r - p) 1) (round binary64 false (p - r) 1)
unfolding sum
summed p r c h =
    ap (λ (t : Bool). cond t (round binary64 true (r * c - p * c) c) (round binary64 false (p * c - r * c) c)) (test_over p r c h)
    ∙ ap (λ (x : Float). cond (nat_lt p r) x (round binary64 false (p * c - r * c) c)) (rounded_over true p r c h)
    ∙ ap (λ (x : Float). cond (nat_lt p r) (round binary64 true (r - p) 1) x) (rounded_over false r p c h)

-- of two floats that are the whole numbers p and r
difference : (x y : Float) (p r : ℕ) → HasValue x false p 1 → HasValue y false r 1
    → sub binary64 x y ≡ cond (nat_lt p r) (round binary64 true (r - p) 1) (round binary64 false (p - r) 1)
unfolding sub add neg
difference nan y p r h k = absurd h
difference (inf s) y p r h k = absurd h
difference (fin s m e) nan p r h k = absurd k
difference (fin s m e) (inf t) p r h k = absurd k
difference (fin s m e) (fin t n d) p r h k =
    let c = down e * down d in
    ap (λ (v : Bool). sum binary64 v (m * up e * down d) (not t) (n * up d * down e) c) h.0
    ∙ ap (λ (v : Bool). sum binary64 false (m * up e * down d) (not v) (n * up d * down e) c) k.0
    ∙ ap (λ (a : ℕ). sum binary64 false a true (n * up d * down e) c) (whole-over m (up e) p (down e) (down d) h.1)
    ∙ ap (λ (b : ℕ). sum binary64 false (p * c) true b c) (whole-over n (up d) r (down d) (down e) k.1 ∙ ap (λ (b : ℕ). r * b) (mul_comm (down d) (down e)))
    ∙ summed p r c (mul-pos (down_pos e) (down_pos d))

-- The Rust's difference of two times is the whole difference.
pub difference_exact : (p r : ℕ) → p ≤ 2 ^ 53 → r ≤ 2 ^ 53 → sub binary64 (of_int binary64 (pos p)) (of_int binary64 (pos r)) ≡ of_int binary64 (sub_ℕ p r)
unfolding of_int
difference_exact p r h k = difference (round binary64 false p 1) (round binary64 false r 1) p r (held_whole false p h) (held_whole false r k) ∙ by_test (nat_lt p r) refl
  where
    by_test : (t : Bool) → nat_lt p r ≡ t → cond t (round binary64 true (r - p) 1) (round binary64 false (p - r) 1) ≡ of_int binary64 (sub_ℕ p r)
    by_test true e =
        let l = ltb-true p r e in
        let q : r - p ≡ suc (r - suc p) = omega arith in
        ap (λ (n : ℕ). round binary64 true n 1) q ∙ ap (of_int binary64) (sym (sub_from_below p r l))
    by_test false e = ap (of_int binary64) (sym (sub_from_above p r (ltb-false p r e)))

-- ---- together

-- a share by which a time divides without rounding
abbrev pub Exact : ℕ → Type 0
Exact share = (s : Bool) (n : ℕ) → n ≤ 2 ^ 50 → HasValue (round binary64 s n share) s n share

quarter_exact : Exact 4
quarter_exact s n h = round_exact binary64 s n 4 n 1072 (omega arith) (omega arith) (shl_lt 1026 1072 (lt_of_le_of_lt h (lit< tt))) (sym (mul_assoc n (2 ^ 1072) 4))

eighth_exact : Exact 8
eighth_exact s n h = round_exact binary64 s n 8 n 1071 (omega arith) (omega arith) (shl_lt 1027 1071 (lt_of_le_of_lt h (lit< tt))) (sym (mul_assoc n (2 ^ 1071) 8))

module _ (share : ℕ) (g : 0 < share) (small : share ≤ 2 ^ 53) (exact : Exact share) where
  -- the quotient of a whole number with a sign, truncated
  divided : (s : Bool) (n : ℕ) → n ≤ 2 ^ 50 → to_signed 63 (div binary64 (round binary64 s n 1) (round binary64 false share 1)) ≡ cond s (neg_ℤ (pos (n / share))) (pos (n / share))
  divided s n h =
      ap (to_signed 63) (quotient (round binary64 s n 1) (round binary64 false share 1) s n share (held_whole s n (omega arith)) (held_whole false share small) g)
      ∙ truncated (round binary64 s n share) s n share (exact s n h) g (omega (arith, div-le_self n share))

  signed : (z : ℤ) → unsigned_abs z ≤ 2 ^ 50 → to_signed 63 (div binary64 (of_int binary64 z) (of_int binary64 (pos share))) ≡ int_div z (pos share)
  unfolding of_int
  signed (pos n) h = divided false n h
  signed (negsuc n) h = divided true (suc n) h

  agrees : (old to : ℕ) → old ≤ 2 ^ 50 → to ≤ 2 ^ 50 → rust_move_of share old to ≡ int_div (sub_ℕ to old) (pos share)
  unfolding rust_move_of
  agrees old to h k =
      ap (λ (x : Float). to_signed 63 (div binary64 x (of_int binary64 (pos share)))) (difference_exact to old (omega arith) (omega arith))
      ∙ signed (sub_ℕ to old) (apart_at_most to old (2 ^ 50) k h)

-- The variance's move: (|r - p| - v) / 4.
pub quarter_agrees : (old to : ℕ) → old ≤ 2 ^ 50 → to ≤ 2 ^ 50 → rust_move_of 4 old to ≡ int_div (sub_ℕ to old) (pos 4)
quarter_agrees = agrees 4 (omega arith) (omega arith) quarter_exact

-- The round trip's move: (p - r) / 8.
pub eighth_agrees : (old to : ℕ) → old ≤ 2 ^ 50 → to ≤ 2 ^ 50 → rust_move_of 8 old to ≡ int_div (sub_ℕ to old) (pos 8)
eighth_agrees = agrees 8 (omega arith) (omega arith) eighth_exact

-- So the definitions' variance and round trip are the old ones plus what the Rust's f64 work gives, as signed whole numbers. Neither sum is below
-- 0: the Rust's saturating subtraction never saturates.
pub variance_as_in_rust : (v to : ℕ) → v ≤ 2 ^ 50 → to ≤ 2 ^ 50 → pos (moved_of 4 v to) ≡ pos v +ℤ rust_move_of 4 v to
variance_as_in_rust v to h k = moved_exact 4 v to ∙ ap (λ (z : ℤ). pos v +ℤ z) (sym (quarter_agrees v to h k))

pub trip_as_in_rust : (r p : ℕ) → r ≤ 2 ^ 50 → p ≤ 2 ^ 50 → pos (moved_of 8 r p) ≡ pos r +ℤ rust_move_of 8 r p
trip_as_in_rust r p h k = moved_exact 8 r p ∙ ap (λ (z : ℤ). pos r +ℤ z) (sym (eighth_agrees r p h k))
