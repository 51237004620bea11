-- How a round trip and a variance move: by a part of the way, never past the other end, and so never below 0.
use Rattle.std.specs.Prelude.{◌≡◌, ℕ, zero, suc, ◌+◌, ◌-◌, ◌/◌, ◌<◌, ◌≤◌, Bool, true, false, cond, T, ℤ, pos, negsuc, ◌+ℤ◌, neg_ℤ, int_div, nat_lt, unsigned_abs, refl}
use Rattle.std.proofs.Common.{ap, ◌∙◌, div-le_self, arith, lt-ltb, le-ltb, ltb-true, ltb-false}
use Rattle.std.proofs.Math.Path.{subst⁻¹}
use Rattle.std.proofs.Math.IntN.{sub_ℕ}
use Rattle.std.specs.Int.Signed.{non_neg, pos-nat_abs}
use Rattle.congestion.specs.Trip.{move_of, moved_of}

-- ---- differences of two naturals

pub sub_from_above : (a b : ℕ) → b ≤ a → sub_ℕ a b ≡ pos (a - b)
sub_from_above a b h = ap (λ (t : Bool). cond t (negsuc (b - suc a)) (pos (a - b))) (le-ltb a b h)

pub sub_from_below : (a b : ℕ) → a < b → sub_ℕ a b ≡ negsuc (b - suc a)
sub_from_below a b h = ap (λ (t : Bool). cond t (negsuc (b - suc a)) (pos (a - b))) (lt-ltb a b h)

pub apart_from_above : (a b : ℕ) → b ≤ a → unsigned_abs (sub_ℕ a b) ≡ a - b
apart_from_above a b h = ap unsigned_abs (sub_from_above a b h)

pub apart_from_below : (a b : ℕ) → a < b → unsigned_abs (sub_ℕ a b) ≡ b - a
apart_from_below a b h = ap unsigned_abs (sub_from_below a b h) ∙ omega arith

-- ---- a move

-- A part of the way down is never more than the whole, so that the difference below is exact.
pub fall_at_most : (share old to : ℕ) → to < old → (old - to) / share ≤ old
fall_at_most share old to h = omega (arith, div-le_self (old - to) share)

less : (a k : ℕ) → k ≤ a → pos a +ℤ neg_ℤ (pos k) ≡ pos (a - k)
less a zero h = ap pos (omega arith)
less a (suc k) h = sub_from_above a (suc k) h

move_up : (share old to : ℕ) → old ≤ to → move_of share old to ≡ pos (old + (to - old) / share)
move_up share old to h = ap (λ (z : ℤ). pos old +ℤ int_div z (pos share)) (sub_from_above to old h)

move_down : (share old to : ℕ) → to < old → move_of share old to ≡ pos (old - (old - to) / share)
move_down share old to h =
    let e : suc (old - suc to) ≡ old - to = omega arith in
    ap (λ (z : ℤ). pos old +ℤ int_div z (pos share)) (sub_from_below to old h)
    ∙ ap (λ (n : ℕ). pos old +ℤ neg_ℤ (pos (n / share))) e
    ∙ less old ((old - to) / share) (fall_at_most share old to h)

-- No move goes below 0, for any numbers at all.
pub move_from_zero : (share old to : ℕ) → T (non_neg (move_of share old to))
move_from_zero share old to = by_test (nat_lt to old) refl
  where
    by_test : (t : Bool) → nat_lt to old ≡ t → T (non_neg (move_of share old to))
    by_test true e = subst⁻¹ (λ (z : ℤ). T (non_neg z)) (move_down share old to (ltb-true to old e)) tt
    by_test false e = subst⁻¹ (λ (z : ℤ). T (non_neg z)) (move_up share old to (ltb-false to old e)) tt

-- So what is kept is the signed move itself.
pub moved_exact : (share old to : ℕ) → pos (moved_of share old to) ≡ move_of share old to
unfolding moved_of
moved_exact share old to = pos-nat_abs (move_of share old to) (move_from_zero share old to)

pub moved_up : (share old to : ℕ) → old ≤ to → moved_of share old to ≡ old + (to - old) / share
unfolding moved_of
moved_up share old to h = ap unsigned_abs (move_up share old to h)

pub moved_down : (share old to : ℕ) → to < old → moved_of share old to ≡ old - (old - to) / share
unfolding moved_of
moved_down share old to h = ap unsigned_abs (move_down share old to h)

-- Neither end is passed.
pub moved_at_most : (share old to bound : ℕ) → old ≤ bound → to ≤ bound → moved_of share old to ≤ bound
moved_at_most share old to bound h k = by_test (nat_lt to old) refl
  where
    by_test : (t : Bool) → nat_lt to old ≡ t → moved_of share old to ≤ bound
    by_test true e = omega (arith, moved_down share old to (ltb-true to old e))
    by_test false e =
        let g = ltb-false to old e in
        omega (arith, moved_up share old to g, div-le_self (to - old) share)

pub apart_at_most : (a b bound : ℕ) → a ≤ bound → b ≤ bound → unsigned_abs (sub_ℕ a b) ≤ bound
apart_at_most a b bound h k = by_test (nat_lt a b) refl
  where
    by_test : (t : Bool) → nat_lt a b ≡ t → unsigned_abs (sub_ℕ a b) ≤ bound
    by_test true e = omega (arith, apart_from_below a b (ltb-true a b e))
    by_test false e = omega (arith, apart_from_above a b (ltb-false a b e))
