-- Document 02, No. 7: for every setting and packet that document 01 allows with bytes in flight above 0, the adjustment is close to the exact fraction.
-- The product of the rule has off's sign and nearly the fraction's size; its whole part is taken; both are turned alike where off is below 0.
use Rattle.std.specs.Prelude.{◌≡◌, refl, Bool, true, false, not, ℕ, zero, suc, ◌+◌, ◌-◌, ◌*◌, ◌^◌, ◌≤◌, ◌<◌, T, ltb, ℤ, pos, negsuc, neg_ℤ, nat_abs, ◌+ℤ◌, ◌-ℤ◌, ◌*ℤ◌}
use Rattle.std.proofs.Common.{sym, ◌∙◌, subst, zero-le, not-suc-le-zero, zero-mul, mul-zero, arith, ne_eqb, leb→le, le→leb, ltb→lt, nltb→le, lit≤, lit<}
use Rattle.std.proofs.Math.Path.{ap}
use Rattle.std.proofs.Math.Bool.{cond}
use Rattle.std.proofs.Math.IntN.{neg_ℤ-neg_ℤ, +ℤ_comm}
use Rattle.std.specs.Int.Signed.{le_z}
use Rattle.std.specs.Float.Ieee.{to_signed}
use Rattle.congestion.specs.declared.settings.Settings.{Settings}
use Rattle.congestion.specs.Window.{held_of, off_of, product_of, adjustment_of}
use Rattle.congestion.specs.Laws.Trip.{apart_at_most}
use Rattle.congestion.specs.Laws.Numbers.{settings_facts}
use Rattle.accuracy.specs.Accuracy.{Allowed, adjustment_for, off_for, whole_gain_of, denominator_of, Close, AdjustmentClose}
use Rattle.accuracy.specs.Laws.Gain.{gain_whole, whole_gain_from, whole_gain_to}
use Rattle.accuracy.specs.Laws.Product.{negative, InUse, product_near, product_to, under_product}
use Rattle.accuracy.specs.Laws.Cut.{signed, Cut, cut_near}

-- ---- two signed numbers of one sign

signed-times : (s : Bool) (a b : ℕ) → signed s a *ℤ pos b ≡ signed s (a * b)
signed-times false a b = refl
signed-times true zero b = ap pos (zero-mul b) ∙ ap (λ (k : ℕ). neg_ℤ (pos k)) (sym (zero-mul b))
signed-times true (suc a) b = refl

near_of : (x y d : ℕ) → 64 * x < 64 * y + 65 * d → 64 * y < 64 * x + 65 * d → 64 * nat_abs (pos x -ℤ pos y) < 65 * d
near_of x zero d h k = omega arith
near_of x (suc y) d h k = by_test (ltb x (suc y)) (ltb→lt x (suc y)) (nltb→le x (suc y))
  where
    by_test : (b : Bool) → (T b → x < suc y) → (T (not b) → suc y ≤ x) → 64 * nat_abs (cond b (negsuc (suc y - suc x)) (pos (x - suc y))) < 65 * d
    by_test true f g = let l : x < suc y = f tt in omega arith
    by_test false f g = let l : suc y ≤ x = g tt in omega arith

signed_near : (s : Bool) (x y d : ℕ) → 64 * x < 64 * y + 65 * d → 64 * y < 64 * x + 65 * d → 64 * nat_abs (signed s x -ℤ signed s y) < 65 * d
signed_near false x y d h k = near_of x y d h k
signed_near true x y d h k =
    subst (λ (z : ℤ). 64 * nat_abs z < 65 * d)
    (sym (ap (λ (z : ℤ). neg_ℤ (pos x) +ℤ z) (neg_ℤ-neg_ℤ (pos y)) ∙ +ℤ_comm (neg_ℤ (pos x)) (pos y))) (near_of y x d k h)

not_below : (s : Bool) (k n : ℕ) → (n ≡ 0 → k ≡ 0) → T (le_z (pos 0) (signed s n)) → T (le_z (pos 0) (signed s k))
not_below false k n z t = le→leb 0 k zero-le
not_below true k zero z t = subst (λ (j : ℕ). T (le_z (pos 0) (neg_ℤ (pos j)))) (sym (z refl)) tt
not_below true k (suc n) z t = absurd t

not_above : (s : Bool) (k n : ℕ) → (n ≡ 0 → k ≡ 0) → T (le_z (signed s n) (pos 0)) → T (le_z (signed s k) (pos 0))
not_above false k zero z t = subst (λ (j : ℕ). T (le_z (pos j) (pos 0))) (sym (z refl)) tt
not_above false k (suc n) z t = absurd (not-suc-le-zero (leb→le (suc n) 0 t))
not_above true zero n z t = tt
not_above true (suc k) n z t = tt

signed_zero : (s : Bool) (k : ℕ) → k ≡ 0 → signed s k ≡ pos 0
signed_zero false k e = ap pos e
signed_zero true k e = ap (λ (j : ℕ). neg_ℤ (pos j)) e

-- r is ±k and the fraction ±n / d
close_of : (s : Bool) (k n d : ℕ) (off : ℤ) → 64 * (k * d) < 64 * n + 65 * d → 64 * n < 64 * (k * d) + 65 * d → (n ≡ 0 → k ≡ 0) → (off ≡ pos 0 → n ≡ 0)
    → Close (signed s k) off (signed s n) d
close_of s k n d off over short none at_zero =
    record {
      near = subst (λ (z : ℤ). 64 * nat_abs (z -ℤ signed s n) < 65 * d) (sym (signed-times s k d)) (signed_near s (k * d) n d over short);
      not_below = not_below s k n none;
      not_above = not_above s k n none;
      zero_at_zero = λ e. signed_zero s k (none (at_zero e));
    }

-- ---- the exact fraction's numerator has off's sign

numerator_is : (a len : ℕ) (off : ℤ) → pos a *ℤ off *ℤ pos len ≡ signed (negative off) (a * nat_abs off * len)
numerator_is a len (pos o) = refl
numerator_is a len (negsuc o) = signed-times true (a * suc o) len

-- ---- the theorem

off_size : (target delay base : ℕ) → target ≤ 2 ^ 32 - 1 → nat_abs (off_of target (held_of delay) (held_of base)) ≤ 2 ^ 32 - 1
off_size target delay base h = apart_at_most target (held_of delay - held_of base) (2 ^ 32 - 1) h (omega arith)

module _ (s : Settings) (delay base len in_flight : ℕ) (a : Allowed s len in_flight) where
  abbrev off : ℤ
  off = off_for s delay base

  abbrev G : ℕ
  G = whole_gain_of s.gain

  in_use : InUse s.gain G s.increase s.target_delay off len in_flight
  in_use =
      let r = settings_facts s a.settings_in in
      record {
        gain_is = gain_whole s.gain a.gain_an_f64 r.gain_in;
        gain_from = whole_gain_from s.gain a.gain_an_f64 r.gain_in;
        gain_to = whole_gain_to s.gain a.gain_an_f64 r.gain_in;
        increase_in = r.increase_in;
        target_in = r.target_in;
        off_to = off_size s.target_delay delay base r.target_in.1;
        in_flight_in = a.in_flight_in;
        len_to = a.len_to;
      }

  some_in_flight : adjustment_for s delay base len in_flight ≡ to_signed 63 (product_of s.gain s.increase s.target_delay off len in_flight)
  unfolding adjustment_of
  some_in_flight =
      ap (λ (b : Bool). cond b (pos 0) (to_signed 63 (product_of s.gain s.increase s.target_delay off len in_flight)))
      (ne_eqb in_flight 0 (λ e. omega (arith, a.in_flight_in.0)))

  whole_part : Cut (product_of s.gain s.increase s.target_delay off len in_flight) (negative off) (G * s.increase * nat_abs off * len) (denominator_of s in_flight)
  whole_part =
      cut_near (product_of s.gain s.increase s.target_delay off len in_flight) (negative off)
      (G * s.increase * nat_abs off * len) (denominator_of s in_flight) (2 ^ 265) ((2 ^ 53 + 1) ^ 5) ((2 ^ 53 - 1) ^ 5)
      (product_near s.gain G s.increase s.target_delay off len in_flight in_use)
      (under_product s.gain G s.increase s.target_delay off len in_flight in_use) (lit< tt)
      (product_to s.gain G s.increase s.target_delay off len in_flight in_use) (lit≤ tt) (lit≤ tt) (lit≤ tt)

  nothing_off : off ≡ pos 0 → G * s.increase * nat_abs off * len ≡ 0
  nothing_off e = ap (λ (z : ℤ). G * s.increase * nat_abs z * len) e ∙ ap (λ (k : ℕ). k * len) (mul-zero (G * s.increase)) ∙ zero-mul len

  -- No. 7.
  pub adjustment_close : AdjustmentClose s delay base len in_flight
  adjustment_close =
      let c = whole_part in
      subst (λ (n : ℤ). Close (adjustment_for s delay base len in_flight) off n (denominator_of s in_flight)) (sym (numerator_is (G * s.increase) len off))
      (subst (λ (r : ℤ). Close r off (signed (negative off) (G * s.increase * nat_abs off * len)) (denominator_of s in_flight)) (sym (some_in_flight ∙ c.is))
      (close_of (negative off) c.k (G * s.increase * nat_abs off * len) (denominator_of s in_flight) off c.over c.short c.none nothing_off))
