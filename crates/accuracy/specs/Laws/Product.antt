-- The product of the window rule has off's sign, and its size is that of the exact fraction within five roundings: two quotients and three products.
-- Everything else is exact: the gain is an f64, and the whole numbers have at most 53 digits.
use Rattle.std.specs.Prelude.{◌≡◌, refl, Bool, true, false, ℕ, ◌+◌, ◌-◌, ◌*◌, ◌^◌, ◌≤◌, ◌<◌, ℤ, pos, negsuc, nat_abs, Float}
use Rattle.std.proofs.Common.{sym, ap, subst, mul-one, mul-pos, mul-le-mul, arith, lit≤, lit<}
use Rattle.std.specs.Float.{binary64}
use Rattle.std.specs.Float.Ieee.{unlike, mul, div, of_int}
use Rattle.std.specs.Float.Ieee.Exact.{HasValue}
use Rattle.std.specs.Float.Ieee.Positive.{first_pos}
use Rattle.congestion.specs.Window.{product_of}
use Rattle.congestion.specs.Laws.Whole.{held_whole, quotient}
use Rattle.accuracy.specs.Laws.Approx.{Approx, exactly, rounded, times}

-- ---- whole numbers as floats

abbrev pub negative : ℤ → Bool
negative (pos n) = false
negative (negsuc n) = true

held : (z : ℤ) → nat_abs z ≤ 2 ^ 53 → HasValue (of_int binary64 z) (negative z) (nat_abs z) 1
unfolding of_int
held (pos n) h = held_whole false n h
held (negsuc n) h = held_whole true _ h

-- a quotient of two, rounded once
quotient_near : (z : ℤ) (d h l : ℕ) → 0 < d → nat_abs z ≤ 2 ^ 53 → d ≤ 2 ^ 53 → nat_abs z ≤ d * h → (0 < nat_abs z → d ≤ nat_abs z * l) → h ≤ 2 ^ 1000 → l ≤ 2 ^ 1000
    → Approx (div binary64 (of_int binary64 z) (of_int binary64 (pos d))) (negative z) (nat_abs z) d (2 ^ 53) (2 ^ 53 + 1) (2 ^ 53 - 1)
quotient_near z d h l D zb db hi lo hb lb =
    subst (λ (x : Float). Approx x (negative z) (nat_abs z) d (2 ^ 53) (2 ^ 53 + 1) (2 ^ 53 - 1))
    (sym (quotient (of_int binary64 z) (of_int binary64 (pos d)) (negative z) (nat_abs z) d (held z zb) (held (pos d) db) D))
    (rounded (negative z) (nat_abs z) d D h l hi lo hb lb)

-- ---- two ranges, multiplied

at_most : (a c h b d k : ℕ) → a ≤ c * h → b ≤ d * k → a * b ≤ c * d * (h * k)
at_most a c h b d k p q = omega (arith, mul-le-mul p q)

at_least : (a c h b d k : ℕ) → (0 < a → c ≤ a * h) → (0 < b → d ≤ b * k) → 0 < a * b → c * d ≤ a * b * (h * k)
at_least a c h b d k p q ab = at_most c a h d b k (p (first_pos a b ab)) (q (first_pos b a (omega arith)))

-- ---- the rule's own ranges

pub record InUse (gain : Float) (G increase target : ℕ) (off : ℤ) (len in_flight : ℕ) : Type 0 where
  pub gain_is : HasValue gain false G (2 ^ 62)
  pub gain_from : 2 ^ 62 ≤ G * 2 ^ 10
  pub gain_to : G ≤ 2 ^ 62 * 1
  pub increase_in : (1 ≤ increase) × (increase ≤ 2 ^ 20)
  pub target_in : (1000 ≤ target) × (target ≤ 2 ^ 32 - 1)
  pub off_to : nat_abs off ≤ 2 ^ 32 - 1
  pub in_flight_in : (1 ≤ in_flight) × (in_flight ≤ 2 ^ 32 - 1)
  pub len_to : len ≤ in_flight

module _ (gain : Float) (G increase target : ℕ) (off : ℤ) (len in_flight : ℕ) (u : InUse gain G increase target off len in_flight) where
  abbrev first : Float
  first = mul binary64 gain (of_int binary64 (pos increase))

  abbrev lag : Float
  lag = div binary64 (of_int binary64 off) (of_int binary64 (pos target))

  abbrev share : Float
  share = div binary64 (of_int binary64 (pos len)) (of_int binary64 (pos in_flight))

  off_hi : nat_abs off ≤ target * 2 ^ 23
  off_hi = omega (arith, u.off_to, u.target_in.0)

  off_lo : 0 < nat_abs off → target ≤ nat_abs off * 2 ^ 32
  off_lo h = omega (arith, u.target_in.1)

  len_lo : 0 < len → in_flight ≤ len * 2 ^ 32
  len_lo h = omega (arith, u.in_flight_in.1)

  lag_is : Approx lag (negative off) (nat_abs off) target (2 ^ 53) (2 ^ 53 + 1) (2 ^ 53 - 1)
  lag_is =
      quotient_near off target (2 ^ 23) (2 ^ 32) (omega (arith, u.target_in.0)) (omega (arith, u.off_to)) (omega (arith, u.target_in.1))
      off_hi off_lo (lit≤ tt) (lit≤ tt)

  share_is : Approx share false len in_flight (2 ^ 53) (2 ^ 53 + 1) (2 ^ 53 - 1)
  share_is =
      quotient_near (pos len) in_flight 1 (2 ^ 32) u.in_flight_in.0 (omega (arith, u.len_to, u.in_flight_in.1)) (omega (arith, u.in_flight_in.1))
      (omega (arith, u.len_to)) len_lo (lit≤ tt) (lit≤ tt)

  -- gain × increase
  first_hi : G * increase ≤ 2 ^ 62 * 1 * (1 * 2 ^ 20)
  first_hi = at_most G (2 ^ 62) 1 increase 1 (2 ^ 20) u.gain_to (omega (arith, u.increase_in.1))

  first_lo : 0 < G * increase → 2 ^ 62 * 1 ≤ G * increase * (2 ^ 10 * 1)
  first_lo = at_least G (2 ^ 62) (2 ^ 10) increase 1 1 (λ h. u.gain_from) (λ h. omega (arith, u.increase_in.0))

  first_is : Approx first false (G * increase) (2 ^ 62 * 1) (2 ^ 53) (2 ^ 53 + 1) (2 ^ 53 - 1)
  first_is =
      times gain (of_int binary64 (pos increase)) false false G (2 ^ 62) 1 1 1 increase 1 1 1 1 (2 ^ 20) (2 ^ 10)
      (exactly gain false G (2 ^ 62) u.gain_is)
      (exactly (of_int binary64 (pos increase)) false increase 1 (held (pos increase) (omega (arith, u.increase_in.1))))
      (lit< tt) (lit< tt) (lit< tt) (lit≤ tt) (lit≤ tt) first_hi first_lo (lit≤ tt) (lit≤ tt)

  -- × (off / target)
  second_hi : G * increase * nat_abs off ≤ 2 ^ 62 * 1 * target * 2 ^ 43
  second_hi = at_most (G * increase) (2 ^ 62 * 1) (2 ^ 20) (nat_abs off) target (2 ^ 23) first_hi off_hi

  second_lo : 0 < G * increase * nat_abs off → 2 ^ 62 * 1 * target ≤ G * increase * nat_abs off * 2 ^ 42
  second_lo = at_least (G * increase) (2 ^ 62 * 1) (2 ^ 10) (nat_abs off) target (2 ^ 32) first_lo off_lo

  under_second : 0 < 2 ^ 62 * 1 * target
  under_second = mul-pos (lit< tt) (omega (arith, u.target_in.0))

  second_is : Approx (mul binary64 first lag) (unlike false (negative off)) (G * increase * nat_abs off) (2 ^ 62 * 1 * target) (2 ^ 159) ((2 ^ 53 + 1) ^ 3) ((2 ^ 53 - 1) ^ 3)
  second_is =
      times first lag false (negative off)
      (G * increase) (2 ^ 62 * 1) (2 ^ 53) (2 ^ 53 + 1) (2 ^ 53 - 1) (nat_abs off) target (2 ^ 53) (2 ^ 53 + 1) (2 ^ 53 - 1) (2 ^ 43) (2 ^ 42) first_is lag_is
      under_second (lit< tt) (lit< tt) (lit≤ tt) (lit≤ tt) second_hi second_lo (lit≤ tt) (lit≤ tt)

  -- × (packet length / in flight)
  third_hi : G * increase * nat_abs off * len ≤ 2 ^ 62 * 1 * target * in_flight * 2 ^ 43
  third_hi = at_most (G * increase * nat_abs off) (2 ^ 62 * 1 * target) (2 ^ 43) len in_flight 1 second_hi (omega (arith, u.len_to))

  third_lo : 0 < G * increase * nat_abs off * len → 2 ^ 62 * 1 * target * in_flight ≤ G * increase * nat_abs off * len * 2 ^ 74
  third_lo = at_least (G * increase * nat_abs off) (2 ^ 62 * 1 * target) (2 ^ 42) len in_flight (2 ^ 32) second_lo len_lo

  third_is : Approx (product_of gain increase target off len in_flight) (unlike (unlike false (negative off)) false)
      (G * increase * nat_abs off * len) (2 ^ 62 * 1 * target * in_flight) (2 ^ 265) ((2 ^ 53 + 1) ^ 5) ((2 ^ 53 - 1) ^ 5)
  third_is =
      times (mul binary64 first lag) share (unlike false (negative off)) false
      (G * increase * nat_abs off) (2 ^ 62 * 1 * target) (2 ^ 159) ((2 ^ 53 + 1) ^ 3) ((2 ^ 53 - 1) ^ 3) len in_flight (2 ^ 53) (2 ^ 53 + 1) (2 ^ 53 - 1) (2 ^ 43) (2 ^ 74) second_is share_is
      (mul-pos under_second u.in_flight_in.0) (lit< tt) (lit< tt) (lit≤ tt) (lit≤ tt) third_hi third_lo (lit≤ tt) (lit≤ tt)

  -- ---- without the factor 1, and with off's sign

  one_gone : 2 ^ 62 * 1 * target * in_flight ≡ 2 ^ 62 * target * in_flight
  one_gone = ap (λ (d : ℕ). d * target * in_flight) (mul-one (2 ^ 62))

  sign_is : (b : Bool) → unlike (unlike false b) false ≡ b
  sign_is true = refl
  sign_is false = refl

  pub product_near : Approx (product_of gain increase target off len in_flight) (negative off)
      (G * increase * nat_abs off * len) (2 ^ 62 * target * in_flight) (2 ^ 265) ((2 ^ 53 + 1) ^ 5) ((2 ^ 53 - 1) ^ 5)
  product_near =
      subst (λ (b : Bool). Approx (product_of gain increase target off len in_flight) b (G * increase * nat_abs off * len) (2 ^ 62 * target * in_flight) (2 ^ 265) ((2 ^ 53 + 1) ^ 5) ((2 ^ 53 - 1) ^ 5)) (sign_is (negative off))
      (subst (λ (c : ℕ). Approx (product_of gain increase target off len in_flight) (unlike (unlike false (negative off)) false) (G * increase * nat_abs off * len) c (2 ^ 265) ((2 ^ 53 + 1) ^ 5) ((2 ^ 53 - 1) ^ 5)) one_gone third_is)

  -- 1,000 times the exact fraction is at most 2^52
  pub product_to : 1000 * (G * increase * nat_abs off * len) ≤ 2 ^ 52 * (2 ^ 62 * target * in_flight)
  product_to =
      let o : 1000 * nat_abs off ≤ target * 2 ^ 32 = omega (arith, u.off_to, u.target_in.0) in
      subst (λ (c : ℕ). 1000 * (G * increase * nat_abs off * len) ≤ 2 ^ 52 * c) one_gone
      (omega (
        arith,
        at_most (G * increase * (1000 * nat_abs off)) (2 ^ 62 * 1 * target) (2 ^ 52) len in_flight 1
            (at_most (G * increase) (2 ^ 62 * 1) (2 ^ 20) (1000 * nat_abs off) target (2 ^ 32) first_hi o) (omega (arith, u.len_to)),
      ))

  pub under_product : 0 < 2 ^ 62 * target * in_flight
  under_product = mul-pos (mul-pos {m = 2 ^ 62} (lit< tt) (omega (arith, u.target_in.0))) u.in_flight_in.0
