-- The window rule (document 01, "A newly acknowledged packet", 2 and 3). Definitions only.
use Rattle.std.specs.Prelude.{ℕ, suc, ◌+◌, ◌-◌, ◌^◌, min, max, cond, ℤ, pos, negsuc, ◌+ℤ◌, ◌==◌, Float}
use Rattle.std.proofs.Math.IntN.{sub_ℕ}
use Rattle.std.specs.Float.{binary64}
use Rattle.std.specs.Float.Ieee.{mul, div, of_int, to_signed}

-- The largest maximum, and where delays are held.
abbrev pub top : ℕ
top = 2 ^ 32 - 1

-- Delay and base are held at 2^32 - 1.
abbrev pub held_of : ℕ → ℕ
held_of delay = min delay top

-- off = target - (delay - base). The base is never above the delay.
abbrev pub off_of : ℕ → ℕ → ℕ → ℤ
off_of target delay base = sub_ℕ target (delay - base)

-- In f64, each step rounded once, left to right: gain × increase × (off / target) × (packet length / in flight).
abbrev pub product_of : Float → ℕ → ℕ → ℤ → ℕ → ℕ → Float
product_of gain increase target off len in_flight =
    mul binary64
    (mul binary64 (mul binary64 gain (of_int binary64 (pos increase))) (div binary64 (of_int binary64 off) (of_int binary64 (pos target))))
    (div binary64 (of_int binary64 (pos len)) (of_int binary64 (pos in_flight)))

-- Truncate toward zero. When in flight is 0 the adjustment is 0.
unfoldable pub adjustment_of : Float → ℕ → ℕ → ℕ → ℕ → ℕ → ℕ → ℤ
adjustment_of gain increase target delay base len in_flight =
    cond (in_flight == 0)
    (pos 0)
    (to_signed 63 (product_of gain increase target (off_of target (held_of delay) (held_of base)) len in_flight))

-- The larger of a number from 0 up and a signed one.
abbrev pub at_least : ℕ → ℤ → ℕ
at_least least (pos n) = max least n
at_least least (negsuc n) = least

-- New maximum = the smallest of: the larger of the minimum and old maximum + adjustment, worked out as a signed whole number; old maximum +
-- increase; 2^32 - 1.
unfoldable pub next_maximum_of : ℕ → ℕ → ℕ → ℤ → ℕ
next_maximum_of minimum increase maximum adjustment = min (min (at_least minimum (pos maximum +ℤ adjustment)) (maximum + increase)) top

-- How far a signed number lies above 0, and how far below.
abbrev pub rise_of : ℤ → ℕ
rise_of (pos n) = n
rise_of (negsuc n) = 0

abbrev pub fall_of : ℤ → ℕ
fall_of (pos n) = 0
fall_of (negsuc n) = suc n
