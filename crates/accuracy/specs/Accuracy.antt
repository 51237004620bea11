-- How far the adjustment of the window rule is from the exact fraction (document 02, No. 7). Definitions only.
-- Settings, the range of each, `adjustment_of`, `off_of` and `held_of` are congestion's, which its promises are stated with.
use Rattle.std.specs.Prelude.{ℕ, ◌*◌, ◌-◌, ◌/◌, ◌^◌, ◌≤◌, ◌<◌, ◌≡◌, true, T, ℤ, pos, nat_abs, ◌-ℤ◌, ◌*ℤ◌, Float}
use Rattle.std.specs.Int.Signed.{le_z}
use Rattle.std.specs.Float.{binary64}
use Rattle.std.specs.Float.Ieee.{fits}
use Rattle.std.specs.Float.Ieee.Positive.{num, den}
use Rattle.congestion.specs.declared.settings.Settings.{Settings}
use Rattle.congestion.specs.Settings.{in_range_of}
use Rattle.congestion.specs.Window.{held_of, off_of, adjustment_of}

-- ---- what document 01 allows

pub record Allowed (s : Settings) (len in_flight : ℕ) : Type 0 where
  -- every setting is in its range: target 1,000 to 2^32 - 1, increase 1 to 2^20, gain 2^-10 to 1
  pub settings_in : in_range_of s ≡ true
  -- the gain is a number that an f64 holds
  pub gain_an_f64 : T (fits binary64 s.gain)
  -- bytes in flight are above 0, and fit 32 bits
  pub in_flight_in : (1 ≤ in_flight) × (in_flight ≤ 2 ^ 32 - 1)
  -- the packet is one of those in flight, so that it is no longer than they are together; it may have 0 bytes
  pub len_to : len ≤ in_flight

-- ---- the adjustment, and off, as the window rule has them; delay and base are any numbers, each held at 2^32 - 1

abbrev pub adjustment_for : Settings → ℕ → ℕ → ℕ → ℕ → ℤ
adjustment_for s delay base len in_flight = adjustment_of s.gain s.increase s.target_delay delay base len in_flight

abbrev pub off_for : Settings → ℕ → ℕ → ℤ
off_for s delay base = off_of s.target_delay (held_of delay) (held_of base)

-- ---- the exact fraction, over whole numbers

-- The gain is G / 2^62 for this whole G: Laws/Gain, `gain_whole`.
abbrev pub whole_gain_of : Float → ℕ
whole_gain_of gain = num gain * 2 ^ 62 / den gain

-- The numerator is G × increase × off × packet length;
abbrev pub numerator_of : Settings → ℤ → ℕ → ℤ
numerator_of s off len = pos (whole_gain_of s.gain * s.increase) *ℤ off *ℤ pos len

-- the denominator 2^62 × target × in flight.
abbrev pub denominator_of : Settings → ℕ → ℕ
denominator_of s in_flight = 2 ^ 62 * s.target_delay * in_flight

-- ---- the statement

-- r is the adjustment, n / d the exact fraction.
pub record Close (r off n : ℤ) (d : ℕ) : Type 0 where
  -- "the adjustment differs from the exact fraction by less than 65/64 of a byte": |r - n / d| < 65 / 64, both sides times 64 × d
  pub near : 64 * nat_abs (r *ℤ pos d -ℤ n) < 65 * d
  -- "the adjustment never has the opposite sign": where the fraction is not below 0 neither is the adjustment,
  pub not_below : T (le_z (pos 0) n) → T (le_z (pos 0) r)
  -- and where the fraction is not above 0 neither is the adjustment
  pub not_above : T (le_z n (pos 0)) → T (le_z r (pos 0))
  -- "and is 0 when off is 0"
  pub zero_at_zero : off ≡ pos 0 → r ≡ pos 0

abbrev pub AdjustmentClose : Settings → ℕ → ℕ → ℕ → ℕ → Type 0
AdjustmentClose s delay base len in_flight =
    Close (adjustment_for s delay base len in_flight) (off_for s delay base) (numerator_of s (off_for s delay base) len) (denominator_of s in_flight)
