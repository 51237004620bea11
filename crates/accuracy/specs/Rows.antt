-- The rows of docs/FLOAT.md, worked out by the definitions.
use Rattle.std.specs.Prelude.{◌≡◌, refl, false, ℕ, ◌*◌, pos, negsuc, neg_ℤ, nat_abs, ◌-ℤ◌, ◌*ℤ◌, Float}
use Rattle.std.proofs.Common.{arith}
use Rattle.std.specs.Float.{fin}
use Rattle.std.specs.Float.Ieee.{fits, le, mul, div, of_int, to_signed}
use Rattle.congestion.specs.declared.settings.Settings.{Settings}
use Rattle.congestion.specs.Window.{adjustment_of}
use Rattle.accuracy.specs.Accuracy.{Allowed, adjustment_for, off_for, whole_gain_of, numerator_of, denominator_of}

abbrev settings : Float → ℕ → ℕ → Settings
settings gain increase target =
    record {
      target_delay = target;
      first_timeout = 1000000;
      minimum_timeout = 500000;
      largest_packet = 1400;
      increase = increase;
      gain = gain;
      delay_window = 120000000;
    }

-- ---- the worked row: gain 0.3, increase 3,000, target 100,000, delay 130,000 above its base, 1,400 bytes of 9,800

-- the f64 that is nearest to 0.3
abbrev three_tenths : Float
three_tenths = fin false 5404319552844595 (negsuc 53)

abbrev worked : Settings
worked = settings three_tenths 3000 100000

pub worked_allowed : Allowed worked 1400 9800
unfolding fits le
worked_allowed = record { settings_in = refl; gain_an_f64 = tt; in_flight_in = (omega arith, omega arith); len_to = omega arith }

pub worked_gain : whole_gain_of three_tenths ≡ 1383505805528216320
worked_gain = refl

pub worked_fraction : (numerator_of worked (off_for worked 130000 0) 1400 ≡ neg_ℤ (pos 174321731496555256320000000000)) × (denominator_of worked 9800 ≡ 4519452298058840145920000000)
worked_fraction = (refl, refl)

pub worked_adjustment : adjustment_for worked 130000 0 1400 9800 ≡ neg_ℤ (pos 38)
unfolding adjustment_of mul div of_int to_signed
worked_adjustment = refl

-- ---- a whole byte of difference: gain 1, increase 49, target 49,000, delay 48,000 above its base, 1,000 bytes of 1,000

abbrev byte : Settings
byte = settings (fin false 1 (pos 0)) 49 49000

pub byte_allowed : Allowed byte 1000 1000
unfolding fits le
byte_allowed = record { settings_in = refl; gain_an_f64 = tt; in_flight_in = (omega arith, omega arith); len_to = omega arith }

-- the exact fraction is 1, and the adjustment 0
pub byte_fraction : numerator_of byte (off_for byte 48000 0) 1000 ≡ pos (denominator_of byte 1000)
byte_fraction = refl

pub byte_adjustment : adjustment_for byte 48000 0 1000 1000 ≡ pos 0
unfolding adjustment_of mul div of_int to_signed
byte_adjustment = refl

-- so that 65 cannot be 64
pub byte_apart : 64 * nat_abs (adjustment_for byte 48000 0 1000 1000 *ℤ pos (denominator_of byte 1000) -ℤ numerator_of byte (off_for byte 48000 0) 1000) ≡ 64 * denominator_of byte 1000
unfolding adjustment_of mul div of_int to_signed
byte_apart = refl
