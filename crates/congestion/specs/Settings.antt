-- Settings (document 01, "Settings and time"). Definitions only.
use Rattle.std.specs.Prelude.{ℕ, ◌-◌, ◌^◌, Bool, false, ◌&&◌, pos, negsuc, nat_le, Float}
use Rattle.std.specs.Float.{fin}
use Rattle.std.specs.Float.Ieee.{le}
use Rattle.congestion.specs.declared.settings.Settings.{Settings}

-- from low to high, both among them
abbrev pub between : ℕ → ℕ → ℕ → Bool
between low high x = nat_le low x && nat_le x high

-- Times are whole microseconds, 0 to 2^50; a timeout or a window that is set is 1 to 2^50.
abbrev pub latest : ℕ
latest = 2 ^ 50

-- A gain is an f64 from 2^-10 to 1. No comparison with a NaN holds, so a NaN is refused.
abbrev pub gain_in_range_of : Float → Bool
gain_in_range_of gain = le (fin false 1 (negsuc 9)) gain && le gain (fin false 1 (pos 0))

-- Target delay 1,000 to 2^32 - 1; first timeout, minimum timeout and delay window 1 to 2^50; largest packet 1 to 65,535; window increase 1 to
-- 2^20; gain as above.
abbrev pub times_in_range_of : Settings → Bool
times_in_range_of s = between 1 latest s.first_timeout && between 1 latest s.minimum_timeout && between 1 latest s.delay_window

abbrev pub in_range_of : Settings → Bool
in_range_of s =
    between 1000 (2 ^ 32 - 1) s.target_delay
    && times_in_range_of s
    && between 1 65535 s.largest_packet
    && between 1 (2 ^ 20) s.increase
    && gain_in_range_of s.gain
