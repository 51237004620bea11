-- The controller's numbers (document 01, "Settings and time" and "A newly acknowledged packet"). Definitions only.
use Rattle.std.specs.Prelude.{ℕ, ◌+◌, ◌-◌, ◌*◌, ◌/◌, ◌^◌, min, max, Bool, false, cond, ◌&&◌, pos, nat_le}
use Rattle.std.specs.Float.{fin}
use Rattle.congestion.specs.declared.settings.Settings.{Settings}
use Rattle.congestion.specs.declared.numbers.Numbers.{Numbers}
use Rattle.congestion.specs.Settings.{between, latest, gain_in_range_of, in_range_of}
use Rattle.congestion.specs.Trip.{variance_of, trip_of, timeout_of}
use Rattle.congestion.specs.Window.{adjustment_of, next_maximum_of}

-- A doubled timeout is held at 2^53.
abbrev pub longest_timeout : ℕ
longest_timeout = 2 ^ 53

-- A window has its minimum at twice the largest packet.
abbrev pub minimum_of : Numbers → ℕ
minimum_of n = 2 * n.largest_packet

-- The free window is maximum less in flight, or 0.
abbrev pub free_of : Numbers → ℕ
free_of n = n.maximum - n.in_flight

-- ---- numbers with some of them replaced

-- What the events of a session move; the settings stay.
abbrev pub moved_of : Numbers → ℕ → ℕ → ℕ → ℕ → ℕ → ℕ → Numbers
moved_of n maximum in_flight trip variance timeout last =
    record {
      target = n.target;
      largest_packet = n.largest_packet;
      increase = n.increase;
      maximum = maximum;
      in_flight = in_flight;
      minimum_timeout = n.minimum_timeout;
      delay_window = n.delay_window;
      gain = n.gain;
      trip = trip;
      variance = variance;
      timeout = timeout;
      last = last;
    }

abbrev pub with_window : Numbers → ℕ → ℕ → Numbers
with_window n maximum in_flight = moved_of n maximum in_flight n.trip n.variance n.timeout n.last

abbrev pub with_trip : Numbers → ℕ → ℕ → ℕ → Numbers
with_trip n trip variance timeout = moved_of n n.maximum n.in_flight trip variance timeout n.last

-- The last accepted now.
abbrev pub accepted_of : Numbers → ℕ → Numbers
accepted_of n clock = moved_of n n.maximum n.in_flight n.trip n.variance n.timeout clock

-- ---- the start

-- A window begins at its minimum, in flight, round trip, variance and the last accepted now at 0, the timeout at the first timeout.
abbrev pub start_of : Settings → Numbers
start_of s =
    record {
      target = s.target_delay;
      largest_packet = s.largest_packet;
      increase = s.increase;
      maximum = 2 * s.largest_packet;
      in_flight = 0;
      minimum_timeout = s.minimum_timeout;
      delay_window = s.delay_window;
      gain = s.gain;
      trip = 0;
      variance = 0;
      timeout = s.first_timeout;
      last = 0;
    }

-- What stands where no session was started.
abbrev pub no_numbers : Numbers
no_numbers =
    record {
      target = 0;
      largest_packet = 0;
      increase = 0;
      maximum = 0;
      in_flight = 0;
      minimum_timeout = 0;
      delay_window = 0;
      gain = fin false 0 (pos 0);
      trip = 0;
      variance = 0;
      timeout = 0;
      last = 0;
    }

abbrev pub new_of : Settings → Numbers
new_of s = cond (in_range_of s) (start_of s) no_numbers

-- ---- the soundness test

-- The settings that are kept are in range,
abbrev pub rules_sound_of : Numbers → Bool
rules_sound_of n =
    nat_le 1000 n.target
    && between 1 latest n.minimum_timeout
    && between 1 latest n.delay_window
    && between 1 65535 n.largest_packet
    && between 1 (2 ^ 20) n.increase
    && gain_in_range_of n.gain

-- the maximum is not below the minimum, round trip, variance and last accepted now are at most 2^50, and the timeout is 1 to 2^53.
abbrev pub running_sound_of : Numbers → Bool
running_sound_of n =
    nat_le (minimum_of n) n.maximum
    && nat_le n.trip latest
    && nat_le n.variance latest
    && between 1 longest_timeout n.timeout
    && nat_le n.last latest

unfoldable pub sound_of : Numbers → Bool
sound_of n = rules_sound_of n && running_sound_of n

-- Numbers that are not sound are handed back as they came.
abbrev pub when_sound : Numbers → Numbers → Numbers
when_sound n next = cond (sound_of n) next n

-- ---- what moves them

-- A first transmit of len bytes, where the free window holds it: in flight grows by them.
abbrev pub sent_of : Numbers → ℕ → Numbers
sent_of n len = with_window n n.maximum (n.in_flight + len)

abbrev pub transmitted_of : Numbers → ℕ → Numbers
transmitted_of n len = cond (nat_le len (free_of n)) (sent_of n len) n

-- A newly acknowledged packet, 2 and 3: the maximum moves by the adjustment, with in flight still holding this packet.
unfoldable pub adjusted_of : Numbers → ℕ → ℕ → ℕ → Numbers
adjusted_of n base delay len =
    with_window n
    (next_maximum_of (minimum_of n) n.increase n.maximum (adjustment_of n.gain n.increase n.target delay base len n.in_flight))
    n.in_flight

-- 4: in flight falls by the packet's first length.
abbrev pub landed_of : Numbers → ℕ → Numbers
landed_of n len = with_window n n.maximum (n.in_flight - len)

-- 5: with r, v the old round trip and variance, v moves first, by the old r; then r; then the timeout is worked out of both.
unfoldable pub timed_of : Numbers → ℕ → Numbers
timed_of n p =
    let v = variance_of n.trip n.variance p in
    let r = trip_of n.trip p in
    with_trip n r v (timeout_of n.minimum_timeout r v)

-- 2 to 5 in order, 5 only if the packet was sent once.
unfoldable pub credited_of : Numbers → ℕ → ℕ → ℕ → Bool → ℕ → Numbers
credited_of n base delay len once p = cond once (timed_of (landed_of (adjusted_of n base delay len) len) p) (landed_of (adjusted_of n base delay len) len)

abbrev pub acked_of : Numbers → ℕ → ℕ → ℕ → Bool → ℕ → Numbers
acked_of n base delay len once p = when_sound n (cond (nat_le p latest) (credited_of n base delay len once p) n)

-- A new loss halves the maximum, rounding down, not below the minimum.
abbrev pub lost_of : Numbers → Numbers
lost_of n = with_window n (max (n.maximum / 2) (minimum_of n)) n.in_flight

-- A timeout event sets the maximum to the minimum and doubles the timeout, held at 2^53.
abbrev pub timed_out_of : Numbers → Numbers
timed_out_of n = with_trip (with_window n (minimum_of n) n.in_flight) n.trip n.variance (min (2 * n.timeout) longest_timeout)
