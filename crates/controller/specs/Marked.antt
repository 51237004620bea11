-- The marked cases W1 to W5 of document 01 ("A newly acknowledged packet"), worked out by the definitions.
use Rattle.std.specs.Prelude.{◌≡◌, refl, true, false, List, [], ◌∷◌, map, ℕ, ℤ, pos}
use Rattle.std.specs.Float.{fin}
use Rattle.std.specs.Float.Ieee.{le, mul, div, of_int, to_signed}
use Rattle.congestion.specs.declared.settings.Settings.{Settings}
use Rattle.controller.specs.declared.state.Controller.{Controller}
use Rattle.controller.specs.declared.state.Transmit.TheVariants.{Initial}
use Rattle.controller.specs.declared.state.Packet.{Packet}
use Rattle.congestion.specs.Trip.{moved_of, trip_of}
use Rattle.congestion.specs.Window.{adjustment_of, next_maximum_of, rise_of, fall_of}
use Rattle.congestion.specs.Numbers.{sound_of, adjusted_of, timed_of, credited_of}
use Rattle.controller.specs.Delays.{remaining_of, room_of, take_of, base_of, list_of, taken_of}
use Rattle.controller.specs.Controller.{controller_of, controller_sound_of, send_of, on_transmit_of, credit_of, on_ack_of}

-- ---- the session of W1 to W3

-- Largest packet 1,000, increase 3,000, gain 1, target 100,000; minimum timeout 1 for W4.
abbrev session : Settings
session =
    record {
      target_delay = 100000;
      first_timeout = 1000000;
      minimum_timeout = 1;
      largest_packet = 1000;
      increase = 3000;
      gain = fin false 1 (pos 0);
      delay_window = 120000000;
    }

-- two packets of 1,000 sent
abbrev two_sent : Controller
two_sent = (on_transmit_of (on_transmit_of (controller_of session).1 (Initial 1000) 0).1 (Initial 1000) 0).1

-- one of them acknowledged after 100,000, with this delay
abbrev packet : Packet
packet = record { length = 1000; once = true; at = 0 }

abbrev acked_with : Controller → ℕ → Controller
acked_with c delay = (on_ack_of c packet delay 100000).1

-- the adjustment that the acknowledgement makes
abbrev adjustment_by : Controller → ℕ → ℤ
adjustment_by c delay =
    let n = c.numbers in
    let base = base_of (list_of (taken_of c.delays delay 100000 n.delay_window)) in
    adjustment_of n.gain n.increase n.target delay base 1000 n.in_flight

-- ---- the rows

pub record Row : Type 0 where
  pub case : ℕ
  pub found : List ℕ
  pub written : List ℕ

-- W1: delay 100,000: adjustment up 1,500, maximum 3,500, in flight 1,000.
-- W2: then delay 250,000: down 1,500, maximum 2,000.
-- W3: instead 400,000: down 6,000, maximum 2,000 (the Rust gives 6,500).
-- W4: round trips of 100,000 twice from fresh, minimum timeout 1: timeouts 112,500 and 185,937.
-- W5: r 10, p 3: r stays 10.
abbrev pub rows : List Row
rows =
    record {
      case = 1;
      found =
          rise_of (adjustment_by two_sent 100000)
          ∷ (acked_with two_sent 100000).numbers.maximum
          ∷ (acked_with two_sent 100000).numbers.in_flight
          ∷ [];
      written = 1500 ∷ 3500 ∷ 1000 ∷ [];
    }
    ∷ record {
      case = 2;
      found = fall_of (adjustment_by (acked_with two_sent 100000) 250000) ∷ (acked_with (acked_with two_sent 100000) 250000).numbers.maximum ∷ [];
      written = 1500 ∷ 2000 ∷ [];
    }
    ∷ record {
      case = 3;
      found = fall_of (adjustment_by (acked_with two_sent 100000) 400000) ∷ (acked_with (acked_with two_sent 100000) 400000).numbers.maximum ∷ [];
      written = 6000 ∷ 2000 ∷ [];
    }
    ∷ record {
      case = 4;
      found = (acked_with two_sent 100000).numbers.timeout ∷ (acked_with (acked_with two_sent 100000) 100000).numbers.timeout ∷ [];
      written = 112500 ∷ 185937 ∷ [];
    }
    ∷ record { case = 5; found = trip_of 10 3 ∷ []; written = 10 ∷ [] }
    ∷ []

abbrev pub found_of : List (List ℕ)
found_of = map (λ (r : Row). r.found) rows

abbrev pub written_of : List (List ℕ)
written_of = map (λ (r : Row). r.written) rows

-- What the definitions give is what document 01 writes, in every row.
pub marked : found_of ≡ written_of
unfolding moved_of adjustment_of next_maximum_of sound_of adjusted_of timed_of credited_of remaining_of room_of take_of controller_sound_of send_of credit_of le mul div of_int to_signed
marked = refl
