-- The controller's calls: which checks come in which order, and what a call that is done hands back (document 01, "Answer numbers", "Settings and
-- time", "A newly acknowledged packet"). Definitions only.
use Rattle.std.specs.Prelude.{ℕ, ◌-◌, Bool, ◌&&◌, cond, leb}
use Rattle.common.specs.Answer.{Answer, done, refused}
use Rattle.congestion.specs.declared.settings.Settings.{Settings}
use Rattle.congestion.specs.declared.numbers.Numbers.{Numbers}
use Rattle.controller.specs.declared.delays.Delays.{Delays}
use Rattle.controller.specs.declared.state.Controller.{Controller}
use Rattle.controller.specs.declared.state.Transmit.{Transmit}
use Rattle.controller.specs.declared.state.Transmit.TheVariants.{Initial, Retransmission}
use Rattle.controller.specs.declared.state.Packet.{Packet}
use Rattle.congestion.specs.Settings.{between, latest, in_range_of}
use Rattle.congestion.specs.Numbers.{sound_of, free_of, new_of, accepted_of, sent_of, credited_of, lost_of, timed_out_of}
use Rattle.controller.specs.Delays.{no_delays, list_of, taken_of, base_of, delays_sound_of}

-- ---- outcomes

-- A refusal returns its number, and the state stays as on entry.
abbrev pub refused_of : Controller → ℕ → Answer (Unit {0}) × Controller
refused_of c n = (refused n, c)

abbrev pub done_of : Numbers → Delays → Answer (Unit {0}) × Controller
done_of n d = (done tt, record { numbers = n; delays = d })

-- ---- the start

-- Refused with 10 where a setting is out of range; then no controller was made, and what comes back is not sound.
abbrev pub controller_of : Settings → Answer (Unit {0}) × Controller
controller_of s =
    cond (in_range_of s)
    (done_of (new_of s) no_delays)
    (refused_of (record { numbers = new_of s; delays = no_delays }) 10)

-- ---- the soundness test

unfoldable pub controller_sound_of : Controller → Bool
controller_sound_of c = sound_of c.numbers && delays_sound_of c.numbers.last c.delays

-- Where a call takes a state, 19 comes first.
abbrev pub if_sound : Controller → Answer (Unit {0}) × Controller → Answer (Unit {0}) × Controller
if_sound c next = cond (controller_sound_of c) next (refused_of c 19)

-- ---- time

-- now is neither below the last accepted now nor above 2^50
abbrev pub in_time_of : Controller → ℕ → Bool
in_time_of c clock = between c.numbers.last latest clock

-- ---- a transmit: 11, then 13 for a first one; done, it sets the last accepted now

unfoldable pub send_of : Controller → Transmit → ℕ → Answer (Unit {0}) × Controller
send_of c (Initial len) clock = cond (leb len (free_of c.numbers)) (done_of (accepted_of (sent_of c.numbers len) clock) c.delays) (refused_of c 13)
send_of c Retransmission clock = done_of (accepted_of c.numbers clock) c.delays

abbrev pub on_transmit_of : Controller → Transmit → ℕ → Answer (Unit {0}) × Controller
on_transmit_of c t clock = if_sound c (cond (in_time_of c clock) (send_of c t clock) (refused_of c 11))

-- ---- a newly acknowledged packet: 11, also for a delay above 2^50 and a packet sent after now; 12 where less than its length is in flight

-- 1: take the sample; base delay is the first. 2 to 5: window, in flight, round trip and timeout.
unfoldable pub credit_of : Controller → Packet → ℕ → ℕ → Answer (Unit {0}) × Controller
credit_of c p delay clock =
    let d = taken_of c.delays delay clock c.numbers.delay_window in
    done_of (accepted_of (credited_of c.numbers (base_of (list_of d)) delay p.length p.once (clock - p.at)) clock) d

abbrev pub on_ack_of : Controller → Packet → ℕ → ℕ → Answer (Unit {0}) × Controller
on_ack_of c p delay clock =
    if_sound c
    (cond (in_time_of c clock && leb delay latest && leb p.at clock)
    (cond (leb p.length c.numbers.in_flight) (credit_of c p delay clock) (refused_of c 12))
    (refused_of c 11))

-- ---- a new loss, and a timeout event: neither reads nor sets the clock

abbrev pub on_loss_of : Controller → Answer (Unit {0}) × Controller
on_loss_of c = if_sound c (done_of (lost_of c.numbers) c.delays)

abbrev pub on_timeout_of : Controller → Answer (Unit {0}) × Controller
on_timeout_of c = if_sound c (done_of (timed_out_of c.numbers) c.delays)
