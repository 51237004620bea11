-- The tracker in the state, the soundness test (docs/STATE.md), and what each public function answers. Definitions only.
use Rattle.std.specs.Prelude.{ℕ, Bool, ◌&&◌, cond, List, ◌++◌, leb, length, take, drop, replicate}
use Rattle.common.specs.Answer.{Answer, done, refused}
use Rattle.seq.specs.declared.SeqNum.{SeqNum}
use Rattle.packet.specs.declared.kind.PacketType.{PacketType}
use Rattle.congestion.specs.declared.settings.Settings.{Settings}
use Rattle.congestion.specs.Settings.{in_range_of}
use Rattle.congestion.specs.Numbers.{new_of}
use Rattle.controller.specs.Delays.{no_delays}
use Rattle.sent.specs.declared.state.SentPackets.{SentPackets}
use Rattle.outgoing.specs.Sound.{tracker_sound_of, timeout_of}
use Rattle.outgoing.specs.Tracker.{Tracker, places, offset_in, clocked_of, no_packet}
use Rattle.outgoing.specs.Transmit.{transmit_of}
use Rattle.outgoing.specs.Ack.{marked_of, released_of, ack_of}

-- ---- in the state

-- The kept packets stand at the front of the array.
abbrev pub tracker_of : SentPackets → Tracker
tracker_of s =
    record {
      initial = record { 0 = s.initial };
      sent = s.count;
      packets = take s.live s.packets;
      numbers = s.numbers;
      delays = s.delays;
    }

-- New ones are written over the front of the old array, and what stands past them is left as it was.
abbrev pub written_of : SentPackets → Tracker → SentPackets
written_of s t =
    record {
      initial = t.initial.0;
      count = t.sent;
      live = length t.packets;
      numbers = t.numbers;
      delays = t.delays;
      packets = t.packets ++ drop (length t.packets) s.packets;
    }

-- ---- the soundness test

unfoldable pub state_sound_of : SentPackets → Bool
state_sound_of s = leb s.live places && tracker_sound_of (tracker_of s)

-- ---- what the public functions answer: 19 for a state that is not sound, before everything

abbrev pub answered_of : SentPackets → Answer Tracker → Answer (Unit {0}) × SentPackets
answered_of s (done t) = (done tt, written_of s t)
answered_of s (refused n) = (refused n, s)

abbrev pub when_state_sound : {A : Type 0} → SentPackets → Answer A → Answer A
when_state_sound s a = cond (state_sound_of s) a (refused 19)

unfoldable pub transmit_answer : SentPackets → SeqNum → PacketType → ℕ → ℕ → ℕ → Answer (Unit {0}) × SentPackets
transmit_answer s number type tag len clock = answered_of s (when_state_sound s (transmit_of (tracker_of s) number type tag len clock))

-- An ack marks the packets where they stand, and what is then kept is written over the front of that.
unfoldable pub ack_state_of : SentPackets → ℕ → List ℕ → ℕ → ℕ → SentPackets
ack_state_of s o mask delay clock =
    written_of (written_of s (marked_of (tracker_of s) o mask delay clock)) (clocked_of (released_of (marked_of (tracker_of s) o mask delay clock)) clock)

abbrev pub answered_as : SentPackets → SentPackets → Answer Tracker → Answer (Unit {0}) × SentPackets
answered_as s next (done t) = (done tt, next)
answered_as s next (refused n) = (refused n, s)

unfoldable pub ack_answer : SentPackets → SeqNum → List ℕ → ℕ → ℕ → Answer (Unit {0}) × SentPackets
ack_answer s number mask delay clock =
    answered_as s (ack_state_of s (offset_in (tracker_of s) number) mask delay clock) (when_state_sound s (ack_of (tracker_of s) number mask delay clock))

unfoldable pub timeout_answer : SentPackets → Answer (Unit {0}) × SentPackets
timeout_answer s = answered_of s (when_state_sound s (done (timeout_of (tracker_of s))))

-- A fresh tracker: nothing sent, nothing kept. 10: a setting out of range, and what is then handed back is not sound.
abbrev pub fresh_of : SeqNum → Settings → SentPackets
fresh_of initial settings =
    record {
      initial = initial.0;
      count = 0;
      live = 0;
      numbers = new_of settings;
      delays = no_delays;
      packets = replicate places no_packet;
    }

abbrev pub new_answer : SeqNum → Settings → Answer (Unit {0}) × SentPackets
new_answer initial settings = (cond (in_range_of settings) (done tt) (refused 10), fresh_of initial settings)

abbrev pub read_of : {A : Type 0} → SentPackets → (Tracker → A) → Answer A
read_of s f = when_state_sound s (done (f (tracker_of s)))
