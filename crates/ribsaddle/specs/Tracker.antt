-- The tracker behind a pointer. Definitions only.
use Rattle.std.specs.Prelude.{ℕ, cond, List, ◌≡◌, length, replicate, Float}
use Rattle.common.specs.Answer.{Answer, done, refused}
use Rattle.packet.specs.Kind.{type_number, type_answer}
use Rattle.seq.specs.declared.SeqNum.{SeqNum}
use Rattle.seq.specs.declared.CircularRangeInclusive.{CircularRangeInclusive}
use Rattle.packet.specs.declared.kind.PacketType.{PacketType}
use Rattle.congestion.specs.declared.settings.Settings.{Settings}
use Rattle.sent.specs.declared.state.SentPackets.{SentPackets}
use Rattle.outgoing.specs.declared.answer.LostPacket.{LostPacket}
use Rattle.outgoing.specs.Lost.{lost_at_of}
use Rattle.sent.specs.State.{new_answer, timeout_answer, transmit_answer, ack_answer, when_state_sound, state_sound_of, tracker_of}
use Rattle.ribsaddle.specs.Answer.{number_of}
use Rattle.sent.specs.declared.head.Head.{Head}
use Rattle.sent.specs.Whole.{head_of}
use Rattle.sent_lent.specs.Lent.{Places, whole_in, columns_of, pairs_as}
use Rattle.ribsaddle.specs.declared.tracker.Tracker.{Tracker}

-- ---- the tracker in parts, head and arrays, and the state that they make up

abbrev pub whole_of : Tracker → SentPackets
whole_of t = whole_in t.head t.samples.pairs t.packets.times t.packets.sizes t.packets.marks

abbrev pub parts_of : SentPackets → Tracker
parts_of s =
    record {
      head = head_of s;
      samples = pairs_as s.delays.kept;
      packets = columns_of s.packets;
    }

-- The arrays have their lengths.
abbrev pub Sized : (samples times sizes marks : List ℕ) → Type 0
Sized samples times sizes marks = (length samples ≡ 2048) × (Places times sizes marks)

-- ---- the numbers of what is read

abbrev pub seq_of : SeqNum → ℕ
seq_of n = n.0

abbrev pub start_of : CircularRangeInclusive → ℕ
start_of r = r.start.0

abbrev pub end_of : CircularRangeInclusive → ℕ
end_of r = r.end.0

abbrev pub lost_number_of : LostPacket → ℕ
lost_number_of p = p.seq_num.0

abbrev pub lost_type_of : LostPacket → ℕ
lost_type_of p = type_number p.packet_type

abbrev pub lost_tag_of : LostPacket → ℕ
lost_tag_of p = p.tag

-- ---- what a call answers, and the state after it

pub record Tracking : Type 0 where
  pub answer : ℕ
  pub state : SentPackets

abbrev pub tracking_of : Answer (Unit {0}) × SentPackets → Tracking
tracking_of r = record { answer = number_of r.0; state = r.1 }

-- the answer, with the head of the state beside it
pub record Heading : Type 0 where
  pub answer : ℕ
  pub head : Head

abbrev pub heading_of : Tracking → Heading
heading_of r = record { answer = r.answer; head = head_of r.state }

abbrev pub heading_as : Answer (Unit {0}) × Head → Heading
heading_as r = record { answer = number_of r.0; head = r.1 }

-- What a new tracker is answered, and what then stands where it was asked for.
pub record Starting : Type 0 where
  pub answer : ℕ
  pub state : Tracker

-- A new tracker is stored where the settings are in range; else what stood there stays.
abbrev pub created_as : Tracker → Answer (Unit {0}) × SentPackets → Starting
created_as old (done u, state) = record { answer = 0; state = parts_of state }
created_as old (refused n, state) = record { answer = n; state = old }

abbrev pub settings_of : ℕ → ℕ → ℕ → ℕ → ℕ → ℕ → Float → Settings
settings_of target first minimum largest increase window gain =
    record {
      target_delay = target;
      first_timeout = first;
      minimum_timeout = minimum;
      largest_packet = largest;
      increase = increase;
      gain = gain;
      delay_window = window;
    }

unfoldable pub new_of : Tracker → ℕ → ℕ → ℕ → ℕ → ℕ → ℕ → ℕ → Float → Starting
new_of old initial target first minimum largest increase window gain =
    created_as old (new_answer (record { 0 = initial }) (settings_of target first minimum largest increase window gain))

-- A type above 4 is refused with 2, behind 19.
abbrev pub transmit_as : SentPackets → ℕ → Answer PacketType → ℕ → ℕ → ℕ → Answer (Unit {0}) × SentPackets
transmit_as s number (done type) tag len clock = transmit_answer s (record { 0 = number }) type tag len clock
transmit_as s number (refused n) tag len clock = (when_state_sound s (refused n), s)

unfoldable pub transmit_of : SentPackets → ℕ → ℕ → ℕ → ℕ → ℕ → Tracking
transmit_of s number kind tag len clock = tracking_of (transmit_as s number (type_answer kind) tag len clock)

unfoldable pub ack_of : SentPackets → ℕ → List ℕ → ℕ → ℕ → Tracking
ack_of s number sack delay clock = tracking_of (ack_answer s (record { 0 = number }) sack delay clock)

unfoldable pub timeout_of : SentPackets → Tracking
timeout_of s = tracking_of (timeout_answer s)

-- 0 for a state that is sound, else 19.
abbrev pub sound_number_of : SentPackets → ℕ
sound_number_of s = cond (state_sound_of s) 0 19

unfoldable pub lost_answer : SentPackets → ℕ → Answer LostPacket
lost_answer s position = when_state_sound s (lost_at_of (tracker_of s) position)

-- ---- a fresh tracker's arrays hold zeros

abbrev pub started_with : Head → Tracker
started_with head =
    record {
      head = head;
      samples = record { pairs = replicate 2048 0 };
      packets = record { times = replicate 512 0; sizes = replicate 1024 0; marks = replicate 2048 0 };
    }

abbrev pub started_as : Tracker → Answer (Unit {0}) × Head → Starting
started_as old (done u, head) = record { answer = 0; state = started_with head }
started_as old (refused n, head) = record { answer = n; state = old }
