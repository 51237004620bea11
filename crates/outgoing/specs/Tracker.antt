-- The tracker as document 01 speaks of it ("Sent packets"): an initial number, n packets with offsets 1 to n, of which those from the first unacknowledged one to
-- the last sent are kept, the controller's numbers and the kept delay samples. Definitions only.
use Rattle.std.specs.Prelude.{ℕ, ◌-◌, Bool, ◌&&◌, cond, List, leb, ltb, length, get_or, set}
use Rattle.common.specs.Answer.{Answer, done, refused}
use Rattle.seq.specs.declared.SeqNum.{SeqNum}
use Rattle.seq.specs.Seq.{offset_of}
use Rattle.congestion.specs.declared.numbers.Numbers.{Numbers}
use Rattle.controller.specs.declared.delays.Delays.{Delays}
use Rattle.congestion.specs.Settings.{latest}
use Rattle.congestion.specs.Numbers.{accepted_of}
use Rattle.outgoing.specs.declared.kept.Packet.{Packet}

pub record Tracker : Type 0 where
  pub initial : SeqNum
  pub sent : ℕ
  pub packets : List Packet
  pub numbers : Numbers
  pub delays : Delays

-- The tracker's places: 512 packets may be kept.
abbrev pub places : ℕ
places = 512

-- n stays at most 60,000.
abbrev pub most_sent : ℕ
most_sent = 60000

-- Offset = number - initial, modulo 65,536.
abbrev pub offset_in : Tracker → SeqNum → ℕ
offset_in t number = (offset_of number t.initial).0

-- The acknowledged run at the front: the packets up to this offset are acknowledged and no longer kept.
abbrev pub gone_of : Tracker → ℕ
gone_of t = t.sent - length t.packets

-- Is the packet with this offset kept?
abbrev pub is_kept : Tracker → ℕ → Bool
is_kept t o = ltb (gone_of t) o && leb o t.sent

abbrev pub no_packet : Packet
no_packet = record { sent_at = 0; tag = 0; len = 0; kind = 0; acked = 0; lost = 0; resent = 0 }

-- The kept packet with this offset: the first kept one follows the run.
abbrev pub packet_at : Tracker → ℕ → Packet
packet_at t o = get_or t.packets (o - gone_of t - 1) no_packet

-- ---- trackers with some of it replaced

abbrev pub with_packet_at : Tracker → ℕ → Packet → Tracker
with_packet_at t o p =
    record {
      initial = t.initial;
      sent = t.sent;
      packets = set t.packets (o - gone_of t - 1) p;
      numbers = t.numbers;
      delays = t.delays;
    }

-- Every transmit or ack that is done sets the last accepted now, repeats included.
abbrev pub clocked_of : Tracker → ℕ → Tracker
clocked_of t clock =
    record {
      initial = t.initial;
      sent = t.sent;
      packets = t.packets;
      numbers = accepted_of t.numbers clock;
      delays = t.delays;
    }

-- ---- a check that transmit and ack share

-- 11: a time above 2^50, or now below the last accepted now.
abbrev pub clock_answer : ℕ → ℕ → Answer (Unit {0})
clock_answer last clock = cond (leb clock latest && leb last clock) (done tt) (refused 11)
