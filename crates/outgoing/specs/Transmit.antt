-- Transmit (document 01, "Sent packets"). Definitions only.
use Rattle.std.specs.Prelude.{ℕ, ◌+◌, Bool, ◌&&◌, cond, [], ◌∷◌, ◌++◌, leb, ltb, length}
use Rattle.common.specs.Answer.{Answer, done, refused, ◌then◌}
use Rattle.seq.specs.declared.SeqNum.{SeqNum}
use Rattle.packet.specs.declared.kind.PacketType.{PacketType}
use Rattle.packet.specs.Kind.{type_number}
use Rattle.congestion.specs.declared.numbers.Numbers.{Numbers}
use Rattle.congestion.specs.Numbers.{free_of, transmitted_of}
use Rattle.outgoing.specs.declared.kept.Packet.{Packet}
use Rattle.outgoing.specs.Tracker.{Tracker, places, most_sent, offset_in, is_kept, packet_at, with_packet_at, clocked_of, clock_answer}

-- ---- the checks, in their order, with n packets sent of which `kept` are kept

-- Offset 0 or above n + 1 gives 12.
abbrev pub may_transmit : ℕ → ℕ → Bool
may_transmit n o = leb 1 o && leb o (n + 1)

-- 15: 60,000 packets already sent. 13: longer than the free window. 14: all 512 places held.
abbrev pub room_answer : Numbers → ℕ → ℕ → ℕ → Answer (Unit {0})
room_answer numbers n kept len =
    cond (leb most_sent n) (refused 15) (cond (ltb (free_of numbers) len) (refused 13) (cond (leb places kept) (refused 14) (done tt)))

-- 11; offset 0 or above n + 1 gives 12; up to n it is a retransmission, whatever its length; at n + 1 check 15, 13, 14.
unfoldable pub transmit_check : Numbers → ℕ → ℕ → ℕ → ℕ → ℕ → Answer (Unit {0})
transmit_check numbers n kept o len clock =
    clock_answer numbers.last clock then cond (may_transmit n o) (cond (leb o n) (done tt) (room_answer numbers n kept len)) (refused 12)

-- ---- a retransmission

abbrev pub with_resent : Packet → Packet
with_resent p =
    record {
      sent_at = p.sent_at;
      tag = p.tag;
      len = p.len;
      kind = p.kind;
      acked = p.acked;
      lost = p.lost;
      resent = 1;
    }

-- It was then not sent once only. Of a packet that was acknowledged and is no longer kept, nothing is noted.
abbrev pub resent_of : Tracker → ℕ → Tracker
resent_of t o = cond (is_kept t o) (with_packet_at t o (with_resent (packet_at t o))) t

-- ---- a first transmit

abbrev pub first_sent : PacketType → ℕ → ℕ → ℕ → Packet
first_sent type tag len clock =
    record {
      sent_at = clock;
      tag = tag;
      len = len;
      kind = type_number type;
      acked = 0;
      lost = 0;
      resent = 0;
    }

-- Record: it is the last sent, and in flight grows by its length.
abbrev pub recorded_of : Tracker → Packet → Tracker
recorded_of t p =
    record {
      initial = t.initial;
      sent = t.sent + 1;
      packets = t.packets ++ p ∷ [];
      numbers = transmitted_of t.numbers p.len;
      delays = t.delays;
    }

-- ---- all of it

-- Up to n a retransmission, at n + 1 a packet to record.
unfoldable pub sent_of : Tracker → ℕ → Packet → Tracker
sent_of t o p = cond (leb o t.sent) (resent_of t o) (recorded_of t p)

unfoldable pub transmit_of : Tracker → SeqNum → PacketType → ℕ → ℕ → ℕ → Answer Tracker
transmit_of t number type tag len clock =
    transmit_check t.numbers t.sent (length t.packets) (offset_in t number) len clock
    then done (clocked_of (sent_of t (offset_in t number) (first_sent type tag len clock)) clock)
