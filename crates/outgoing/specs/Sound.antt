-- What is asked of the kept packets and of the tracker (docs/STATE.md), and a timeout event. Definitions only.
use Rattle.std.specs.Prelude.{ℕ, ◌+◌, Bool, true, ◌&&◌, cond, List, [], ◌∷◌, leb, eqb, length}
use Rattle.congestion.specs.Numbers.{sound_of, timed_out_of}
use Rattle.controller.specs.Delays.{delays_sound_of}
use Rattle.outgoing.specs.declared.kept.Packet.{Packet}
use Rattle.outgoing.specs.Loss.{is_unacked, acked_count_of, is_lost_of}
use Rattle.outgoing.specs.Tracker.{Tracker, most_sent}

-- In flight is the sum of the first lengths of the unacknowledged packets.
abbrev pub flying_of : Packet → ℕ
flying_of p = cond (is_unacked p) p.len 0

unfoldable pub in_flight_of : List Packet → ℕ
in_flight_of [] = 0
in_flight_of (p ∷ l) = in_flight_of l + flying_of p

-- A kept packet: a type up to 4, marks that are 0 or 1, sent no later than the last accepted now, and marked as lost exactly when it is.
abbrev pub packet_sound_of : ℕ → Packet → ℕ → Bool
packet_sound_of last p later =
    leb p.kind 4
    && leb p.acked 1
    && leb p.resent 1
    && leb p.sent_at last
    && eqb p.lost (cond (is_lost_of p later) 1 0)

unfoldable pub packets_sound_of : ℕ → List Packet → Bool
packets_sound_of last [] = true
packets_sound_of last (p ∷ l) = packets_sound_of last l && packet_sound_of last p (acked_count_of l)

-- Places run from the first unacknowledged packet.
abbrev pub starts_unacked : List Packet → Bool
starts_unacked [] = true
starts_unacked (p ∷ l) = is_unacked p

-- The counts are in range, numbers and samples sound, and the kept packets and what is in flight agree.
unfoldable pub tracker_sound_of : Tracker → Bool
tracker_sound_of t =
    leb (length t.packets) t.sent
    && leb t.sent most_sent
    && sound_of t.numbers
    && delays_sound_of t.numbers.last t.delays
    && starts_unacked t.packets
    && packets_sound_of t.numbers.last t.packets
    && eqb (in_flight_of t.packets) t.numbers.in_flight

-- A timeout event sets the maximum to the minimum and doubles the timeout. It does not set the last accepted now.
abbrev pub timeout_of : Tracker → Tracker
timeout_of t =
    record {
      initial = t.initial;
      sent = t.sent;
      packets = t.packets;
      numbers = timed_out_of t.numbers;
      delays = t.delays;
    }
