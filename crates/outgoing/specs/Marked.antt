-- The marked cases S1 to S3 of document 01, "Sent packets": the answer's number, and after an ack the numbers of the lost list.
use Rattle.std.specs.Prelude.{ℕ, ◌+◌, List, [], ◌∷◌, false, refl, pos}
use Rattle.std.specs.Float.{fin}
use Rattle.common.specs.Answer.{Answer, done, refused}
use Rattle.common.specs.Case.{Case}
use Rattle.seq.specs.declared.SeqNum.{SeqNum}
use Rattle.packet.specs.declared.kind.PacketType.TheVariants.{Data}
use Rattle.congestion.specs.declared.settings.Settings.{Settings}
use Rattle.congestion.specs.Numbers.{start_of}
use Rattle.controller.specs.Delays.{no_delays}
use Rattle.outgoing.specs.declared.answer.LostPacket.{LostPacket}
use Rattle.outgoing.specs.Tracker.{Tracker}
use Rattle.outgoing.specs.Loss.{acked_count_of, loss_marked_of, loss_counted_of}
use Rattle.outgoing.specs.Transmit.{transmit_check, sent_of, transmit_of}
use Rattle.outgoing.specs.Ack.{ack_check, marked_of, ack_of, sacked_from, offsets_from, heard_of, newly_acked_of, all_acknowledged_of, from_unacked}
use Rattle.outgoing.specs.Lost.{lost_from, insert_of, ascending_of, lost_list_of}
use Rattle.common.specs.Case.{AllHold}
use Rattle.congestion.specs.Numbers.{sound_of, adjusted_of, timed_of, credited_of}
use Rattle.controller.specs.Delays.{remaining_of, room_of, take_of}
use Rattle.congestion.specs.Window.{adjustment_of, next_maximum_of}
use Rattle.congestion.specs.Trip.{moved_of}

abbrev settings : Settings
settings =
    record {
      target_delay = 100000;
      first_timeout = 1000000;
      minimum_timeout = 500000;
      largest_packet = 1000;
      increase = 3000;
      gain = fin false 1 (pos 0);
      delay_window = 120000000;
    }

abbrev seq : ℕ → SeqNum
seq n = record { 0 = n }

-- Initial number 0, so that packet k has number k.
abbrev fresh : Tracker
fresh = record { initial = seq 0; sent = 0; packets = []; numbers = start_of settings; delays = no_delays }

-- a packet of 100 bytes with the next number
abbrev sent_next : Answer Tracker → Answer Tracker
sent_next (refused n) = refused n
sent_next (done t) = transmit_of t (seq (t.sent + 1)) Data t.sent 100 0

abbrev four : Answer Tracker
four = sent_next (sent_next (sent_next (sent_next (done fresh))))

abbrev five : Answer Tracker
five = sent_next four

abbrev heard : Answer Tracker → ℕ → List ℕ → Answer Tracker
heard (refused n) ack mask = refused n
heard (done t) ack mask = ack_of t (seq ack) mask 0 10

abbrev numbers_of : List LostPacket → List ℕ
numbers_of [] = []
numbers_of (p ∷ l) = p.seq_num.0 ∷ numbers_of l

-- 0 and the lost list, or the number of a refusal
abbrev shown : Answer Tracker → List ℕ
shown (refused n) = n ∷ []
shown (done t) = 0 ∷ numbers_of (lost_list_of t)

unfoldable pub cases : List Case
cases =
    record { mark = "S1"; found = shown (heard four 1 (3 ∷ 0 ∷ 0 ∷ 0 ∷ [])); written = 0 ∷ [] }
    ∷ record { mark = "S2"; found = shown (heard five 1 (7 ∷ 0 ∷ 0 ∷ 0 ∷ [])); written = 0 ∷ 2 ∷ [] }
    ∷ record { mark = "S3"; found = shown (heard four 0 []); written = 12 ∷ [] }
    ∷ []

-- They come out as the document writes them.
pub cases_hold : AllHold cases
unfolding cases acked_count_of loss_marked_of loss_counted_of transmit_check sent_of transmit_of ack_check marked_of ack_of sacked_from offsets_from heard_of newly_acked_of all_acknowledged_of from_unacked lost_from insert_of ascending_of lost_list_of sound_of adjusted_of timed_of credited_of remaining_of room_of take_of adjustment_of next_maximum_of moved_of
cases_hold = (refl, (refl, (refl, tt)))
