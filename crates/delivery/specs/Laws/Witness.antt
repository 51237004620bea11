-- The run of Witness keeps every premise, and every byte arrives: the theorem is not empty. Each fact is computed by the definitions.
use Rattle.std.specs.Prelude.{true, false, List, [], ◌∷◌, ◌≡◌, refl, replicate}
use Rattle.std.proofs.Common.{arith}
use Rattle.std.specs.Float.Ieee.{le, mul, div, of_int, to_signed}
use Rattle.congestion.specs.Numbers.{sound_of, adjusted_of, timed_of, credited_of}
use Rattle.congestion.specs.Window.{adjustment_of, next_maximum_of}
use Rattle.congestion.specs.Trip.{moved_of}
use Rattle.controller.specs.Delays.{remaining_of, room_of, take_of}
use Rattle.outgoing.specs.Sound.{in_flight_of, packets_sound_of, tracker_sound_of}
use Rattle.outgoing.specs.Loss.{acked_count_of, loss_marked_of, loss_counted_of}
use Rattle.outgoing.specs.Transmit.{transmit_check, sent_of, transmit_of}
use Rattle.outgoing.specs.Ack.{ack_check, marked_of, ack_of, sacked_from, offsets_from, heard_of, newly_acked_of, all_acknowledged_of, from_unacked}
use Rattle.sent.specs.State.{tracker_of, state_sound_of, transmit_answer, ack_state_of, ack_answer, timeout_answer}
use Rattle.recv.specs.State.{sound_of as receiver_sound}
use Rattle.recv.specs.Table.{there_of, sack_of}
use Rattle.recv.specs.Receiver.{rule_of, stored_of, read_of}
use Rattle.recv.specs.Calls.{answer_of}
use Rattle.delivery.specs.Run.{Transmit, transmit, read, build, Event, sender_after, receiver_after, accepted, is_first, payloads, carried, Fresh, Premises, marks_of}
use Rattle.delivery.specs.Witness.{settings, seq, start, first, second, third, fourth, fifth, unknown, again, early, last, sender, receiver, sends, sent, arrived, heard, timed_out, mended, run}
use Rattle.delivery.specs.Laws.Kept.{happened_at, Keeps, keeps_none, premises_kept, keeps_first, keeps_again, keeps_hear, keeps_time_out, keeps_write, keeps_read, keeps_build, keeps_out}

fresh : Fresh start
unfolding sound_of le
fresh =
    record {
      initial = seq 65533;
      fits = omega arith;
      sender = record { settings = settings; made = refl };
      receiver = record { size = 10; made = refl };
    }

-- ---- a first transmit that is accepted, and its datagram

sends_kept : (before : List Event) → Keeps start before → (x : Transmit) → is_first (sender_after start before) x ≡ true → accepted (sender_after start before) x ≡ true → Keeps start (sends before x)
sends_kept before k x was_first is_accepted =
    keeps_out start (sender before (transmit x)) (keeps_first start before k x was_first) (carried x)
    (record {
      sender = sender_after start before;
      asked = x;
      happened = happened_at _ (sender before (transmit x)) 0 refl;
      is_accepted = is_accepted;
      carries = refl;
    })

sent_kept : Keeps start sent
unfolding sender_after acked_count_of loss_marked_of loss_counted_of transmit_check sent_of transmit_of transmit_answer ack_answer ack_state_of ack_check marked_of ack_of sacked_from offsets_from heard_of newly_acked_of all_acknowledged_of from_unacked state_sound_of tracker_sound_of packets_sound_of in_flight_of sound_of adjusted_of timed_of credited_of remaining_of room_of take_of adjustment_of next_maximum_of moved_of le mul div of_int to_signed timeout_answer
sent_kept =
    keeps_first start _
    (sends_kept _ (sends_kept _ (sends_kept _ (sends_kept _ (sends_kept [] (keeps_none start) first refl refl) second refl refl) third refl refl) fourth refl refl) fifth refl refl)
    unknown refl

-- ---- what arrives went out: its place among the events before, the newest at 0

arrived_kept : Keeps start arrived
arrived_kept =
    keeps_write start _
    (keeps_write start _
    (keeps_write start _
    (keeps_write start _
    (keeps_write start _ sent_kept (carried first) (happened_at _ sent 9 refl))
    (carried fourth) (happened_at _ _ 4 refl))
    (carried third) (happened_at _ _ 7 refl))
    (carried fourth) (happened_at _ _ 6 refl))
    (carried fifth) (happened_at _ _ 5 refl)

heard_kept : Keeps start heard
unfolding receiver_after receiver_sound there_of sack_of rule_of stored_of answer_of read_of
heard_kept =
    keeps_hear start _ (keeps_build start arrived arrived_kept (replicate 4 9)) early 100000 200000
    (record {
      receiver = (receiver_after start arrived).state;
      buffer = (receiver_after start arrived).bytes;
      room = replicate 4 9;
      happened = happened_at _ (receiver arrived (build (replicate 4 9))) 0 refl;
      answers = record { number_told = refl; size = 4; size_told = refl; bytes_told = refl };
    })

-- ---- the second packet was taken for lost, and goes out again

again_kept : Keeps start (sends timed_out again)
unfolding sender_after acked_count_of loss_marked_of loss_counted_of transmit_check sent_of transmit_of transmit_answer ack_answer ack_state_of ack_check marked_of ack_of sacked_from offsets_from heard_of newly_acked_of all_acknowledged_of from_unacked state_sound_of tracker_sound_of packets_sound_of in_flight_of sound_of adjusted_of timed_of credited_of remaining_of room_of take_of adjustment_of next_maximum_of moved_of le mul div of_int to_signed timeout_answer
again_kept =
    keeps_out start (sender timed_out (transmit again))
    (keeps_again start timed_out (keeps_time_out start _ (keeps_read start heard heard_kept (9 ∷ []))) again
    (record {
      sent = record {
        sender = sender_after start (sends [] first);
        asked = second;
        happened = happened_at _ timed_out 17 refl;
        is_accepted = refl;
        carries = refl;
      };
      was_first = refl;
    }))
    (carried again)
    (record {
      sender = sender_after start timed_out;
      asked = again;
      happened = happened_at _ (sender timed_out (transmit again)) 0 refl;
      is_accepted = refl;
      carries = refl;
    })

mended_kept : Keeps start mended
mended_kept = keeps_write start _ again_kept (carried again) (happened_at _ _ 0 refl)

run_kept : Keeps start run
unfolding receiver_after receiver_sound there_of sack_of rule_of stored_of answer_of read_of
run_kept =
    keeps_hear start _ (keeps_build start _ (keeps_read start _ (keeps_read start mended mended_kept (replicate 3 9)) (replicate 9 9)) []) last 100000 3100000
    (record {
      receiver = (receiver_after start (receiver (receiver mended (read (replicate 3 9))) (read (replicate 9 9)))).state;
      buffer = (receiver_after start (receiver (receiver mended (read (replicate 3 9))) (read (replicate 9 9)))).bytes;
      room = [];
      happened = happened_at _ _ 0 refl;
      answers = record { number_told = refl; size = 0; size_told = refl; bytes_told = refl };
    })

-- Every premise holds of the run.
pub kept : Premises start run
kept = premises_kept start run fresh run_kept

-- ---- what it comes to

-- The refused transmit sent nothing; five payloads were sent.
pub five_sent : payloads run ≡ (65 ∷ 66 ∷ []) ∷ (67 ∷ []) ∷ (68 ∷ 69 ∷ []) ∷ (70 ∷ []) ∷ (71 ∷ 72 ∷ []) ∷ []
unfolding payloads sender_after acked_count_of loss_marked_of loss_counted_of transmit_check sent_of transmit_of transmit_answer ack_answer ack_state_of ack_check marked_of ack_of sacked_from offsets_from heard_of newly_acked_of all_acknowledged_of from_unacked state_sound_of tracker_sound_of packets_sound_of in_flight_of sound_of adjusted_of timed_of credited_of remaining_of room_of take_of adjustment_of next_maximum_of moved_of le mul div of_int to_signed timeout_answer
five_sent = refl

-- With the early acknowledgement the second packet alone is not held as acknowledged; with the last, all are.
pub marks-early : marks_of (tracker_of (sender_after start heard)) ≡ true ∷ false ∷ true ∷ true ∷ true ∷ []
unfolding sender_after acked_count_of loss_marked_of loss_counted_of transmit_check sent_of transmit_of transmit_answer ack_answer ack_state_of ack_check marked_of ack_of sacked_from offsets_from heard_of newly_acked_of all_acknowledged_of from_unacked state_sound_of tracker_sound_of packets_sound_of in_flight_of sound_of adjusted_of timed_of credited_of remaining_of room_of take_of adjustment_of next_maximum_of moved_of le mul div of_int to_signed timeout_answer
marks-early = refl

pub marks-last : marks_of (tracker_of (sender_after start run)) ≡ true ∷ true ∷ true ∷ true ∷ true ∷ []
unfolding sender_after acked_count_of loss_marked_of loss_counted_of transmit_check sent_of transmit_of transmit_answer ack_answer ack_state_of ack_check marked_of ack_of sacked_from offsets_from heard_of newly_acked_of all_acknowledged_of from_unacked state_sound_of tracker_sound_of packets_sound_of in_flight_of sound_of adjusted_of timed_of credited_of remaining_of room_of take_of adjustment_of next_maximum_of moved_of le mul div of_int to_signed timeout_answer
marks-last = refl

-- Before the second packet came again one byte was read and one was ready; then every byte is read, in order.
pub read_early : (receiver_after start timed_out).read ≡ 65 ∷ []
unfolding receiver_after receiver_sound there_of sack_of rule_of stored_of answer_of read_of
read_early = refl

pub all_read : (receiver_after start run).read ≡ 65 ∷ 66 ∷ 67 ∷ 68 ∷ 69 ∷ 70 ∷ 71 ∷ 72 ∷ []
unfolding receiver_after receiver_sound there_of sack_of rule_of stored_of answer_of read_of
all_read = refl
