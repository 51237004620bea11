-- Every exported function, in the order of the source: nothing is asked of its caller, and no two different outcomes satisfy its promise. An outcome is the answer together with all memory lent to be written.
-- tools/exports.py wrote this file, from the clauses in src/.
use Rattle.outgoing.specs.Read.{ack_num_in, has_lost_in, has_unacked_in, in_flight_in, lost_count_in, maximum_in, next_seq_num_in, seq_num_range_in, timeout_in, window_in}
use Rattle.recv.specs.Calls.{acked_room_of, taken_out_of, taken_room_of, written_room_of}
use Rattle.recv.specs.State.{ack_of as receiver_ack_of, empty_of, table_of, told_of, written_before}
use Rattle.recv.specs.Table.{bytes_in, free_of, how_many}
use Rattle.recv.specs.declared.ReceiveBuffer.{ReceiveBuffer}
use Rattle.ribsaddle.specs.Answer.{bit_of, number_of, part_or, value_or}
use Rattle.ribsaddle.specs.Codec.{reading_of, writing_of, writing_room_of, writing_size_of}
use Rattle.ribsaddle.specs.Parts.{parts_of as receiver_parts_of, whole_of as receiver_whole_of}
use Rattle.ribsaddle.specs.Receiver.{new_of as receiver_new_of, read_of as receiver_read_of, sack_answer, taken_count_of, told_answer, write_of}
use Rattle.ribsaddle.specs.Tracker.{ack_of as tracker_ack_of, end_of, lost_answer, lost_number_of, lost_tag_of, lost_type_of, new_of as tracker_new_of, parts_of as tracker_parts_of, seq_of, sound_number_of, start_of, timeout_of, transmit_of, whole_of as tracker_whole_of}
use Rattle.ribsaddle.specs.declared.codec.PacketFields.{PacketFields}
use Rattle.ribsaddle.specs.declared.receiver.Receiver.{Receiver}
use Rattle.ribsaddle.specs.declared.tracker.Tracker.{Tracker}
use Rattle.sent.specs.State.{read_of as tracker_read_of}
use Rattle.std.specs.Prelude.{List, refl, ℕ, ◌≡◌}
use Rattle.common.specs.Promise.{Promise, by_value}
use Rattle.ribsaddle.proofs.Exported.{Exported}
use Rattle.ribsaddle.specs.contracts.codec.ribsaddle_decode as decode
use Rattle.ribsaddle.specs.contracts.codec.ribsaddle_encode as encode
use Rattle.ribsaddle.specs.contracts.tracker.ribsaddle_sent_new as sent_new
use Rattle.ribsaddle.specs.contracts.tracker.ribsaddle_sent_transmit as sent_transmit
use Rattle.ribsaddle.specs.contracts.tracker.ribsaddle_sent_ack as sent_ack
use Rattle.ribsaddle.specs.contracts.tracker.ribsaddle_sent_on_timeout as sent_on_timeout
use Rattle.ribsaddle.specs.contracts.tracker.ribsaddle_sent_sound as sent_sound
use Rattle.ribsaddle.specs.contracts.tracker.ribsaddle_sent_timeout as sent_timeout
use Rattle.ribsaddle.specs.contracts.tracker.ribsaddle_sent_window as sent_window
use Rattle.ribsaddle.specs.contracts.tracker.ribsaddle_sent_in_flight as sent_in_flight
use Rattle.ribsaddle.specs.contracts.tracker.ribsaddle_sent_maximum as sent_maximum
use Rattle.ribsaddle.specs.contracts.tracker.ribsaddle_sent_lost_count as sent_lost_count
use Rattle.ribsaddle.specs.contracts.tracker.ribsaddle_sent_ack_num as sent_ack_num
use Rattle.ribsaddle.specs.contracts.tracker.ribsaddle_sent_next_seq_num as sent_next_seq_num
use Rattle.ribsaddle.specs.contracts.tracker.ribsaddle_sent_has_unacked as sent_has_unacked
use Rattle.ribsaddle.specs.contracts.tracker.ribsaddle_sent_has_lost as sent_has_lost
use Rattle.ribsaddle.specs.contracts.tracker.ribsaddle_sent_range as sent_range
use Rattle.ribsaddle.specs.contracts.tracker.ribsaddle_sent_lost_at as sent_lost_at
use Rattle.ribsaddle.specs.contracts.receiver.ribsaddle_recv_new as recv_new
use Rattle.ribsaddle.specs.contracts.receiver.ribsaddle_recv_write as recv_write
use Rattle.ribsaddle.specs.contracts.receiver.ribsaddle_recv_read as recv_read
use Rattle.ribsaddle.specs.contracts.receiver.ribsaddle_recv_selective_ack as recv_selective_ack
use Rattle.ribsaddle.specs.contracts.receiver.ribsaddle_recv_available as recv_available
use Rattle.ribsaddle.specs.contracts.receiver.ribsaddle_recv_is_empty as recv_is_empty
use Rattle.ribsaddle.specs.contracts.receiver.ribsaddle_recv_init_seq_num as recv_init_seq_num
use Rattle.ribsaddle.specs.contracts.receiver.ribsaddle_recv_ack_num as recv_ack_num
use Rattle.ribsaddle.specs.contracts.receiver.ribsaddle_recv_count as recv_count
use Rattle.ribsaddle.specs.contracts.receiver.ribsaddle_recv_ready as recv_ready
use Rattle.ribsaddle.specs.contracts.receiver.ribsaddle_recv_waiting as recv_waiting
use Rattle.ribsaddle.specs.contracts.receiver.ribsaddle_recv_waiting_bytes as recv_waiting_bytes
use Rattle.ribsaddle.specs.contracts.receiver.ribsaddle_recv_was_written as recv_was_written
use Rattle.ribsaddle.proofs.codec.HeaderFieldsFromHeader.from.Reads as HeaderFieldsFromHeader
use Rattle.ribsaddle.proofs.codec.PacketFieldsFromPacket.from.Reads as PacketFieldsFromPacket

decode_promise : Exported decode.ended (λ M 𝓤 𝓛. decode.clauses 𝓛) {W = ℕ × PacketFields} (λ κs r e. (r, e.0.now))
decode_promise =
    record {
      post = λ κs a r e. (r ≡ (reading_of a.0.now a.1.0.now).answer) × (e.0.now ≡ (reading_of a.0.now a.1.0.now).packet);
      asks_nothing = λ M 𝓤 𝓛 mem run κs a g. refl;
      says = λ M 𝓤 𝓛 mem run κs a g r e. refl;
      promise = by_value _ (λ κs a. tt) (λ κs a r e p. λ i. (p.0 i, p.1 i));
    }

encode_promise : Exported encode.ended (λ M 𝓤 𝓛. encode.clauses 𝓛) {W = ℕ × (List ℕ) × ℕ} (λ κs r e. (r, e.1.1.1.0.now, e.1.1.1.1.0.now))
encode_promise =
    record {
      post = λ κs a r e. (r ≡ number_of (writing_of a.0.now a.1.0.now a.1.1.0.now a.1.1.1.0.now)) × (e.1.1.1.0.now ≡ writing_room_of a.0.now a.1.0.now a.1.1.0.now a.1.1.1.0.now) × (e.1.1.1.1.0.now ≡ writing_size_of a.0.now a.1.0.now a.1.1.0.now a.1.1.1.0.now a.1.1.1.1.0.now);
      asks_nothing = λ M 𝓤 𝓛 mem run κs a g. refl;
      says = λ M 𝓤 𝓛 mem run κs a g r e. refl;
      promise = by_value _ (λ κs a. tt) (λ κs a r e p. λ i. (p.0 i, p.1 i, p.2 i));
    }

sent_new_promise : Exported sent_new.ended (λ M 𝓤 𝓛. sent_new.clauses 𝓛) {W = ℕ × Tracker} (λ κs r e. (r, e.0.now))
sent_new_promise =
    record {
      post = λ κs a r e. (r ≡ (tracker_new_of a.0.now a.1.0 a.1.1.0 a.1.1.1.0 a.1.1.1.1.0 a.1.1.1.1.1.0 a.1.1.1.1.1.1.0 a.1.1.1.1.1.1.1.0 a.1.1.1.1.1.1.1.1.0).answer) × (e.0.now ≡ (tracker_new_of a.0.now a.1.0 a.1.1.0 a.1.1.1.0 a.1.1.1.1.0 a.1.1.1.1.1.0 a.1.1.1.1.1.1.0 a.1.1.1.1.1.1.1.0 a.1.1.1.1.1.1.1.1.0).state);
      asks_nothing = λ M 𝓤 𝓛 mem run κs a g. refl;
      says = λ M 𝓤 𝓛 mem run κs a g r e. refl;
      promise = by_value _ (λ κs a. tt) (λ κs a r e p. λ i. (p.0 i, p.1 i));
    }

sent_transmit_promise : Exported sent_transmit.ended (λ M 𝓤 𝓛. sent_transmit.clauses 𝓛) {W = ℕ × Tracker} (λ κs r e. (r, e.0.now))
sent_transmit_promise =
    record {
      post = λ κs a r e. let s = tracker_whole_of a.0.now in let next = transmit_of s a.1.0 a.1.1.0 a.1.1.1.0 a.1.1.1.1.0 a.1.1.1.1.1.0 in (r ≡ next.answer) × (e.0.now ≡ tracker_parts_of next.state);
      asks_nothing = λ M 𝓤 𝓛 mem run κs a g. refl;
      says = λ M 𝓤 𝓛 mem run κs a g r e. refl;
      promise = by_value _ (λ κs a. tt) (λ κs a r e p. λ i. (p.0 i, p.1 i));
    }

sent_ack_promise : Exported sent_ack.ended (λ M 𝓤 𝓛. sent_ack.clauses 𝓛) {W = ℕ × Tracker} (λ κs r e. (r, e.0.now))
sent_ack_promise =
    record {
      post = λ κs a r e. let s = tracker_whole_of a.0.now in let next = tracker_ack_of s a.1.0 a.1.1.0.now a.1.1.1.0 a.1.1.1.1.0 in (r ≡ next.answer) × (e.0.now ≡ tracker_parts_of next.state);
      asks_nothing = λ M 𝓤 𝓛 mem run κs a g. refl;
      says = λ M 𝓤 𝓛 mem run κs a g r e. refl;
      promise = by_value _ (λ κs a. tt) (λ κs a r e p. λ i. (p.0 i, p.1 i));
    }

sent_on_timeout_promise : Exported sent_on_timeout.ended (λ M 𝓤 𝓛. sent_on_timeout.clauses 𝓛) {W = ℕ × Tracker} (λ κs r e. (r, e.0.now))
sent_on_timeout_promise =
    record {
      post = λ κs a r e. (r ≡ (timeout_of (tracker_whole_of a.0.now)).answer) × (e.0.now ≡ tracker_parts_of (timeout_of (tracker_whole_of a.0.now)).state);
      asks_nothing = λ M 𝓤 𝓛 mem run κs a g. refl;
      says = λ M 𝓤 𝓛 mem run κs a g r e. refl;
      promise = by_value _ (λ κs a. tt) (λ κs a r e p. λ i. (p.0 i, p.1 i));
    }

sent_sound_promise : Exported sent_sound.ended (λ M 𝓤 𝓛. sent_sound.clauses 𝓛) {W = ℕ} (λ κs r e. r)
sent_sound_promise =
    record {
      post = λ κs a r e. r ≡ sound_number_of (tracker_whole_of a.0.now);
      asks_nothing = λ M 𝓤 𝓛 mem run κs a g. refl;
      says = λ M 𝓤 𝓛 mem run κs a g r e. refl;
      promise = by_value _ (λ κs a. tt) (λ κs a r e p. p);
    }

sent_timeout_promise : Exported sent_timeout.ended (λ M 𝓤 𝓛. sent_timeout.clauses 𝓛) {W = ℕ × ℕ} (λ κs r e. (r, e.1.0.now))
sent_timeout_promise =
    record {
      post = λ κs a r e. let s = tracker_whole_of a.0.now in let told = tracker_read_of s timeout_in in (r ≡ number_of told) × (e.1.0.now ≡ value_or a.1.0.now told);
      asks_nothing = λ M 𝓤 𝓛 mem run κs a g. refl;
      says = λ M 𝓤 𝓛 mem run κs a g r e. refl;
      promise = by_value _ (λ κs a. tt) (λ κs a r e p. λ i. (p.0 i, p.1 i));
    }

sent_window_promise : Exported sent_window.ended (λ M 𝓤 𝓛. sent_window.clauses 𝓛) {W = ℕ × ℕ} (λ κs r e. (r, e.1.0.now))
sent_window_promise =
    record {
      post = λ κs a r e. let s = tracker_whole_of a.0.now in let told = tracker_read_of s window_in in (r ≡ number_of told) × (e.1.0.now ≡ value_or a.1.0.now told);
      asks_nothing = λ M 𝓤 𝓛 mem run κs a g. refl;
      says = λ M 𝓤 𝓛 mem run κs a g r e. refl;
      promise = by_value _ (λ κs a. tt) (λ κs a r e p. λ i. (p.0 i, p.1 i));
    }

sent_in_flight_promise : Exported sent_in_flight.ended (λ M 𝓤 𝓛. sent_in_flight.clauses 𝓛) {W = ℕ × ℕ} (λ κs r e. (r, e.1.0.now))
sent_in_flight_promise =
    record {
      post = λ κs a r e. let s = tracker_whole_of a.0.now in let told = tracker_read_of s in_flight_in in (r ≡ number_of told) × (e.1.0.now ≡ value_or a.1.0.now told);
      asks_nothing = λ M 𝓤 𝓛 mem run κs a g. refl;
      says = λ M 𝓤 𝓛 mem run κs a g r e. refl;
      promise = by_value _ (λ κs a. tt) (λ κs a r e p. λ i. (p.0 i, p.1 i));
    }

sent_maximum_promise : Exported sent_maximum.ended (λ M 𝓤 𝓛. sent_maximum.clauses 𝓛) {W = ℕ × ℕ} (λ κs r e. (r, e.1.0.now))
sent_maximum_promise =
    record {
      post = λ κs a r e. let s = tracker_whole_of a.0.now in let told = tracker_read_of s maximum_in in (r ≡ number_of told) × (e.1.0.now ≡ value_or a.1.0.now told);
      asks_nothing = λ M 𝓤 𝓛 mem run κs a g. refl;
      says = λ M 𝓤 𝓛 mem run κs a g r e. refl;
      promise = by_value _ (λ κs a. tt) (λ κs a r e p. λ i. (p.0 i, p.1 i));
    }

sent_lost_count_promise : Exported sent_lost_count.ended (λ M 𝓤 𝓛. sent_lost_count.clauses 𝓛) {W = ℕ × ℕ} (λ κs r e. (r, e.1.0.now))
sent_lost_count_promise =
    record {
      post = λ κs a r e. let s = tracker_whole_of a.0.now in let told = tracker_read_of s lost_count_in in (r ≡ number_of told) × (e.1.0.now ≡ value_or a.1.0.now told);
      asks_nothing = λ M 𝓤 𝓛 mem run κs a g. refl;
      says = λ M 𝓤 𝓛 mem run κs a g r e. refl;
      promise = by_value _ (λ κs a. tt) (λ κs a r e p. λ i. (p.0 i, p.1 i));
    }

sent_ack_num_promise : Exported sent_ack_num.ended (λ M 𝓤 𝓛. sent_ack_num.clauses 𝓛) {W = ℕ × ℕ} (λ κs r e. (r, e.1.0.now))
sent_ack_num_promise =
    record {
      post = λ κs a r e. let s = tracker_whole_of a.0.now in let told = tracker_read_of s ack_num_in in (r ≡ number_of told) × (e.1.0.now ≡ part_or seq_of a.1.0.now told);
      asks_nothing = λ M 𝓤 𝓛 mem run κs a g. refl;
      says = λ M 𝓤 𝓛 mem run κs a g r e. refl;
      promise = by_value _ (λ κs a. tt) (λ κs a r e p. λ i. (p.0 i, p.1 i));
    }

sent_next_seq_num_promise : Exported sent_next_seq_num.ended (λ M 𝓤 𝓛. sent_next_seq_num.clauses 𝓛) {W = ℕ × ℕ} (λ κs r e. (r, e.1.0.now))
sent_next_seq_num_promise =
    record {
      post = λ κs a r e. let s = tracker_whole_of a.0.now in let told = tracker_read_of s next_seq_num_in in (r ≡ number_of told) × (e.1.0.now ≡ part_or seq_of a.1.0.now told);
      asks_nothing = λ M 𝓤 𝓛 mem run κs a g. refl;
      says = λ M 𝓤 𝓛 mem run κs a g r e. refl;
      promise = by_value _ (λ κs a. tt) (λ κs a r e p. λ i. (p.0 i, p.1 i));
    }

sent_has_unacked_promise : Exported sent_has_unacked.ended (λ M 𝓤 𝓛. sent_has_unacked.clauses 𝓛) {W = ℕ × ℕ} (λ κs r e. (r, e.1.0.now))
sent_has_unacked_promise =
    record {
      post = λ κs a r e. let s = tracker_whole_of a.0.now in let told = tracker_read_of s has_unacked_in in (r ≡ number_of told) × (e.1.0.now ≡ part_or bit_of a.1.0.now told);
      asks_nothing = λ M 𝓤 𝓛 mem run κs a g. refl;
      says = λ M 𝓤 𝓛 mem run κs a g r e. refl;
      promise = by_value _ (λ κs a. tt) (λ κs a r e p. λ i. (p.0 i, p.1 i));
    }

sent_has_lost_promise : Exported sent_has_lost.ended (λ M 𝓤 𝓛. sent_has_lost.clauses 𝓛) {W = ℕ × ℕ} (λ κs r e. (r, e.1.0.now))
sent_has_lost_promise =
    record {
      post = λ κs a r e. let s = tracker_whole_of a.0.now in let told = tracker_read_of s has_lost_in in (r ≡ number_of told) × (e.1.0.now ≡ part_or bit_of a.1.0.now told);
      asks_nothing = λ M 𝓤 𝓛 mem run κs a g. refl;
      says = λ M 𝓤 𝓛 mem run κs a g r e. refl;
      promise = by_value _ (λ κs a. tt) (λ κs a r e p. λ i. (p.0 i, p.1 i));
    }

sent_range_promise : Exported sent_range.ended (λ M 𝓤 𝓛. sent_range.clauses 𝓛) {W = ℕ × ℕ × ℕ} (λ κs r e. (r, e.1.0.now, e.1.1.0.now))
sent_range_promise =
    record {
      post = λ κs a r e. let s = tracker_whole_of a.0.now in let told = tracker_read_of s seq_num_range_in in (r ≡ number_of told) × (e.1.0.now ≡ part_or start_of a.1.0.now told) × (e.1.1.0.now ≡ part_or end_of a.1.1.0.now told);
      asks_nothing = λ M 𝓤 𝓛 mem run κs a g. refl;
      says = λ M 𝓤 𝓛 mem run κs a g r e. refl;
      promise = by_value _ (λ κs a. tt) (λ κs a r e p. λ i. (p.0 i, p.1 i, p.2 i));
    }

sent_lost_at_promise : Exported sent_lost_at.ended (λ M 𝓤 𝓛. sent_lost_at.clauses 𝓛) {W = ℕ × ℕ × ℕ × ℕ} (λ κs r e. (r, e.1.1.0.now, e.1.1.1.0.now, e.1.1.1.1.0.now))
sent_lost_at_promise =
    record {
      post = λ κs a r e. let s = tracker_whole_of a.0.now in let told = lost_answer s a.1.0 in (r ≡ number_of told) × (e.1.1.0.now ≡ part_or lost_number_of a.1.1.0.now told) × (e.1.1.1.0.now ≡ part_or lost_type_of a.1.1.1.0.now told) × (e.1.1.1.1.0.now ≡ part_or lost_tag_of a.1.1.1.1.0.now told);
      asks_nothing = λ M 𝓤 𝓛 mem run κs a g. refl;
      says = λ M 𝓤 𝓛 mem run κs a g r e. refl;
      promise = by_value _ (λ κs a. tt) (λ κs a r e p. λ i. (p.0 i, p.1 i, p.2 i, p.3 i));
    }

recv_new_promise : Exported recv_new.ended (λ M 𝓤 𝓛. recv_new.clauses 𝓛) {W = ℕ × ReceiveBuffer} (λ κs r e. (r, e.0.now))
recv_new_promise =
    record {
      post = λ κs a r e. (r ≡ (receiver_new_of a.0.now a.1.0 a.1.1.0).answer) × (e.0.now ≡ (receiver_new_of a.0.now a.1.0 a.1.1.0).state);
      asks_nothing = λ M 𝓤 𝓛 mem run κs a g. refl;
      says = λ M 𝓤 𝓛 mem run κs a g r e. refl;
      promise = by_value _ (λ κs a. tt) (λ κs a r e p. λ i. (p.0 i, p.1 i));
    }

recv_write_promise : Exported recv_write.ended (λ M 𝓤 𝓛. recv_write.clauses 𝓛) {W = ℕ × Receiver × (List ℕ)} (λ κs r e. (r, e.0.now, e.1.0.now))
recv_write_promise =
    record {
      post = λ κs a r e. let s = receiver_whole_of a.0.now in let next = write_of s a.1.0.now a.1.1.0 a.1.1.1.0.now in (r ≡ next.answer) × (e.0.now ≡ receiver_parts_of next.state) × (e.1.0.now ≡ written_room_of s a.1.0.now (record { 0 = a.1.1.0 }) a.1.1.1.0.now);
      asks_nothing = λ M 𝓤 𝓛 mem run κs a g. refl;
      says = λ M 𝓤 𝓛 mem run κs a g r e. refl;
      promise = by_value _ (λ κs a. tt) (λ κs a r e p. λ i. (p.0 i, p.1 i, p.2 i));
    }

recv_read_promise : Exported recv_read.ended (λ M 𝓤 𝓛. recv_read.clauses 𝓛) {W = ℕ × Receiver × (List ℕ) × (List ℕ) × ℕ} (λ κs r e. (r, e.0.now, e.1.0.now, e.1.1.0.now, e.1.1.1.0.now))
recv_read_promise =
    record {
      post = λ κs a r e. let s = receiver_whole_of a.0.now in let next = receiver_read_of s a.1.0.now a.1.1.0.now in (r ≡ next.answer) × (e.0.now ≡ receiver_parts_of next.state) × (e.1.0.now ≡ taken_room_of s a.1.0.now a.1.1.0.now) × (e.1.1.0.now ≡ taken_out_of s a.1.0.now a.1.1.0.now) × (e.1.1.1.0.now ≡ value_or a.1.1.1.0.now (taken_count_of s a.1.0.now a.1.1.0.now));
      asks_nothing = λ M 𝓤 𝓛 mem run κs a g. refl;
      says = λ M 𝓤 𝓛 mem run κs a g r e. refl;
      promise = by_value _ (λ κs a. tt) (λ κs a r e p. λ i. (p.0 i, p.1 i, p.2 i, p.3 i, p.4 i));
    }

recv_selective_ack_promise : Exported recv_selective_ack.ended (λ M 𝓤 𝓛. recv_selective_ack.clauses 𝓛) {W = ℕ × (List ℕ) × ℕ} (λ κs r e. (r, e.1.0.now, e.1.1.0.now))
recv_selective_ack_promise =
    record {
      post = λ κs a r e. let s = a.0.now in let told = sack_answer s a.1.0.now in (r ≡ number_of told) × (e.1.0.now ≡ acked_room_of s a.1.0.now) × (e.1.1.0.now ≡ value_or a.1.1.0.now told);
      asks_nothing = λ M 𝓤 𝓛 mem run κs a g. refl;
      says = λ M 𝓤 𝓛 mem run κs a g r e. refl;
      promise = by_value _ (λ κs a. tt) (λ κs a r e p. λ i. (p.0 i, p.1 i, p.2 i));
    }

recv_available_promise : Exported recv_available.ended (λ M 𝓤 𝓛. recv_available.clauses 𝓛) {W = ℕ × ℕ} (λ κs r e. (r, e.1.0.now))
recv_available_promise =
    record {
      post = λ κs a r e. let s = a.0.now in let told = told_answer (told_of s (free_of s.length s.ready (table_of s))) in (r ≡ number_of told) × (e.1.0.now ≡ value_or a.1.0.now told);
      asks_nothing = λ M 𝓤 𝓛 mem run κs a g. refl;
      says = λ M 𝓤 𝓛 mem run κs a g r e. refl;
      promise = by_value _ (λ κs a. tt) (λ κs a r e p. λ i. (p.0 i, p.1 i));
    }

recv_is_empty_promise : Exported recv_is_empty.ended (λ M 𝓤 𝓛. recv_is_empty.clauses 𝓛) {W = ℕ × ℕ} (λ κs r e. (r, e.1.0.now))
recv_is_empty_promise =
    record {
      post = λ κs a r e. let s = a.0.now in let told = told_answer (told_of s (empty_of s)) in (r ≡ number_of told) × (e.1.0.now ≡ part_or bit_of a.1.0.now told);
      asks_nothing = λ M 𝓤 𝓛 mem run κs a g. refl;
      says = λ M 𝓤 𝓛 mem run κs a g r e. refl;
      promise = by_value _ (λ κs a. tt) (λ κs a r e p. λ i. (p.0 i, p.1 i));
    }

recv_init_seq_num_promise : Exported recv_init_seq_num.ended (λ M 𝓤 𝓛. recv_init_seq_num.clauses 𝓛) {W = ℕ × ℕ} (λ κs r e. (r, e.1.0.now))
recv_init_seq_num_promise =
    record {
      post = λ κs a r e. let s = a.0.now in let told = told_answer (told_of s s.initial) in (r ≡ number_of told) × (e.1.0.now ≡ part_or seq_of a.1.0.now told);
      asks_nothing = λ M 𝓤 𝓛 mem run κs a g. refl;
      says = λ M 𝓤 𝓛 mem run κs a g r e. refl;
      promise = by_value _ (λ κs a. tt) (λ κs a r e p. λ i. (p.0 i, p.1 i));
    }

recv_ack_num_promise : Exported recv_ack_num.ended (λ M 𝓤 𝓛. recv_ack_num.clauses 𝓛) {W = ℕ × ℕ} (λ κs r e. (r, e.1.0.now))
recv_ack_num_promise =
    record {
      post = λ κs a r e. let s = a.0.now in let told = told_answer (told_of s (receiver_ack_of s)) in (r ≡ number_of told) × (e.1.0.now ≡ part_or seq_of a.1.0.now told);
      asks_nothing = λ M 𝓤 𝓛 mem run κs a g. refl;
      says = λ M 𝓤 𝓛 mem run κs a g r e. refl;
      promise = by_value _ (λ κs a. tt) (λ κs a r e p. λ i. (p.0 i, p.1 i));
    }

recv_count_promise : Exported recv_count.ended (λ M 𝓤 𝓛. recv_count.clauses 𝓛) {W = ℕ × ℕ} (λ κs r e. (r, e.1.0.now))
recv_count_promise =
    record {
      post = λ κs a r e. let s = a.0.now in let told = told_answer (told_of s s.count) in (r ≡ number_of told) × (e.1.0.now ≡ value_or a.1.0.now told);
      asks_nothing = λ M 𝓤 𝓛 mem run κs a g. refl;
      says = λ M 𝓤 𝓛 mem run κs a g r e. refl;
      promise = by_value _ (λ κs a. tt) (λ κs a r e p. λ i. (p.0 i, p.1 i));
    }

recv_ready_promise : Exported recv_ready.ended (λ M 𝓤 𝓛. recv_ready.clauses 𝓛) {W = ℕ × ℕ} (λ κs r e. (r, e.1.0.now))
recv_ready_promise =
    record {
      post = λ κs a r e. let s = a.0.now in let told = told_answer (told_of s s.ready) in (r ≡ number_of told) × (e.1.0.now ≡ value_or a.1.0.now told);
      asks_nothing = λ M 𝓤 𝓛 mem run κs a g. refl;
      says = λ M 𝓤 𝓛 mem run κs a g r e. refl;
      promise = by_value _ (λ κs a. tt) (λ κs a r e p. λ i. (p.0 i, p.1 i));
    }

recv_waiting_promise : Exported recv_waiting.ended (λ M 𝓤 𝓛. recv_waiting.clauses 𝓛) {W = ℕ × ℕ} (λ κs r e. (r, e.1.0.now))
recv_waiting_promise =
    record {
      post = λ κs a r e. let s = a.0.now in let told = told_answer (told_of s (how_many (table_of s))) in (r ≡ number_of told) × (e.1.0.now ≡ value_or a.1.0.now told);
      asks_nothing = λ M 𝓤 𝓛 mem run κs a g. refl;
      says = λ M 𝓤 𝓛 mem run κs a g r e. refl;
      promise = by_value _ (λ κs a. tt) (λ κs a r e p. λ i. (p.0 i, p.1 i));
    }

recv_waiting_bytes_promise : Exported recv_waiting_bytes.ended (λ M 𝓤 𝓛. recv_waiting_bytes.clauses 𝓛) {W = ℕ × ℕ} (λ κs r e. (r, e.1.0.now))
recv_waiting_bytes_promise =
    record {
      post = λ κs a r e. let s = a.0.now in let told = told_answer (told_of s (bytes_in (table_of s))) in (r ≡ number_of told) × (e.1.0.now ≡ value_or a.1.0.now told);
      asks_nothing = λ M 𝓤 𝓛 mem run κs a g. refl;
      says = λ M 𝓤 𝓛 mem run κs a g r e. refl;
      promise = by_value _ (λ κs a. tt) (λ κs a r e p. λ i. (p.0 i, p.1 i));
    }

recv_was_written_promise : Exported recv_was_written.ended (λ M 𝓤 𝓛. recv_was_written.clauses 𝓛) {W = ℕ × ℕ} (λ κs r e. (r, e.1.1.0.now))
recv_was_written_promise =
    record {
      post = λ κs a r e. let s = a.0.now in let told = told_answer (told_of s (written_before s (record { 0 = a.1.0 }))) in (r ≡ number_of told) × (e.1.1.0.now ≡ part_or bit_of a.1.1.0.now told);
      asks_nothing = λ M 𝓤 𝓛 mem run κs a g. refl;
      says = λ M 𝓤 𝓛 mem run κs a g r e. refl;
      promise = by_value _ (λ κs a. tt) (λ κs a r e p. λ i. (p.0 i, p.1 i));
    }

-- ---- conversions

header_fields_from_header_promise : Promise HeaderFieldsFromHeader.Pre HeaderFieldsFromHeader.Post (λ κs r s. r)
header_fields_from_header_promise = by_value _ (λ κs a. tt) (λ κs a r s p. p)

packet_fields_from_packet_promise : Promise PacketFieldsFromPacket.Pre PacketFieldsFromPacket.Post (λ κs r s. r)
packet_fields_from_packet_promise = by_value _ (λ κs a. tt) (λ κs a r s p. p)
