-- The run of WireWitness keeps every premise, and every byte arrives: the theorem over bytes is not empty. Each fact is computed by the definitions.
use Rattle.std.specs.Prelude.{ℕ, ◌^◌, ◌<◌, Bool, true, false, List, [], ◌∷◌, ◌≡◌, refl, replicate}
use Rattle.std.proofs.Common.{arith, lit<}
use Rattle.std.specs.Float.Ieee.{le, mul, div, of_int, to_signed}
use Rattle.packet.specs.declared.kind.PacketType.{PacketType}
use Rattle.packet.specs.declared.kind.PacketType.TheVariants.{Data, State}
use Rattle.packet.specs.Layout.{fields_of, bytes_of}
use Rattle.packet.specs.Chain.{chain_from}
use Rattle.packet.specs.Decode.{decode_of}
use Rattle.packet.specs.Encode.{encode_of}
use Rattle.packet.specs.RoundTrips.{HeaderFits}
use Rattle.congestion.specs.Numbers.{sound_of, adjusted_of, timed_of, credited_of}
use Rattle.congestion.specs.Window.{adjustment_of, next_maximum_of}
use Rattle.congestion.specs.Trip.{moved_of}
use Rattle.controller.specs.Delays.{remaining_of, room_of, take_of}
use Rattle.outgoing.specs.Sound.{in_flight_of, packets_sound_of, tracker_sound_of}
use Rattle.outgoing.specs.Loss.{acked_count_of, loss_marked_of, loss_counted_of}
use Rattle.outgoing.specs.Transmit.{transmit_check, sent_of, transmit_of}
use Rattle.outgoing.specs.Ack.{ack_check, marked_of, ack_of, sacked_from, offsets_from, heard_of, newly_acked_of, all_acknowledged_of, from_unacked}
use Rattle.sent.specs.State.{tracker_of, state_sound_of, transmit_answer, ack_state_of, ack_answer}
use Rattle.recv.specs.State.{sound_of as receiver_sound}
use Rattle.recv.specs.Table.{there_of, sack_of}
use Rattle.recv.specs.Receiver.{rule_of, stored_of, read_of}
use Rattle.recv.specs.Calls.{answer_of}
use Rattle.delivery.specs.Run.{Start, sender_after, receiver_after, accepted, is_first, Happened, Fresh, carried, marks_of}
use Rattle.delivery.specs.Wire.{SentAs, AckedAs, WireEvent, transmits, times_out, reads, builds, sender_out, receiver_out, to_receiver, to_sender, plain, WireSent, WireFirst, WireBuilt, OnWith, WirePremises}
use Rattle.delivery.specs.Witness.{settings, seq}
use Rattle.delivery.specs.WireWitness.{start, first, second, again, header, first-bytes, second-bytes, early, last, early-bytes, last-bytes, asks, builds_in, arrives, hears, sent, arrived, acknowledged, mended, run}
use Rattle.delivery.specs.Laws.Kept.{Along, along_none, along_more, happened_at}

-- ---- what the premises ask of each event and of what was before it

abbrev Allowed : Start → WireEvent → List WireEvent → Type 0
Allowed b (transmits s x) before = (s ≡ sender_after b (plain before)) × (accepted s x ≡ true → is_first s x ≡ false → WireFirst (carried x) before)
Allowed b (times_out s) before = s ≡ sender_after b (plain before)
Allowed b (reads s buf out) before = OnWith b s buf before
Allowed b (builds s buf room) before = OnWith b s buf before
Allowed b (sender_out bytes) before = WireSent bytes before
Allowed b (receiver_out bytes) before = WireBuilt bytes before
Allowed b (to_receiver s buf bytes) before = OnWith b s buf before × Happened (sender_out bytes) before
Allowed b (to_sender s bytes delay clock) before = (s ≡ sender_after b (plain before)) × Happened (receiver_out bytes) before

wire_kept : (b : Start) (w : List WireEvent) → Fresh b → Along (Allowed b) w → WirePremises b w
wire_kept b w fresh along =
    record {
      fresh = fresh;
      channel = λ s buf bytes before h. (along (to_receiver s buf bytes) before h).1;
      channel_back = λ s bytes delay clock before h. (along (to_sender s bytes delay clock) before h).1;
      retransmission = λ s x before h. (along (transmits s x) before h).1;
      only_accepted = λ bytes before h. along (sender_out bytes) before h;
      built = λ bytes before h. along (receiver_out bytes) before h;
      transmit_goes_on = λ s x before h. (along (transmits s x) before h).0;
      timeout_goes_on = λ s before h. along (times_out s) before h;
      hearing_goes_on = λ s bytes delay clock before h. (along (to_sender s bytes delay clock) before h).0;
      read_goes_on = λ s buf out before h. along (reads s buf out) before h;
      build_goes_on = λ s buf room before h. along (builds s buf room) before h;
      arrival_goes_on = λ s buf bytes before h. (along (to_receiver s buf bytes) before h).0;
    }

-- ---- the bytes are those that the writer writes

fits : (type : PacketType) (number ack : ℕ) → number < 2 ^ 16 → ack < 2 ^ 16 → HeaderFits (header type number ack)
fits type number ack n a = record { conn_id = lit< tt; ts = lit< tt; ts_diff = lit< tt; window = lit< tt; seq = n; ack = a }

first-sent : SentAs first first-bytes
unfolding encode_of bytes_of
first-sent =
    record { header = header Data 0 9; type_is = refl; number_is = refl; written = record { fits = fits Data 0 9 (lit< tt) (lit< tt); room = 21; size = 21; is_written = refl; are = refl } }

again-sent : SentAs again first-bytes
again-sent = record { header = first-sent.header; type_is = first-sent.type_is; number_is = first-sent.number_is; written = first-sent.written }

second-sent : SentAs second second-bytes
unfolding encode_of bytes_of
second-sent =
    record { header = header Data 1 9; type_is = refl; number_is = refl; written = record { fits = fits Data 1 9 (lit< tt) (lit< tt); room = 22; size = 22; is_written = refl; are = refl } }

early_acked : AckedAs early early-bytes
unfolding encode_of bytes_of
early_acked =
    record {
      header = header State 3 65535;
      type_is = refl;
      number_is = refl;
      written = record { fits = fits State 3 65535 (lit< tt) (lit< tt); room = 26; size = 26; is_written = refl; are = refl };
    }

last_acked : AckedAs last last-bytes
unfolding encode_of bytes_of
last_acked =
    record { header = header State 3 1; type_is = refl; number_is = refl; written = record { fits = fits State 3 1 (lit< tt) (lit< tt); room = 20; size = 20; is_written = refl; are = refl } }

-- ---- the run, event by event

fresh : Fresh start
unfolding sound_of le
fresh = record { initial = seq 65535; fits = lit< tt; sender = record { settings = settings; made = refl }; receiver = record { size = 4; made = refl } }

never : {A : Type 0} (s : Bool) → s ≡ true → s ≡ false → A
never s e f = let z : ◌≡◌ {A = ℕ} 0 1 = cc in absurd (omega arith)

sent_allowed : Along (Allowed start) sent
unfolding plain decode_of fields_of bytes_of chain_from sender_after acked_count_of loss_marked_of loss_counted_of transmit_check sent_of transmit_of transmit_answer ack_answer ack_state_of ack_check marked_of ack_of sacked_from offsets_from heard_of newly_acked_of all_acknowledged_of from_unacked state_sound_of tracker_sound_of packets_sound_of in_flight_of sound_of adjusted_of timed_of credited_of remaining_of room_of take_of adjustment_of next_maximum_of moved_of le mul div of_int to_signed
sent_allowed =
    along_more (Allowed start) (sender_out second-bytes) _
    (record { sender = sender_after start (plain (sender_out first-bytes ∷ asks [] first)); asked = second; happened = happened_at _ (asks (sender_out first-bytes ∷ asks [] first) second) 0 refl; is_accepted = refl; bytes_are = second-sent })
    (along_more (Allowed start) (transmits (sender_after start (plain (sender_out first-bytes ∷ asks [] first))) second) (sender_out first-bytes ∷ asks [] first)
    (refl, λ a f. never true refl f)
    (along_more (Allowed start) (sender_out first-bytes) (asks [] first)
    (record { sender = start.sender; asked = first; happened = happened_at _ (asks [] first) 0 refl; is_accepted = refl; bytes_are = first-sent })
    (along_more (Allowed start) (transmits start.sender first) [] (refl, λ a f. never true refl f) (along_none (Allowed start)))))

arrived_allowed : Along (Allowed start) arrived
arrived_allowed =
    along_more (Allowed start) _ (arrives sent second-bytes) ((refl, refl), happened_at _ (arrives sent second-bytes) 1 refl)
    (along_more (Allowed start) _ sent ((refl, refl), happened_at _ sent 0 refl) sent_allowed)

acknowledged_allowed : Along (Allowed start) acknowledged
unfolding plain decode_of fields_of bytes_of chain_from receiver_after receiver_sound there_of sack_of rule_of stored_of answer_of read_of
acknowledged_allowed =
    along_more (Allowed start) _ (receiver_out early-bytes ∷ builds_in arrived (replicate 4 9)) (refl, happened_at _ (receiver_out early-bytes ∷ builds_in arrived (replicate 4 9)) 0 refl)
    (along_more (Allowed start) (receiver_out early-bytes) (builds_in arrived (replicate 4 9))
    (record {
      receiver = (receiver_after start (plain arrived)).state;
      buffer = (receiver_after start (plain arrived)).bytes;
      room = replicate 4 9;
      acknowledgement = early;
      happened = happened_at _ (builds_in arrived (replicate 4 9)) 0 refl;
      answers = record { number_told = refl; size = 4; size_told = refl; bytes_told = refl };
      bytes_are = early_acked;
    })
    (along_more (Allowed start) _ arrived (refl, refl) arrived_allowed))

mended_allowed : Along (Allowed start) mended
unfolding plain decode_of fields_of bytes_of chain_from sender_after acked_count_of loss_marked_of loss_counted_of transmit_check sent_of transmit_of transmit_answer ack_answer ack_state_of ack_check marked_of ack_of sacked_from offsets_from heard_of newly_acked_of all_acknowledged_of from_unacked state_sound_of tracker_sound_of packets_sound_of in_flight_of sound_of adjusted_of timed_of credited_of remaining_of room_of take_of adjustment_of next_maximum_of moved_of le mul div of_int to_signed
mended_allowed =
    along_more (Allowed start) _ (sender_out first-bytes ∷ asks acknowledged again) ((refl, refl), happened_at _ (sender_out first-bytes ∷ asks acknowledged again) 0 refl)
    (along_more (Allowed start) (sender_out first-bytes) (asks acknowledged again)
    (record { sender = sender_after start (plain acknowledged); asked = again; happened = happened_at _ (asks acknowledged again) 0 refl; is_accepted = refl; bytes_are = again-sent })
    (along_more (Allowed start) _ acknowledged
    (refl, λ a f. record { sender = start.sender; asked = first; happened = happened_at _ acknowledged 8 refl; is_accepted = refl; was_first = refl; carries = refl })
    acknowledged_allowed))

run_allowed : Along (Allowed start) run
unfolding plain decode_of fields_of bytes_of chain_from receiver_after receiver_sound there_of sack_of rule_of stored_of answer_of read_of
run_allowed =
    along_more (Allowed start) _ (hears (receiver_out last-bytes ∷ builds_in mended []) last-bytes 1100000) (refl, refl)
    (along_more (Allowed start) _ (receiver_out last-bytes ∷ builds_in mended []) (refl, happened_at _ (receiver_out last-bytes ∷ builds_in mended []) 0 refl)
    (along_more (Allowed start) (receiver_out last-bytes) (builds_in mended [])
    (record {
      receiver = (receiver_after start (plain mended)).state;
      buffer = (receiver_after start (plain mended)).bytes;
      room = [];
      acknowledgement = last;
      happened = happened_at _ (builds_in mended []) 0 refl;
      answers = record { number_told = refl; size = 0; size_told = refl; bytes_told = refl };
      bytes_are = last_acked;
    })
    (along_more (Allowed start) _ mended (refl, refl) mended_allowed)))

-- Every premise holds of the run.
pub wire_run_kept : WirePremises start run
wire_run_kept = wire_kept start run fresh run_allowed

-- Every byte is read, in order, and both packets are held as acknowledged.
pub wire_all_read : (receiver_after start (plain run)).read ≡ 65 ∷ 66 ∷ 67 ∷ []
unfolding plain decode_of fields_of bytes_of chain_from receiver_after receiver_sound there_of sack_of rule_of stored_of answer_of read_of
wire_all_read = refl

pub wire_marks : marks_of (tracker_of (sender_after start (plain run))) ≡ true ∷ true ∷ []
unfolding plain decode_of fields_of bytes_of chain_from sender_after acked_count_of loss_marked_of loss_counted_of transmit_check sent_of transmit_of transmit_answer ack_answer ack_state_of ack_check marked_of ack_of sacked_from offsets_from heard_of newly_acked_of all_acknowledged_of from_unacked state_sound_of tracker_sound_of packets_sound_of in_flight_of sound_of adjusted_of timed_of credited_of remaining_of room_of take_of adjustment_of next_maximum_of moved_of le mul div of_int to_signed
wire_marks = refl
