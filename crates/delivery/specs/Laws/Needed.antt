-- Each premise of the theorem is needed: for each a run that keeps all others and breaks a conclusion.
use Rattle.std.specs.Prelude.{ℕ, ◌-◌, ◌≤◌, List, [], ◌∷◌, ◌≡◌, refl, replicate, get_or}
use Rattle.std.proofs.Common.{arith, ap}
use Rattle.std.proofs.Math.Option.{Option, none, some}
use Rattle.std.specs.Float.Ieee.{le, mul, div, of_int, to_signed}
use Rattle.congestion.specs.Numbers.{sound_of, adjusted_of, timed_of, credited_of, new_of}
use Rattle.congestion.specs.Window.{adjustment_of, next_maximum_of}
use Rattle.congestion.specs.Trip.{moved_of}
use Rattle.controller.specs.Delays.{remaining_of, room_of, take_of, no_delays}
use Rattle.outgoing.specs.Sound.{in_flight_of, packets_sound_of, tracker_sound_of}
use Rattle.outgoing.specs.Loss.{acked_count_of, loss_marked_of, loss_counted_of}
use Rattle.outgoing.specs.Tracker.{no_packet}
use Rattle.outgoing.specs.Transmit.{transmit_check, sent_of, transmit_of}
use Rattle.outgoing.specs.Ack.{ack_check, marked_of, ack_of, sacked_from, offsets_from, heard_of, newly_acked_of, all_acknowledged_of, from_unacked}
use Rattle.sent.specs.State.{state_sound_of, transmit_answer, ack_state_of, ack_answer, timeout_answer, fresh_of as fresh_sender}
use Rattle.sent.specs.declared.state.SentPackets.{SentPackets}
use Rattle.recv.specs.State.{sound_of as receiver_sound, fresh_of as fresh_receiver}
use Rattle.recv.specs.Table.{there_of, sack_of}
use Rattle.recv.specs.Receiver.{rule_of, stored_of, read_of}
use Rattle.recv.specs.Calls.{receiver_of, answer_of}
use Rattle.recv.specs.Runs.{Run}
use Rattle.recv.specs.declared.ReceiveBuffer.{ReceiveBuffer}
use Rattle.delivery.specs.Run.{Transmit, transmit, hear, time_out, write, read, Event, at_sender, at_receiver, goes_out, Start, sender_after, receiver_after, payloads, carried, Fresh, FreshSender, FreshReceiver, Channel, SamePayload, OnlyAccepted, BuiltEarlier, SenderGoesOn, ReceiverGoesOn, BufferGoesOn, Stored, in_order, waiting, Delivered}
use Rattle.delivery.specs.Witness.{settings, seq, data_of}
use Rattle.delivery.specs.Laws.Kept.{along_none, along_more, along_quiet, happened_at, channel_other, channel_write, channel_kept, same_other, same_kept, accepted-other, accepted_out, accepted_kept, built_other, built_kept, sender-other, sender_call, sender_kept, receiver-other, receiver_call, receiver_kept, buffer_other, buffer_call, buffer_kept, Keeps, keeps_none, keeps_first, keeps_write, keeps_out}

-- Two fresh ends that share the initial number 0, and a buffer of two bytes.
abbrev pub start : Start
start = record { sender = fresh_sender (seq 0) settings; receiver = fresh_receiver (seq 0) 2; buffer = 0 ∷ 0 ∷ [] }

abbrev pub one : Transmit
one = data_of 1 1 (65 ∷ []) 0

-- The same number with another payload; another number.
abbrev pub other : Transmit
other = data_of 1 1 (66 ∷ []) 0

abbrev pub two : Transmit
two = data_of 2 1 (66 ∷ []) 0

fresh : Fresh start
unfolding sound_of le
fresh = record { initial = seq 0; fits = omega arith; sender = record { settings = settings; made = refl }; receiver = record { size = 2; made = refl } }

-- A sender that holds its one packet as acknowledged, and a receiver with one payload in order, neither of them fresh.
abbrev pub grown_sender : SentPackets
grown_sender = record { initial = 0; count = 1; live = 0; numbers = new_of settings; delays = no_delays; packets = replicate 512 no_packet }

abbrev pub grown_receiver : ReceiveBuffer
grown_receiver = record { initial = seq 0; length = 2; count = 1; ready = 0; span = 0; waiting = replicate 256 0 }

-- ---- what breaks

-- Where nothing is in order and nothing waits, nothing is stored.
not_stored : (r : Run) (payload : List ℕ) → r.state.count ≡ 0 → (receiver_of r.state r.bytes).waiting ≡ [] → Stored r 1 payload → ⊥
not_stored r payload none_in none-waits (in_order least e) = omega arith
not_stored r payload none_in none-waits (waiting past e) =
    let z : ◌≡◌ {A = ℕ} 0 1 = clash (ap (λ (l : List (Option (List ℕ))). get_or l (1 - r.state.count - 1) none) none-waits) e in
    omega arith
  where
    clash : {x : Option (List ℕ)} → x ≡ none → x ≡ some payload → ◌≡◌ {A = ℕ} 0 1
    clash f g = cc

-- ---- each end is fresh, and they share an initial number

-- All premises but that the ends are fresh.
abbrev pub AllButFresh : Start → List Event → Type 0
AllButFresh b run = Channel run × SamePayload run × OnlyAccepted run × BuiltEarlier run × SenderGoesOn b run × ReceiverGoesOn b run × BufferGoesOn b run

all_but_fresh : (b : Start) (run : List Event) → Keeps b run → AllButFresh b run
all_but_fresh b run k =
    (channel_kept run k.channel, same_kept run k.same, accepted_kept run k.accepted, built_kept run k.built, sender_kept b run k.sender, receiver_kept b run k.receiver, buffer_kept b run k.buffer)

-- A sender that holds a packet as acknowledged which nobody sent.
abbrev pub old_sender : Start
old_sender = record { sender = grown_sender; receiver = fresh_receiver (seq 0) 2; buffer = 0 ∷ 0 ∷ [] }

pub fresh_sender_needed : FreshReceiver (seq 0) old_sender.receiver × AllButFresh old_sender [] × (Delivered old_sender [] → ⊥)
unfolding sender_after receiver_after
fresh_sender_needed =
    (record { size = 2; made = refl }, all_but_fresh old_sender [] (keeps_none old_sender), λ d. not_stored _ _ refl refl (d.acknowledged_stored 1 (omega arith) refl))

-- A receiver that has a payload in order which nobody sent.
abbrev pub old_receiver : Start
old_receiver = record { sender = fresh_sender (seq 0) settings; receiver = grown_receiver; buffer = 0 ∷ 0 ∷ [] }

pub fresh_receiver_needed : FreshSender (seq 0) old_receiver.sender × AllButFresh old_receiver [] × (Delivered old_receiver [] → ⊥)
unfolding receiver_after payloads sound_of le
fresh_receiver_needed =
    (record { settings = settings; made = refl }, all_but_fresh old_receiver [] (keeps_none old_receiver), λ d. let h : 1 ≤ 0 = d.among_sent in omega arith)

-- Two fresh ends whose initial numbers differ: the receiver takes the second packet for the first.
abbrev pub apart : Start
apart = record { sender = fresh_sender (seq 0) settings; receiver = fresh_receiver (seq 1) 2; buffer = 0 ∷ 0 ∷ [] }

abbrev pub apart-sent : List Event
apart-sent = at_sender (sender_after apart (at_sender apart.sender (transmit one) ∷ [])) (transmit two) ∷ at_sender apart.sender (transmit one) ∷ []

abbrev pub apart-run : List Event
apart-run = at_receiver apart.receiver apart.buffer (write (carried two)) ∷ goes_out (carried two) ∷ apart-sent

apart_kept : Keeps apart apart-run
unfolding receiver_after sender_after acked_count_of transmit_check sent_of transmit_of transmit_answer state_sound_of tracker_sound_of packets_sound_of in_flight_of sound_of le
apart_kept =
    keeps_write apart _
    (keeps_out apart apart-sent (keeps_first apart _ (keeps_first apart [] (keeps_none apart) one refl) two refl) (carried two)
    (record {
      sender = sender_after apart (at_sender apart.sender (transmit one) ∷ []);
      asked = two;
      happened = happened_at _ apart-sent 0 refl;
      is_accepted = refl;
      carries = refl;
    }))
    (carried two) (happened_at _ _ 0 refl)

pub shared_number_needed : FreshSender (seq 0) apart.sender × FreshReceiver (seq 1) apart.receiver × AllButFresh apart apart-run × (Delivered apart apart-run → ⊥)
unfolding payloads receiver_after receiver_sound there_of sack_of rule_of stored_of answer_of sender_after acked_count_of transmit_check sent_of transmit_of transmit_answer state_sound_of tracker_sound_of packets_sound_of in_flight_of sound_of le
shared_number_needed = (
  record { settings = settings; made = refl },
  record { size = 2; made = refl },
  all_but_fresh apart apart-run apart_kept,
  λ d. let h : ◌≡◌ {A = List ℕ} (66 ∷ []) (65 ∷ []) = d.first_k in let z : ◌≡◌ {A = ℕ} 66 65 = cc in omega arith,
)

-- ---- the channel

-- A datagram that never went out arrives.
abbrev pub invented : List Event
invented = at_receiver start.receiver start.buffer (write (carried one)) ∷ []

pub channel_needed :
    Fresh start × SamePayload invented × OnlyAccepted invented × BuiltEarlier invented × SenderGoesOn start invented × ReceiverGoesOn start invented × BufferGoesOn start invented
    × (Delivered start invented → ⊥)
unfolding payloads receiver_after receiver_sound there_of sack_of rule_of stored_of answer_of
channel_needed =
    let e = at_receiver start.receiver start.buffer (write (carried one)) in (
      fresh,
      same_kept invented (along_quiet _ 0 same_other invented refl),
      accepted_kept invented (along_quiet _ 6 accepted-other invented refl),
      built_kept invented (along_quiet _ 1 built_other invented refl),
      sender_kept start invented (along_more _ e [] (sender-other start e [] refl) (along_none _)),
      receiver_kept start invented (along_more _ e [] (receiver_call start start.receiver start.buffer (write (carried one)) [] refl) (along_none _)),
      buffer_kept start invented (along_more _ e [] (buffer_call start start.receiver start.buffer (write (carried one)) [] refl) (along_none _)),
      λ d. let h : 1 ≤ 0 = d.among_sent in omega arith,
    )

-- ---- a retransmission carries the payload first sent

-- The first transmit is accepted and does not go out; one of the same number with another payload is accepted, goes out and arrives.
abbrev pub exchanged-sent : List Event
exchanged-sent = at_sender (sender_after start (at_sender start.sender (transmit one) ∷ [])) (transmit other) ∷ at_sender start.sender (transmit one) ∷ []

abbrev pub exchanged : List Event
exchanged = at_receiver start.receiver start.buffer (write (carried other)) ∷ goes_out (carried other) ∷ exchanged-sent

pub retransmission_needed :
    Fresh start × Channel exchanged × OnlyAccepted exchanged × BuiltEarlier exchanged × SenderGoesOn start exchanged × ReceiverGoesOn start exchanged × BufferGoesOn start exchanged
    × (Delivered start exchanged → ⊥)
unfolding payloads receiver_after receiver_sound there_of sack_of rule_of stored_of answer_of sender_after acked_count_of transmit_check sent_of transmit_of transmit_answer state_sound_of tracker_sound_of packets_sound_of in_flight_of sound_of le
retransmission_needed =
    let went = goes_out (carried other) in
    let came = at_receiver start.receiver start.buffer (write (carried other)) in
    let first = at_sender start.sender (transmit one) in
    let second = at_sender (sender_after start (first ∷ [])) (transmit other) in (
      fresh,
      channel_kept exchanged (along_more _ came (went ∷ exchanged-sent)
          (channel_write start.receiver start.buffer (carried other) (went ∷ exchanged-sent) (happened_at _ (went ∷ exchanged-sent) 0 refl)) (along_quiet _ 3 channel_other (went ∷ exchanged-sent) refl)),
      accepted_kept exchanged (along_more _ came (went ∷ exchanged-sent) (accepted-other came (went ∷ exchanged-sent) refl) (along_more _ went exchanged-sent
          (accepted_out (carried other) exchanged-sent
          (record { sender = sender_after start (first ∷ []); asked = other; happened = happened_at _ exchanged-sent 0 refl; is_accepted = refl; carries = refl }))
          (along_quiet _ 6 accepted-other exchanged-sent refl))),
      built_kept exchanged (along_quiet _ 1 built_other exchanged refl),
      sender_kept start exchanged (along_more _ came (went ∷ exchanged-sent) (sender-other start came (went ∷ exchanged-sent) refl) (along_more _ went exchanged-sent (sender-other start went exchanged-sent refl)
          (along_more _ second (first ∷ []) (sender_call start (sender_after start (first ∷ [])) (transmit other) (first ∷ []) refl) (along_more _ first [] (sender_call start start.sender (transmit one) [] refl) (along_none _))))),
      receiver_kept start exchanged (along_more _ came (went ∷ exchanged-sent) (receiver_call start start.receiver start.buffer (write (carried other)) (went ∷ exchanged-sent) refl) (along_more _ went exchanged-sent (receiver-other start went exchanged-sent refl)
          (along_more _ second (first ∷ []) (receiver-other start second (first ∷ []) refl) (along_more _ first [] (receiver-other start first [] refl) (along_none _))))),
      buffer_kept start exchanged (along_more _ came (went ∷ exchanged-sent) (buffer_call start start.receiver start.buffer (write (carried other)) (went ∷ exchanged-sent) refl) (along_more _ went exchanged-sent (buffer_other start went exchanged-sent refl)
          (along_more _ second (first ∷ []) (buffer_other start second (first ∷ []) refl) (along_more _ first [] (buffer_other start first [] refl) (along_none _))))),
      λ d. let h : ◌≡◌ {A = List ℕ} (66 ∷ []) (65 ∷ []) = d.first_k in let z : ◌≡◌ {A = ℕ} 66 65 = cc in omega arith,
    )

-- ---- only accepted transmits go out

-- A datagram goes out that no accepted transmit made, and arrives.
abbrev pub unasked : List Event
unasked = at_receiver start.receiver start.buffer (write (carried one)) ∷ goes_out (carried one) ∷ []

pub only_accepted_needed :
    Fresh start × Channel unasked × SamePayload unasked × BuiltEarlier unasked × SenderGoesOn start unasked × ReceiverGoesOn start unasked × BufferGoesOn start unasked
    × (Delivered start unasked → ⊥)
unfolding payloads receiver_after receiver_sound there_of sack_of rule_of stored_of answer_of
only_accepted_needed =
    let went = goes_out (carried one) in
    let came = at_receiver start.receiver start.buffer (write (carried one)) in (
      fresh,
      channel_kept unasked (along_more _ came (went ∷ [])
          (channel_write start.receiver start.buffer (carried one) (went ∷ []) (happened_at _ (went ∷ []) 0 refl)) (along_quiet _ 3 channel_other (went ∷ []) refl)),
      same_kept unasked (along_quiet _ 0 same_other unasked refl),
      built_kept unasked (along_quiet _ 1 built_other unasked refl),
      sender_kept start unasked (along_more _ came (went ∷ []) (sender-other start came (went ∷ []) refl) (along_more _ went [] (sender-other start went [] refl) (along_none _))),
      receiver_kept start unasked (along_more _ came (went ∷ []) (receiver_call start start.receiver start.buffer (write (carried one)) (went ∷ []) refl) (along_more _ went [] (receiver-other start went [] refl) (along_none _))),
      buffer_kept start unasked (along_more _ came (went ∷ []) (buffer_call start start.receiver start.buffer (write (carried one)) (went ∷ []) refl) (along_more _ went [] (buffer_other start went [] refl) (along_none _))),
      λ d. let h : 1 ≤ 0 = d.among_sent in omega arith,
    )

-- ---- what the sender hears was built

-- The sender hears of its packet, and nobody built that.
abbrev pub one-sent : List Event
one-sent = at_sender start.sender (transmit one) ∷ []

abbrev pub unbuilt : List Event
unbuilt = at_sender (sender_after start one-sent) (hear (record { number = seq 1; mask = [] }) 0 0) ∷ one-sent

pub built_needed :
    Fresh start × Channel unbuilt × SamePayload unbuilt × OnlyAccepted unbuilt × SenderGoesOn start unbuilt × ReceiverGoesOn start unbuilt × BufferGoesOn start unbuilt
    × (Delivered start unbuilt → ⊥)
unfolding receiver_after payloads sender_after acked_count_of loss_marked_of loss_counted_of transmit_check sent_of transmit_of transmit_answer ack_answer ack_state_of ack_check marked_of ack_of sacked_from offsets_from heard_of newly_acked_of all_acknowledged_of from_unacked state_sound_of tracker_sound_of packets_sound_of in_flight_of sound_of adjusted_of timed_of credited_of remaining_of room_of take_of adjustment_of next_maximum_of moved_of le mul div of_int to_signed
built_needed =
    let first = at_sender start.sender (transmit one) in
    let heard = at_sender (sender_after start one-sent) (hear (record { number = seq 1; mask = [] }) 0 0) in
    let k = keeps_first start [] (keeps_none start) one refl in (
      fresh,
      channel_kept unbuilt (along_quiet _ 3 channel_other unbuilt refl),
      same_kept unbuilt (along_more _ heard one-sent (same_other heard one-sent refl) k.same),
      accepted_kept unbuilt (along_quiet _ 6 accepted-other unbuilt refl),
      sender_kept start unbuilt (along_more _ heard one-sent (sender_call start (sender_after start one-sent) (hear (record { number = seq 1; mask = [] }) 0 0) one-sent refl) k.sender),
      receiver_kept start unbuilt (along_more _ heard one-sent (receiver-other start heard one-sent refl) k.receiver),
      buffer_kept start unbuilt (along_more _ heard one-sent (buffer_other start heard one-sent refl) k.buffer),
      λ d. not_stored _ _ refl refl (d.acknowledged_stored 1 (omega arith) refl),
    )

-- ---- each end goes on from what its own last call left

-- A timeout of a sender that is another one.
abbrev pub other-sender : List Event
other-sender = at_sender grown_sender time_out ∷ []

pub sender_goes_on_needed :
    Fresh start × Channel other-sender × SamePayload other-sender × OnlyAccepted other-sender × BuiltEarlier other-sender × ReceiverGoesOn start other-sender × BufferGoesOn start other-sender
    × (Delivered start other-sender → ⊥)
unfolding receiver_after timeout_answer sender_after acked_count_of transmit_check sent_of transmit_of transmit_answer state_sound_of tracker_sound_of packets_sound_of in_flight_of sound_of le
sender_goes_on_needed =
    let e = at_sender grown_sender time_out in (
      fresh,
      channel_kept other-sender (along_quiet _ 3 channel_other other-sender refl),
      same_kept other-sender (along_quiet _ 0 same_other other-sender refl),
      accepted_kept other-sender (along_quiet _ 6 accepted-other other-sender refl),
      built_kept other-sender (along_quiet _ 1 built_other other-sender refl),
      receiver_kept start other-sender (along_more _ e [] (receiver-other start e [] refl) (along_none _)),
      buffer_kept start other-sender (along_more _ e [] (buffer_other start e [] refl) (along_none _)),
      λ d. not_stored _ _ refl refl (d.acknowledged_stored 1 (omega arith) refl),
    )

-- A read of a receiver that is another one.
abbrev pub other-receiver : List Event
other-receiver = at_receiver grown_receiver start.buffer (read []) ∷ []

pub receiver_goes_on_needed :
    Fresh start × Channel other-receiver × SamePayload other-receiver × OnlyAccepted other-receiver × BuiltEarlier other-receiver × SenderGoesOn start other-receiver × BufferGoesOn start other-receiver
    × (Delivered start other-receiver → ⊥)
unfolding payloads read_of receiver_after receiver_sound there_of sack_of rule_of stored_of answer_of
receiver_goes_on_needed =
    let e = at_receiver grown_receiver start.buffer (read []) in (
      fresh,
      channel_kept other-receiver (along_quiet _ 3 channel_other other-receiver refl),
      same_kept other-receiver (along_quiet _ 0 same_other other-receiver refl),
      accepted_kept other-receiver (along_quiet _ 6 accepted-other other-receiver refl),
      built_kept other-receiver (along_quiet _ 1 built_other other-receiver refl),
      sender_kept start other-receiver (along_more _ e [] (sender-other start e [] refl) (along_none _)),
      buffer_kept start other-receiver (along_more _ e [] (buffer_call start grown_receiver start.buffer (read []) [] refl) (along_none _)),
      λ d. let h : 1 ≤ 0 = d.among_sent in omega arith,
    )

-- A packet arrives; then somebody else writes to the buffer.
abbrev pub one-arrived : List Event
one-arrived = at_receiver start.receiver start.buffer (write (carried one)) ∷ goes_out (carried one) ∷ one-sent

abbrev pub other_buffer : List Event
other_buffer = at_receiver (receiver_after start one-arrived).state (66 ∷ 0 ∷ []) (read []) ∷ one-arrived

one_arrived_kept : Keeps start one-arrived
unfolding receiver_after sender_after acked_count_of transmit_check sent_of transmit_of transmit_answer state_sound_of tracker_sound_of packets_sound_of in_flight_of sound_of le
one_arrived_kept =
    keeps_write start _
    (keeps_out start one-sent (keeps_first start [] (keeps_none start) one refl) (carried one)
    (record { sender = start.sender; asked = one; happened = happened_at _ one-sent 0 refl; is_accepted = refl; carries = refl }))
    (carried one) (happened_at _ _ 0 refl)

pub buffer_goes_on_needed :
    Fresh start × Channel other_buffer × SamePayload other_buffer × OnlyAccepted other_buffer × BuiltEarlier other_buffer × SenderGoesOn start other_buffer × ReceiverGoesOn start other_buffer
    × (Delivered start other_buffer → ⊥)
unfolding payloads read_of receiver_after receiver_sound there_of sack_of rule_of stored_of answer_of sender_after acked_count_of transmit_check sent_of transmit_of transmit_answer state_sound_of tracker_sound_of packets_sound_of in_flight_of sound_of le
buffer_goes_on_needed =
    let e = at_receiver (receiver_after start one-arrived).state (66 ∷ 0 ∷ []) (read []) in
    let k = one_arrived_kept in (
      fresh,
      channel_kept other_buffer (along_more _ e one-arrived (channel_other e one-arrived refl) k.channel),
      same_kept other_buffer (along_more _ e one-arrived (same_other e one-arrived refl) k.same),
      accepted_kept other_buffer (along_more _ e one-arrived (accepted-other e one-arrived refl) k.accepted),
      built_kept other_buffer (along_more _ e one-arrived (built_other e one-arrived refl) k.built),
      sender_kept start other_buffer (along_more _ e one-arrived (sender-other start e one-arrived refl) k.sender),
      receiver_kept start other_buffer (along_more _ e one-arrived (receiver_call start (receiver_after start one-arrived).state (66 ∷ 0 ∷ []) (read []) one-arrived refl) k.receiver),
      λ d. let h : ◌≡◌ {A = List ℕ} (66 ∷ []) (65 ∷ []) = d.first_k in let z : ◌≡◌ {A = ℕ} 66 65 = cc in omega arith,
    )
