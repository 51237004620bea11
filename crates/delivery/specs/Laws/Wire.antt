-- The theorem over bytes, from the one over numbers and payloads and from the codec's round trip: a run over bytes that keeps its premises is, plainly, a run that keeps them.
use Rattle.std.specs.Prelude.{ℕ, Bool, true, false, cond, List, [], ◌∷◌, ◌⊎◌, ◌≡◌, refl}
use Rattle.std.proofs.Common.{arith, inl, inr, ◌∙◌, ap, ap₂, sym, subst, subst₂}
use Rattle.std.proofs.Math.Option.{Option, none, some}
use Rattle.common.specs.Answer.{Answer, done}
use Rattle.seq.specs.declared.SeqNum.{SeqNum}
use Rattle.packet.specs.declared.decode.Packet.{Packet}
use Rattle.packet.specs.declared.header.Header.{Header}
use Rattle.packet.specs.Decode.{decode_of, part_of}
use Rattle.packet.specs.Laws.ReadWritten.{place_of_sack, place_of_payload, read_encoded, sack_back, payload_back}
use Rattle.sent.specs.declared.state.SentPackets.{SentPackets}
use Rattle.recv.specs.declared.ReceiveBuffer.{ReceiveBuffer}
use Rattle.delivery.specs.Run.{Happens, Datagram, Acknowledgement, Transmit, SenderCall, transmit, hear, time_out, ReceiverCall, write, read, build, Event, at_sender, at_receiver, goes_out, Start, sender_after, receiver_after, accepted, is_first, Happened, carried, FirstSent, Answers, Delivered}
use Rattle.delivery.specs.Wire.{Writes, SentAs, AckedAs, carries_payload, payload_of, payload_in, acknowledgement_of, acknowledgement_in, WireEvent, transmits, times_out, reads, builds, sender_out, receiver_out, to_receiver, to_sender, mapped, plainly, with_event, plain, WireSent, WireFirst, WireBuilt, OnWith, WirePremises}
use Rattle.delivery.specs.Laws.Kept.{Keeps, keeps_none, premises_kept, keeps_transmit, keeps_hear, keeps_time_out, keeps_write, keeps_read, keeps_build, keeps_out}
use Rattle.delivery.specs.Laws.Theorem.{delivered}

-- ---- what is read is what was written

written_read : (h : Header) (sack payload bytes : List ℕ) → Writes h sack payload bytes → decode_of bytes ≡ done (record { header = h; sack = place_of_sack sack; payload = place_of_payload sack payload })
written_read h sack payload bytes w = ap decode_of w.are ∙ read_encoded h sack payload w.room w.size w.fits w.is_written

-- Bytes of a transmit: the receiving end writes what the transmit carries, or nothing.
sent_read : (x : Transmit) (bytes : List ℕ) (d : Datagram) → SentAs x bytes → payload_in bytes ≡ some d → carried x ≡ d
sent_read x bytes d was e = by_type (carries_payload was.header.packet_type) (sym read_back ∙ e)
  where
    h : Header
    h = was.header

    read_back : payload_in bytes ≡ cond (carries_payload h.packet_type) (some (record { number = h.seq_num; payload = part_of (place_of_payload [] x.payload) bytes })) none
    read_back = ap (λ (a : Answer Packet). payload_of a bytes) (written_read h [] x.payload bytes was.written)

    payload_is : part_of (place_of_payload [] x.payload) bytes ≡ x.payload
    payload_is = ap (part_of (place_of_payload [] x.payload)) was.written.are ∙ payload_back h [] x.payload

    by_type : (c : Bool) → cond c (some (record { number = h.seq_num; payload = part_of (place_of_payload [] x.payload) bytes })) none ≡ some d → carried x ≡ d
    by_type true f =
        let same : record { number = h.seq_num; payload = part_of (place_of_payload [] x.payload) bytes } ≡ d = cc in
        ap₂ (λ (n : SeqNum) (l : List ℕ). datagram n l) (sym was.number_is) (sym payload_is) ∙ same
      where
        datagram : SeqNum → List ℕ → Datagram
        datagram n l = record { number = n; payload = l }
    by_type false f = let z : ◌≡◌ {A = ℕ} 0 1 = cc in absurd (omega arith)

-- Bytes of an acknowledgement: the sending end hears it.
acked_read : (a : Acknowledgement) (bytes : List ℕ) (heard : Acknowledgement) → AckedAs a bytes → acknowledgement_in bytes ≡ some heard → a ≡ heard
acked_read a bytes heard was e =
    let h = was.header in
    let read_back : acknowledgement_in bytes ≡ some (acknowledgement h.ack_num (part_of (place_of_sack a.mask) bytes)) =
    ap (λ (p : Answer Packet). acknowledgement_of p bytes) (written_read h a.mask [] bytes was.written) in
    let mask_is : part_of (place_of_sack a.mask) bytes ≡ a.mask = ap (part_of (place_of_sack a.mask)) was.written.are ∙ sack_back h a.mask [] in
    let same : acknowledgement h.ack_num (part_of (place_of_sack a.mask) bytes) ≡ heard = inside (sym read_back ∙ e) in
    ap₂ (λ (n : SeqNum) (m : List ℕ). acknowledgement n m) (sym was.number_is) (sym mask_is) ∙ same
  where
    acknowledgement : SeqNum → List ℕ → Acknowledgement
    acknowledgement n m = record { number = n; mask = m }

    inside : {x y : Acknowledgement} → some x ≡ some y → x ≡ y
    inside f = cc

-- ---- events over bytes and plainly

-- What happened over bytes happened plainly.
happened_plain : (w : WireEvent) (e : Event) (run : List WireEvent) → plainly w ≡ some e → Happened w run → Happened e (plain run)
unfolding Happened plain
happened_plain w e [] is h = absurd h
happened_plain w e (x ∷ run) is (inl same) = subst (λ (o : Option Event). Happened e (with_event o (plain run))) (sym (ap plainly same ∙ is)) (inl refl)
happened_plain w e (x ∷ run) is (inr h) = later (plainly x) (happened_plain w e run is h)
  where
    later : (o : Option Event) → Happened e (plain run) → Happened e (with_event o (plain run))
    later none k = k
    later (some y) k = inr k

-- What went out from the receiver was built before.
built_before :
    (bytes : List ℕ) (run : List WireEvent)
    → ((before : List WireEvent) → Happens (receiver_out bytes) before run → WireBuilt bytes before)
    → Happened (receiver_out bytes) run
    → WireBuilt bytes run
unfolding Happens Happened
built_before bytes [] premise h = absurd h
built_before bytes (x ∷ run) premise h = by_first h (built_before bytes run (λ before k. premise before (inr k)))
  where
    more : WireBuilt bytes run → WireBuilt bytes (x ∷ run)
    more k =
        record {
          receiver = k.receiver;
          buffer = k.buffer;
          room = k.room;
          acknowledgement = k.acknowledgement;
          happened = inr k.happened;
          answers = k.answers;
          bytes_are = k.bytes_are;
        }

    by_first : (x ≡ receiver_out bytes) ⊎ Happened (receiver_out bytes) run → (Happened (receiver_out bytes) run → WireBuilt bytes run) → WireBuilt bytes (x ∷ run)
    by_first (inl same) rest = more (premise run (inl (same, refl)))
    by_first (inr k) rest = more (rest k)

-- ---- the premises

-- They hold of what happened earlier.
earlier : (b : Start) (x : WireEvent) (run : List WireEvent) → WirePremises b (x ∷ run) → WirePremises b run
unfolding Happens
earlier b x run k =
    record {
      fresh = k.fresh;
      channel = λ s buf bytes before h. k.channel s buf bytes before (inr h);
      channel_back = λ s bytes delay clock before h. k.channel_back s bytes delay clock before (inr h);
      retransmission = λ s y before h. k.retransmission s y before (inr h);
      only_accepted = λ bytes before h. k.only_accepted bytes before (inr h);
      built = λ bytes before h. k.built bytes before (inr h);
      transmit_goes_on = λ s y before h. k.transmit_goes_on s y before (inr h);
      timeout_goes_on = λ s before h. k.timeout_goes_on s before (inr h);
      hearing_goes_on = λ s bytes delay clock before h. k.hearing_goes_on s bytes delay clock before (inr h);
      read_goes_on = λ s buf out before h. k.read_goes_on s buf out before (inr h);
      build_goes_on = λ s buf room before h. k.build_goes_on s buf room before (inr h);
      arrival_goes_on = λ s buf bytes before h. k.arrival_goes_on s buf bytes before (inr h);
    }

module _ (b : Start) (run : List WireEvent) (keeps : Keeps b (plain run)) where
  abbrev here : List Event
  here = plain run

  sender_on : (s : SentPackets) (call : SenderCall) → s ≡ sender_after b here → Keeps b (at_sender (sender_after b here) call ∷ here) → Keeps b (at_sender s call ∷ here)
  sender_on s call same k = subst (λ (q : SentPackets). Keeps b (at_sender q call ∷ here)) (sym same) k

  receiver_on : (s : ReceiveBuffer) (buf : List ℕ) (call : ReceiverCall) → OnWith b s buf run
      → Keeps b (at_receiver (receiver_after b here).state (receiver_after b here).bytes call ∷ here) → Keeps b (at_receiver s buf call ∷ here)
  receiver_on s buf call same k = subst₂ (λ (q : ReceiveBuffer) (m : List ℕ). Keeps b (at_receiver q m call ∷ here)) (sym same.0) (sym same.1) k

  -- A transmit, which carries what was first sent if it is a retransmission.
  wire_transmit : (s : SentPackets) (x : Transmit) → s ≡ sender_after b here → (accepted s x ≡ true → is_first s x ≡ false → WireFirst (carried x) run) → Keeps b (at_sender s (transmit x) ∷ here)
  wire_transmit s x same first =
      sender_on s (transmit x) same
      (keeps_transmit b here keeps x (subst (λ (q : SentPackets). accepted q x ≡ true → is_first q x ≡ false → FirstSent (carried x) here) same (λ a f. plainly-first (first a f))))
    where
      plainly-first : WireFirst (carried x) run → FirstSent (carried x) here
      plainly-first k =
          record {
            sent =
                record {
                  sender = k.sender;
                  asked = k.asked;
                  happened = happened_plain (transmits k.sender k.asked) _ run refl k.happened;
                  is_accepted = k.is_accepted;
                  carries = k.carries;
                };
            was_first = k.was_first;
          }

  -- Bytes go out; they arrive at the receiver; they arrive at the sender.
  wire_out : (bytes : List ℕ) → WireSent bytes run → Keeps b (with_event (mapped goes_out (payload_in bytes)) here)
  wire_out bytes was = by_payload (payload_in bytes) refl
    where
      by_payload : (o : Option Datagram) → payload_in bytes ≡ o → Keeps b (with_event (mapped goes_out o) here)
      by_payload none is = keeps
      by_payload (some d) is =
          keeps_out b here keeps d
          (record {
            sender = was.sender;
            asked = was.asked;
            happened = happened_plain (transmits was.sender was.asked) _ run refl was.happened;
            is_accepted = was.is_accepted;
            carries = sent_read was.asked bytes d was.bytes_are is;
          })

  wire_arrival :
      (s : ReceiveBuffer) (buf bytes : List ℕ) → OnWith b s buf run → Happened (sender_out bytes) run → Keeps b (with_event (mapped (λ d. at_receiver s buf (write d)) (payload_in bytes)) here)
  wire_arrival s buf bytes same came = by_payload (payload_in bytes) refl
    where
      by_payload : (o : Option Datagram) → payload_in bytes ≡ o → Keeps b (with_event (mapped (λ d. at_receiver s buf (write d)) o) here)
      by_payload none is = keeps
      by_payload (some d) is = receiver_on s buf (write d) same (keeps_write b here keeps d (happened_plain (sender_out bytes) (goes_out d) run (ap (mapped goes_out) is) came))

  wire_hearing :
      (s : SentPackets) (bytes : List ℕ) (delay clock : ℕ) → s ≡ sender_after b here → WireBuilt bytes run
      → Keeps b (with_event (mapped (λ a. at_sender s (hear a delay clock)) (acknowledgement_in bytes)) here)
  wire_hearing s bytes delay clock same was = by_acknowledgement (acknowledgement_in bytes) refl
    where
      by_acknowledgement : (o : Option Acknowledgement) → acknowledgement_in bytes ≡ o → Keeps b (with_event (mapped (λ a. at_sender s (hear a delay clock)) o) here)
      by_acknowledgement none is = keeps
      by_acknowledgement (some a) is =
          let heard : was.acknowledgement ≡ a = acked_read was.acknowledgement bytes a was.bytes_are is in
          sender_on s (hear a delay clock) same
          (keeps_hear b here keeps a delay clock
          (record {
            receiver = was.receiver;
            buffer = was.buffer;
            room = was.room;
            happened = happened_plain (builds was.receiver was.buffer was.room) _ run refl was.happened;
            answers = subst (Answers was.receiver was.room) heard was.answers;
          }))

keeps_plain : (b : Start) (run : List WireEvent) → WirePremises b run → Keeps b (plain run)
unfolding Happens plain
keeps_plain b [] k = keeps_none b
keeps_plain b (transmits s x ∷ run) k =
    wire_transmit b run (keeps_plain b run (earlier b _ run k)) s x (k.transmit_goes_on s x run (inl (refl, refl))) (k.retransmission s x run (inl (refl, refl)))
keeps_plain b (times_out s ∷ run) k =
    let keeps = keeps_plain b run (earlier b _ run k) in
    sender_on b run keeps s time_out (k.timeout_goes_on s run (inl (refl, refl))) (keeps_time_out b (plain run) keeps)
keeps_plain b (reads s buf out ∷ run) k =
    let keeps = keeps_plain b run (earlier b _ run k) in
    receiver_on b run keeps s buf (read out) (k.read_goes_on s buf out run (inl (refl, refl))) (keeps_read b (plain run) keeps out)
keeps_plain b (builds s buf room ∷ run) k =
    let keeps = keeps_plain b run (earlier b _ run k) in
    receiver_on b run keeps s buf (build room) (k.build_goes_on s buf room run (inl (refl, refl))) (keeps_build b (plain run) keeps room)
keeps_plain b (sender_out bytes ∷ run) k = wire_out b run (keeps_plain b run (earlier b _ run k)) bytes (k.only_accepted bytes run (inl (refl, refl)))
keeps_plain b (receiver_out bytes ∷ run) k = keeps_plain b run (earlier b _ run k)
keeps_plain b (to_receiver s buf bytes ∷ run) k =
    wire_arrival b run (keeps_plain b run (earlier b _ run k)) s buf bytes (k.arrival_goes_on s buf bytes run (inl (refl, refl))) (k.channel s buf bytes run (inl (refl, refl)))
keeps_plain b (to_sender s bytes delay clock ∷ run) k =
    wire_hearing b run (keeps_plain b run (earlier b _ run k)) s bytes delay clock (k.hearing_goes_on s bytes delay clock run (inl (refl, refl)))
    (built_before bytes run (λ before h. k.built bytes before (inr h)) (k.channel_back s bytes delay clock run (inl (refl, refl))))

-- The theorem over bytes.
pub wire_delivered : (b : Start) (run : List WireEvent) → WirePremises b run → Delivered b (plain run)
wire_delivered b run k = delivered b (plain run) (premises_kept b (plain run) k.fresh (keeps_plain b run k))
