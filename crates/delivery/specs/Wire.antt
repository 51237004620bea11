-- The same run with strings of bytes between the ends: what goes out and what arrives are datagrams as `packet` writes and reads them. Definitions only;
-- `wire_delivered` of Laws.Wire is the theorem.
use Rattle.std.specs.Prelude.{ℕ, Bool, true, false, cond, List, [], ◌∷◌, ◌≡◌}
use Rattle.std.proofs.Math.Option.{Option, none, some}
use Rattle.common.specs.Answer.{Answer, done, refused}
use Rattle.packet.specs.declared.kind.PacketType.{PacketType}
use Rattle.packet.specs.declared.kind.PacketType.TheVariants.{Data, Fin, State, Reset, Syn}
use Rattle.packet.specs.declared.header.Header.{Header}
use Rattle.packet.specs.declared.decode.Packet.{Packet}
use Rattle.packet.specs.Decode.{decode_of, part_of}
use Rattle.packet.specs.Encode.{packet_bytes, encode_of}
use Rattle.packet.specs.RoundTrips.{HeaderFits}
use Rattle.sent.specs.declared.state.SentPackets.{SentPackets}
use Rattle.recv.specs.declared.ReceiveBuffer.{ReceiveBuffer}
use Rattle.delivery.specs.Run.{Datagram, Acknowledgement, Transmit, transmit, hear, time_out, write, read, build, Event, at_sender, at_receiver, goes_out, Start, sender_after, receiver_after, accepted, is_first, Happens, Happened, carried, Answers, Fresh}

-- ---- what is written

-- A packet's bytes, where the writer accepts them into some room.
pub record Writes (h : Header) (sack payload bytes : List ℕ) : Type 0 where
  pub fits : HeaderFits h
  pub room : ℕ
  pub size : ℕ
  pub is_written : encode_of h sack payload room ≡ done size
  pub are : bytes ≡ packet_bytes h sack payload

-- The bytes of a transmit: a packet of its own type, number and payload, with any connection, timestamps, window and ack, and no SACK. Where the writer refuses, as Data with
-- no payload, there are none.
pub record SentAs (x : Transmit) (bytes : List ℕ) : Type 0 where
  pub header : Header
  pub type_is : header.packet_type ≡ x.type
  pub number_is : header.seq_num ≡ x.number
  pub written : Writes header [] x.payload bytes

-- The bytes of an acknowledgement: a State packet with its number as ack, its SACK, and no payload.
pub record AckedAs (a : Acknowledgement) (bytes : List ℕ) : Type 0 where
  pub header : Header
  pub type_is : header.packet_type ≡ State
  pub number_is : header.ack_num ≡ a.number
  pub written : Writes header a.mask [] bytes

-- ---- what is read

-- Data and Fin use up a number, and their payloads are written to the receiver. State, Reset and Syn are not written.
abbrev pub carries_payload : PacketType → Bool
carries_payload Data = true
carries_payload Fin = true
carries_payload State = false
carries_payload Reset = false
carries_payload Syn = false

-- The number and the payload that the receiving end writes for these bytes; none where they are no packet, or one of another type.
abbrev pub payload_of : Answer Packet → List ℕ → Option Datagram
payload_of (refused n) bytes = none
payload_of (done p) bytes = cond (carries_payload p.header.packet_type) (some (record { number = p.header.seq_num; payload = part_of p.payload bytes })) none

abbrev pub payload_in : List ℕ → Option Datagram
payload_in bytes = payload_of (decode_of bytes) bytes

-- The number and the SACK that the sending end hears in these bytes; none where they are no packet.
abbrev pub acknowledgement_of : Answer Packet → List ℕ → Option Acknowledgement
acknowledgement_of (refused n) bytes = none
acknowledgement_of (done p) bytes = some (record { number = p.header.ack_num; mask = part_of p.sack bytes })

abbrev pub acknowledgement_in : List ℕ → Option Acknowledgement
acknowledgement_in bytes = acknowledgement_of (decode_of bytes) bytes

-- ---- what happens

-- A call that an end makes by itself, each on the state (and the buffer) that it is made with; bytes that go out from an end; bytes that arrive at an end.
pub data WireEvent : Type 0 where
  transmits : SentPackets → Transmit → WireEvent
  times_out : SentPackets → WireEvent
  reads : ReceiveBuffer → List ℕ → List ℕ → WireEvent
  builds : ReceiveBuffer → List ℕ → List ℕ → WireEvent
  sender_out : List ℕ → WireEvent
  receiver_out : List ℕ → WireEvent
  to_receiver : ReceiveBuffer → List ℕ → List ℕ → WireEvent
  to_sender : SentPackets → List ℕ → ℕ → ℕ → WireEvent

abbrev pub mapped : {A B : Type 0} → (A → B) → Option A → Option B
mapped f none = none
mapped f (some a) = some (f a)

-- What it is without the bytes: a call, a datagram that goes out, or nothing.
abbrev pub plainly : WireEvent → Option Event
plainly (transmits s x) = some (at_sender s (transmit x))
plainly (times_out s) = some (at_sender s time_out)
plainly (reads s buf out) = some (at_receiver s buf (read out))
plainly (builds s buf room) = some (at_receiver s buf (build room))
plainly (sender_out bytes) = mapped goes_out (payload_in bytes)
plainly (receiver_out bytes) = none
plainly (to_receiver s buf bytes) = mapped (λ d. at_receiver s buf (write d)) (payload_in bytes)
plainly (to_sender s bytes delay clock) = mapped (λ a. at_sender s (hear a delay clock)) (acknowledgement_in bytes)

abbrev pub with_event : Option Event → List Event → List Event
with_event none run = run
with_event (some e) run = e ∷ run

-- A run over bytes, the newest event first, as a run over numbers and payloads.
unfoldable pub plain : List WireEvent → List Event
plain [] = []
plain (e ∷ run) = with_event (plainly e) (plain run)

-- An accepted transmit whose bytes these are; a first one that carries this datagram.
pub record WireSent (bytes : List ℕ) (run : List WireEvent) : Type 0 where
  pub sender : SentPackets
  pub asked : Transmit
  pub happened : Happened (transmits sender asked) run
  pub is_accepted : accepted sender asked ≡ true
  pub bytes_are : SentAs asked bytes

pub record WireFirst (d : Datagram) (run : List WireEvent) : Type 0 where
  pub sender : SentPackets
  pub asked : Transmit
  pub happened : Happened (transmits sender asked) run
  pub is_accepted : accepted sender asked ≡ true
  pub was_first : is_first sender asked ≡ true
  pub carries : carried asked ≡ d

-- An acknowledgement that was built, whose bytes these are.
pub record WireBuilt (bytes : List ℕ) (run : List WireEvent) : Type 0 where
  pub receiver : ReceiveBuffer
  pub buffer : List ℕ
  pub room : List ℕ
  pub acknowledgement : Acknowledgement
  pub happened : Happened (builds receiver buffer room) run
  pub answers : Answers receiver room acknowledgement
  pub bytes_are : AckedAs acknowledgement bytes

-- The receiver and its buffer are those that its last call left.
abbrev pub OnWith : Start → ReceiveBuffer → List ℕ → List WireEvent → Type 0
OnWith b s buf before = (s ≡ (receiver_after b (plain before)).state) × (buf ≡ (receiver_after b (plain before)).bytes)

-- ---- the premises, in the same words

pub record WirePremises (b : Start) (run : List WireEvent) : Type 0 where
  -- Two fresh ends, a tracker and a receiver, share an initial number.
  pub fresh : Fresh b
  -- A channel between them may lose, repeat, delay or reorder datagrams; it alters and invents none: what arrives at an end went out from the other, byte for byte.
  pub channel :
      (s : ReceiveBuffer) (buf bytes : List ℕ) (before : List WireEvent) → Happens (to_receiver s buf bytes) before run → Happened (sender_out bytes) before
  pub channel_back :
      (s : SentPackets) (bytes : List ℕ) (delay clock : ℕ) (before : List WireEvent) → Happens (to_sender s bytes delay clock) before run → Happened (receiver_out bytes) before
  -- A retransmission carries the payload first sent under its number.
  pub retransmission :
      (s : SentPackets) (x : Transmit) (before : List WireEvent) → Happens (transmits s x) before run
      → accepted s x ≡ true → is_first s x ≡ false → WireFirst (carried x) before
  -- Only accepted transmits go out.
  pub only_accepted : (bytes : List ℕ) (before : List WireEvent) → Happens (sender_out bytes) before run → WireSent bytes before
  -- Every acknowledgement the sender hears was built by that receiver earlier in the run, number and SACK at one moment: nothing else goes out from the receiver.
  pub built : (bytes : List ℕ) (before : List WireEvent) → Happens (receiver_out bytes) before run → WireBuilt bytes before
  -- Each end goes on from the state and buffer its own last call left, and nobody else touches them.
  pub transmit_goes_on : (s : SentPackets) (x : Transmit) (before : List WireEvent) → Happens (transmits s x) before run → s ≡ sender_after b (plain before)
  pub timeout_goes_on : (s : SentPackets) (before : List WireEvent) → Happens (times_out s) before run → s ≡ sender_after b (plain before)
  pub hearing_goes_on :
      (s : SentPackets) (bytes : List ℕ) (delay clock : ℕ) (before : List WireEvent) → Happens (to_sender s bytes delay clock) before run → s ≡ sender_after b (plain before)
  pub read_goes_on : (s : ReceiveBuffer) (buf out : List ℕ) (before : List WireEvent) → Happens (reads s buf out) before run → OnWith b s buf before
  pub build_goes_on : (s : ReceiveBuffer) (buf room : List ℕ) (before : List WireEvent) → Happens (builds s buf room) before run → OnWith b s buf before
  pub arrival_goes_on : (s : ReceiveBuffer) (buf bytes : List ℕ) (before : List WireEvent) → Happens (to_receiver s buf bytes) before run → OnWith b s buf before
