-- A run of two ends and a channel, its premises, and what is then always so (demand 3). Definitions only; `delivered` of Laws.Theorem is the theorem.
-- Everything here is over the definitions that the promises of `sent` and `recv` use, so it holds of their code.
use Rattle.std.specs.Prelude.{ℕ, ◌-◌, ◌^◌, ◌≤◌, ◌<◌, Bool, true, false, ◌&&◌, not, cond, List, [], ◌∷◌, ◌++◌, map, ◌≡◌, ◌⊎◌, leb, length, take, get_or, replicate}
use Rattle.std.proofs.Math.Option.{none, some}
use Rattle.common.specs.Answer.{Answer, done, refused}
use Rattle.seq.specs.declared.SeqNum.{SeqNum}
use Rattle.packet.specs.declared.kind.PacketType.{PacketType}
use Rattle.congestion.specs.declared.settings.Settings.{Settings}
use Rattle.sent.specs.declared.state.SentPackets.{SentPackets}
use Rattle.outgoing.specs.Tracker.{Tracker, gone_of, offset_in}
use Rattle.outgoing.specs.Loss.{is_unacked}
use Rattle.sent.specs.State.{tracker_of, transmit_answer, ack_answer, timeout_answer, new_answer}
use Rattle.outgoing.specs.declared.kept.Packet.{Packet}
use Rattle.recv.specs.declared.ReceiveBuffer.{ReceiveBuffer}
use Rattle.recv.specs.declared.Creation.TheVariants.{Made}
use Rattle.recv.specs.declared.Told.TheVariants.{Is}
use Rattle.recv.specs.State.{created_of, told_of, ack_of}
use Rattle.recv.specs.Calls.{receiver_of, acked_of, acked_room_of}
use Rattle.recv.specs.Runs as Recv

-- ---- what goes between the ends

pub record Datagram : Type 0 where
  pub number : SeqNum
  pub payload : List ℕ

-- An acknowledgement: a number and the bytes of a SACK, none for no SACK.
pub record Acknowledgement : Type 0 where
  pub number : SeqNum
  pub mask : List ℕ

-- ---- what happens: a call at an end, on the state (and the buffer) that it is made with, or a datagram goes out

-- A transmit as the sender asks for it, beside the payload that it stands for.
pub record Transmit : Type 0 where
  pub number : SeqNum
  pub type : PacketType
  pub tag : ℕ
  pub len : ℕ
  pub clock : ℕ
  pub payload : List ℕ

-- An ack is heard with a delay, at a time.
pub data SenderCall : Type 0 where
  transmit : Transmit → SenderCall
  hear : Acknowledgement → ℕ → ℕ → SenderCall
  time_out : SenderCall

-- A datagram is written; bytes are read into a room; an acknowledgement is built, its SACK in a room.
pub data ReceiverCall : Type 0 where
  write : Datagram → ReceiverCall
  read : List ℕ → ReceiverCall
  build : List ℕ → ReceiverCall

pub data Event : Type 0 where
  at_sender : SentPackets → SenderCall → Event
  at_receiver : ReceiveBuffer → List ℕ → ReceiverCall → Event
  goes_out : Datagram → Event

-- The two ends at the start, and the receiver's buffer.
pub record Start : Type 0 where
  pub sender : SentPackets
  pub receiver : ReceiveBuffer
  pub buffer : List ℕ

-- What a call leaves of the sender.
abbrev pub sender_left : SentPackets → SenderCall → SentPackets
sender_left s (transmit x) = (transmit_answer s x.number x.type x.tag x.len x.clock).1
sender_left s (hear a delay clock) = (ack_answer s a.number a.mask delay clock).1
sender_left s time_out = (timeout_answer s).1

-- What a call leaves of the receiver and its buffer, with what was stored and what was read so far. To build an acknowledgement changes nothing.
abbrev pub receiver_left : Recv.Run → ReceiverCall → Recv.Run
receiver_left r (write d) = Recv.step_of r (Recv.write d.number d.payload)
receiver_left r (read out) = Recv.step_of r (Recv.read out)
receiver_left r (build room) = r

-- A run is a list of events, the newest first. What the sender's last call left:
unfoldable pub sender_after : Start → List Event → SentPackets
sender_after b [] = b.sender
sender_after b (at_sender s call ∷ before) = sender_left s call
sender_after b (at_receiver s buf call ∷ before) = sender_after b before
sender_after b (goes_out d ∷ before) = sender_after b before

-- What the receiver's last call left.
unfoldable pub receiver_after : Start → List Event → Recv.Run
receiver_after b [] = record { state = b.receiver; bytes = b.buffer; stored = []; read = [] }
receiver_after b (at_receiver s buf call ∷ before) =
    receiver_left (record { state = s; bytes = buf; stored = (receiver_after b before).stored; read = (receiver_after b before).read }) call
receiver_after b (at_sender s call ∷ before) = receiver_after b before
receiver_after b (goes_out d ∷ before) = receiver_after b before

-- ---- accepted transmits, and the payloads that were sent

abbrev pub is_done : {A : Type 0} → Answer A → Bool
is_done (done a) = true
is_done (refused n) = false

abbrev pub accepted : SentPackets → Transmit → Bool
accepted s x = is_done (transmit_answer s x.number x.type x.tag x.len x.clock).0

-- A first transmit: its number is past all that were sent; else it is a retransmission.
abbrev pub is_first : SentPackets → Transmit → Bool
is_first s x = not (leb (offset_in (tracker_of s) x.number) (tracker_of s).sent)

abbrev pub payloads_with : List (List ℕ) → SentPackets → SenderCall → List (List ℕ)
payloads_with ps s (transmit x) = cond (accepted s x && is_first s x) (ps ++ x.payload ∷ []) ps
payloads_with ps s (hear a delay clock) = ps
payloads_with ps s time_out = ps

-- The payloads first sent, in the order of their offsets.
unfoldable pub payloads : List Event → List (List ℕ)
payloads [] = []
payloads (at_sender s call ∷ before) = payloads_with (payloads before) s call
payloads (at_receiver s buf call ∷ before) = payloads before
payloads (goes_out d ∷ before) = payloads before

-- ---- what happened in a run

-- The event happens in the run, with these before it.
unfoldable pub Happens : {A : Type 0} → A → List A → List A → Type 0
Happens e before [] = ⊥
Happens e before (x ∷ run) = ((x ≡ e) × (run ≡ before)) ⊎ Happens e before run

-- The event is one of the run's.
unfoldable pub Happened : {A : Type 0} → A → List A → Type 0
Happened e [] = ⊥
Happened e (x ∷ run) = (x ≡ e) ⊎ Happened e run

abbrev pub carried : Transmit → Datagram
carried x = record { number = x.number; payload = x.payload }

-- A transmit of this datagram was accepted.
pub record Sent (d : Datagram) (run : List Event) : Type 0 where
  pub sender : SentPackets
  pub asked : Transmit
  pub happened : Happened (at_sender sender (transmit asked)) run
  pub is_accepted : accepted sender asked ≡ true
  pub carries : carried asked ≡ d

-- It was a first one.
pub record FirstSent (d : Datagram) (run : List Event) : Type 0 where
  pub sent : Sent d run
  pub was_first : is_first sent.sender sent.asked ≡ true

-- The receiver's calls on this state and this room answer this number and these bytes.
pub record Answers (s : ReceiveBuffer) (room : List ℕ) (a : Acknowledgement) : Type 0 where
  pub number_told : told_of s (ack_of s) ≡ Is a.number
  pub size : ℕ
  pub size_told : acked_of s (length room) ≡ Is size
  pub bytes_told : take size (acked_room_of s room) ≡ a.mask

-- This acknowledgement was built, number and SACK at one moment.
pub record Built (a : Acknowledgement) (run : List Event) : Type 0 where
  pub receiver : ReceiveBuffer
  pub buffer : List ℕ
  pub room : List ℕ
  pub happened : Happened (at_receiver receiver buffer (build room)) run
  pub answers : Answers receiver room a

-- ---- the premises

-- A sender made with this initial number, and a receiver made with it, for a buffer of any length.
pub record FreshSender (initial : SeqNum) (s : SentPackets) : Type 0 where
  pub settings : Settings
  pub made : new_answer initial settings ≡ (done tt, s)

pub record FreshReceiver (initial : SeqNum) (s : ReceiveBuffer) : Type 0 where
  pub size : ℕ
  pub made : created_of initial size ≡ record { answer = Made; state = s }

-- The initial number is a `u16`.
pub record Fresh (b : Start) : Type 0 where
  pub initial : SeqNum
  pub fits : initial.0 < 2 ^ 16
  pub sender : FreshSender initial b.sender
  pub receiver : FreshReceiver initial b.receiver

abbrev pub Channel : List Event → Type 0
Channel run =
    (s : ReceiveBuffer) (buf : List ℕ) (d : Datagram) (before : List Event) → Happens (at_receiver s buf (write d)) before run → Happened (goes_out d) before

abbrev pub SamePayload : List Event → Type 0
SamePayload run =
    (s : SentPackets) (x : Transmit) (before : List Event) → Happens (at_sender s (transmit x)) before run
    → accepted s x ≡ true → is_first s x ≡ false → FirstSent (carried x) before

abbrev pub OnlyAccepted : List Event → Type 0
OnlyAccepted run = (d : Datagram) (before : List Event) → Happens (goes_out d) before run → Sent d before

abbrev pub BuiltEarlier : List Event → Type 0
BuiltEarlier run =
    (s : SentPackets) (a : Acknowledgement) (delay clock : ℕ) (before : List Event) → Happens (at_sender s (hear a delay clock)) before run → Built a before

abbrev pub SenderGoesOn : Start → List Event → Type 0
SenderGoesOn b run = (s : SentPackets) (call : SenderCall) (before : List Event) → Happens (at_sender s call) before run → s ≡ sender_after b before

abbrev pub ReceiverGoesOn : Start → List Event → Type 0
ReceiverGoesOn b run =
    (s : ReceiveBuffer) (buf : List ℕ) (call : ReceiverCall) (before : List Event) → Happens (at_receiver s buf call) before run → s ≡ (receiver_after b before).state

abbrev pub BufferGoesOn : Start → List Event → Type 0
BufferGoesOn b run =
    (s : ReceiveBuffer) (buf : List ℕ) (call : ReceiverCall) (before : List Event) → Happens (at_receiver s buf call) before run → buf ≡ (receiver_after b before).bytes

pub record Premises (b : Start) (run : List Event) : Type 0 where
  -- Two fresh ends, a tracker and a receiver, share an initial number.
  pub fresh : Fresh b
  -- A channel between them may lose, repeat, delay or reorder datagrams; it alters and invents none.
  pub channel : Channel run
  -- A retransmission carries the payload first sent under its number.
  pub retransmission : SamePayload run
  -- Only accepted transmits go out.
  pub only_accepted : OnlyAccepted run
  -- Every acknowledgement the sender hears was built by that receiver earlier in the run, number and SACK at one moment.
  pub built : BuiltEarlier run
  -- Each end goes on from the state and buffer its own last call left, and nobody else touches them.
  pub sender_goes_on : SenderGoesOn b run
  pub receiver_goes_on : ReceiverGoesOn b run
  pub buffer_goes_on : BufferGoesOn b run

-- ---- what is then always so

-- Payloads end to end.
abbrev pub joined_all : List (List ℕ) → List ℕ
joined_all [] = []
joined_all (p ∷ ps) = p ++ joined_all ps

-- Which of the n packets the sender holds as acknowledged, by offset from 1 on: those no longer kept, and those marked.
abbrev pub marks_of : Tracker → List Bool
marks_of t = replicate (gone_of t) true ++ map (λ (p : Packet). not (is_unacked p)) t.packets

abbrev pub held_acked : Tracker → ℕ → Bool
held_acked t o = get_or (marks_of t) (o - 1) false

-- Bytes read plus bytes ready.
abbrev pub stream_of : Recv.Run → List ℕ
stream_of r = r.read ++ (receiver_of r.state r.bytes).ready

-- The receiver has stored this payload under offset o: it was put in order, or it waits.
pub data Stored (r : Recv.Run) (o : ℕ) (payload : List ℕ) : Type 0 where
  in_order : o ≤ r.state.count → Recv.first_stored r.stored o ≡ some payload → Stored r o payload
  waiting : r.state.count < o → get_or (receiver_of r.state r.bytes).waiting (o - r.state.count - 1) none ≡ some payload → Stored r o payload

-- The sender holds all that was sent as acknowledged.
abbrev pub AllAcked : Tracker → Type 0
AllAcked t = (o : ℕ) → 1 ≤ o → o ≤ t.sent → held_acked t o ≡ true

pub record Delivered (b : Start) (run : List Event) : Type 0 where
  -- bytes read plus bytes ready are exactly the first k payloads in order, k being the receiver's in-order count;
  pub first_k : stream_of (receiver_after b run) ≡ joined_all (take (receiver_after b run).state.count (payloads run))
  pub among_sent : (receiver_after b run).state.count ≤ length (payloads run)
  -- whatever the sender holds as acknowledged, the receiver has stored, and it is what was first sent under that offset;
  pub acknowledged_stored :
      (o : ℕ) → 1 ≤ o → held_acked (tracker_of (sender_after b run)) o ≡ true → Stored (receiver_after b run) o (get_or (payloads run) (o - 1) [])
  -- when nothing sent is unacknowledged, the receiver's stream is all that was sent.
  pub all_arrived : AllAcked (tracker_of (sender_after b run)) → stream_of (receiver_after b run) ≡ joined_all (payloads run)
