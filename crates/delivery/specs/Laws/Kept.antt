-- How the premises are kept as a run grows by an event: what each asks of that event and of what was before it. A concrete run is shown to keep them so.
use Rattle.std.specs.Prelude.{ℕ, zero, suc, Bool, true, false, ◌&&◌, not, List, [], ◌∷◌, ◌≡◌, refl, eqb}
use Rattle.std.proofs.Common.{arith, inl, inr, ◌∙◌, ap, sym, subst, subst₂, eq-eqb}
use Rattle.std.proofs.Math.Option.{Option, none, some}
use Rattle.sent.specs.declared.state.SentPackets.{SentPackets}
use Rattle.recv.specs.declared.ReceiveBuffer.{ReceiveBuffer}
use Rattle.delivery.specs.Run.{Datagram, Acknowledgement, Transmit, SenderCall, transmit, hear, time_out, ReceiverCall, write, read, build, Event, at_sender, at_receiver, goes_out, Start, sender_after, receiver_after, accepted, is_first, Happens, Happened, carried, Sent, FirstSent, Built, Fresh, Channel, SamePayload, OnlyAccepted, BuiltEarlier, SenderGoesOn, ReceiverGoesOn, BufferGoesOn, Premises}

-- ---- something that holds of every event and what was before it

abbrev pub Along : {A : Type 0} → (A → List A → Type 0) → List A → Type 0
Along {A} Q run = (e : A) (before : List A) → Happens e before run → Q e before

pub along_none : {A : Type 0} (Q : A → List A → Type 0) → Along Q []
unfolding Happens
along_none Q e before h = absurd h

pub along_more : {A : Type 0} (Q : A → List A → Type 0) (x : A) (run : List A) → Q x run → Along Q run → Along Q (x ∷ run)
unfolding Happens
along_more Q x run here rest e before (inl k) = subst₂ Q k.0 k.1 here
along_more Q x run here rest e before (inr h) = rest e before h

-- ---- kinds of events

abbrev sender_kind : SenderCall → ℕ
sender_kind (transmit x) = 0
sender_kind (hear a delay clock) = 1
sender_kind time_out = 2

abbrev receiver_kind : ReceiverCall → ℕ
receiver_kind (write d) = 3
receiver_kind (read out) = 4
receiver_kind (build room) = 5

abbrev pub kind_of : Event → ℕ
kind_of (at_sender s call) = sender_kind call
kind_of (at_receiver s buf call) = receiver_kind call
kind_of (goes_out d) = 6

-- No event of the run is of this kind.
abbrev pub none_of : ℕ → List Event → Bool
none_of k [] = true
none_of k (e ∷ run) = not (eqb (kind_of e) k) && none_of k run

-- What is asked of one kind of event holds of a run that has none of them.
pub along_quiet : (Q : Event → List Event → Type 0) (k : ℕ) → ((e : Event) (before : List Event) → eqb (kind_of e) k ≡ false → Q e before) → (run : List Event) → none_of k run ≡ true → Along Q run
along_quiet Q k other [] h = along_none Q
along_quiet Q k other (x ∷ run) h = by_kind (eqb (kind_of x) k) refl h (along_quiet Q k other run)
  where
    by_kind : (b : Bool) → eqb (kind_of x) k ≡ b → (not b && none_of k run) ≡ true → (none_of k run ≡ true → Along Q run) → Along Q (x ∷ run)
    by_kind true e f rest = let z : ◌≡◌ {A = ℕ} 0 1 = cc in absurd (omega arith)
    by_kind false e f rest = along_more Q x run (other x run e) (rest f)

clash : (k : ℕ) (x y : Event) → eqb (kind_of x) k ≡ false → kind_of y ≡ k → x ≡ y → ⊥
clash k x y other is same =
    let known : eqb (kind_of x) k ≡ true = eq-eqb _ _ (ap kind_of same ∙ is) in
    let z : ◌≡◌ {A = ℕ} 0 1 = cc in
    omega arith

-- ---- what each premise asks of one event: of another kind nothing, of its own kind what it says

abbrev pub ChannelAt : Event → List Event → Type 0
ChannelAt e before = (s : ReceiveBuffer) (buf : List ℕ) (d : Datagram) → e ≡ at_receiver s buf (write d) → Happened (goes_out d) before

pub channel_other : (e : Event) (before : List Event) → eqb (kind_of e) 3 ≡ false → ChannelAt e before
channel_other e before other s buf d same = absurd (clash 3 e (at_receiver s buf (write d)) other refl same)

pub channel_write : (s : ReceiveBuffer) (buf : List ℕ) (d : Datagram) (before : List Event) → Happened (goes_out d) before → ChannelAt (at_receiver s buf (write d)) before
channel_write s buf d before h s' buf' d' same = let is : d ≡ d' = cc in subst (λ (y : Datagram). Happened (goes_out y) before) is h

pub channel_kept : (run : List Event) → Along ChannelAt run → Channel run
channel_kept run along s buf d before h = along (at_receiver s buf (write d)) before h s buf d refl

abbrev pub SamePayloadAt : Event → List Event → Type 0
SamePayloadAt e before =
    (s : SentPackets) (x : Transmit) → e ≡ at_sender s (transmit x) → accepted s x ≡ true → is_first s x ≡ false → FirstSent (carried x) before

pub same_other : (e : Event) (before : List Event) → eqb (kind_of e) 0 ≡ false → SamePayloadAt e before
same_other e before other s x same = absurd (clash 0 e (at_sender s (transmit x)) other refl same)

pub same_transmit :
    (s : SentPackets) (x : Transmit) (before : List Event) → (accepted s x ≡ true → is_first s x ≡ false → FirstSent (carried x) before) → SamePayloadAt (at_sender s (transmit x)) before
same_transmit s x before h s' x' same =
    let states : s ≡ s' = cc in
    let asked : x ≡ x' = cc in
    subst₂ (λ (q : SentPackets) (y : Transmit). accepted q y ≡ true → is_first q y ≡ false → FirstSent (carried y) before) states asked h

pub same_kept : (run : List Event) → Along SamePayloadAt run → SamePayload run
same_kept run along s x before h = along (at_sender s (transmit x)) before h s x refl

abbrev pub OnlyAcceptedAt : Event → List Event → Type 0
OnlyAcceptedAt e before = (d : Datagram) → e ≡ goes_out d → Sent d before

pub accepted-other : (e : Event) (before : List Event) → eqb (kind_of e) 6 ≡ false → OnlyAcceptedAt e before
accepted-other e before other d same = absurd (clash 6 e (goes_out d) other refl same)

pub accepted_out : (d : Datagram) (before : List Event) → Sent d before → OnlyAcceptedAt (goes_out d) before
accepted_out d before h d' same = let is : d ≡ d' = cc in subst (λ (y : Datagram). Sent y before) is h

pub accepted_kept : (run : List Event) → Along OnlyAcceptedAt run → OnlyAccepted run
accepted_kept run along d before h = along (goes_out d) before h d refl

abbrev pub BuiltAt : Event → List Event → Type 0
BuiltAt e before = (s : SentPackets) (a : Acknowledgement) (delay clock : ℕ) → e ≡ at_sender s (hear a delay clock) → Built a before

pub built_other : (e : Event) (before : List Event) → eqb (kind_of e) 1 ≡ false → BuiltAt e before
built_other e before other s a delay clock same = absurd (clash 1 e (at_sender s (hear a delay clock)) other refl same)

pub built_hear : (s : SentPackets) (a : Acknowledgement) (delay clock : ℕ) (before : List Event) → Built a before → BuiltAt (at_sender s (hear a delay clock)) before
built_hear s a delay clock before h s' a' delay' clock' same = let is : a ≡ a' = cc in subst (λ (y : Acknowledgement). Built y before) is h

pub built_kept : (run : List Event) → Along BuiltAt run → BuiltEarlier run
built_kept run along s a delay clock before h = along (at_sender s (hear a delay clock)) before h s a delay clock refl

-- ---- each end goes on

-- Is it a call of the sender, of the receiver?
abbrev pub of_sender : Event → Bool
of_sender (at_sender s call) = true
of_sender (at_receiver s buf call) = false
of_sender (goes_out d) = false

abbrev pub of_receiver : Event → Bool
of_receiver (at_sender s call) = false
of_receiver (at_receiver s buf call) = true
of_receiver (goes_out d) = false

abbrev pub SenderAt : Start → Event → List Event → Type 0
SenderAt b e before = (s : SentPackets) (call : SenderCall) → e ≡ at_sender s call → s ≡ sender_after b before

pub sender-other : (b : Start) (e : Event) (before : List Event) → of_sender e ≡ false → SenderAt b e before
sender-other b e before other s call same =
    let known : of_sender e ≡ true = ap of_sender same in
    let z : ◌≡◌ {A = ℕ} 0 1 = cc in
    absurd (omega arith)

pub sender_call : (b : Start) (s : SentPackets) (call : SenderCall) (before : List Event) → s ≡ sender_after b before → SenderAt b (at_sender s call) before
sender_call b s call before h s' call' same = let is : s ≡ s' = cc in sym is ∙ h

pub sender_kept : (b : Start) (run : List Event) → Along (SenderAt b) run → SenderGoesOn b run
sender_kept b run along s call before h = along (at_sender s call) before h s call refl

abbrev pub ReceiverAt : Start → Event → List Event → Type 0
ReceiverAt b e before = (s : ReceiveBuffer) (buf : List ℕ) (call : ReceiverCall) → e ≡ at_receiver s buf call → s ≡ (receiver_after b before).state

abbrev pub BufferAt : Start → Event → List Event → Type 0
BufferAt b e before = (s : ReceiveBuffer) (buf : List ℕ) (call : ReceiverCall) → e ≡ at_receiver s buf call → buf ≡ (receiver_after b before).bytes

no_receiver : (e : Event) (s : ReceiveBuffer) (buf : List ℕ) (call : ReceiverCall) → of_receiver e ≡ false → e ≡ at_receiver s buf call → ⊥
no_receiver e s buf call other same =
    let known : of_receiver e ≡ true = ap of_receiver same in
    let z : ◌≡◌ {A = ℕ} 0 1 = cc in
    omega arith

pub receiver-other : (b : Start) (e : Event) (before : List Event) → of_receiver e ≡ false → ReceiverAt b e before
receiver-other b e before other s buf call same = absurd (no_receiver e s buf call other same)

pub buffer_other : (b : Start) (e : Event) (before : List Event) → of_receiver e ≡ false → BufferAt b e before
buffer_other b e before other s buf call same = absurd (no_receiver e s buf call other same)

pub receiver_call : (b : Start) (s : ReceiveBuffer) (buf : List ℕ) (call : ReceiverCall) (before : List Event) → s ≡ (receiver_after b before).state → ReceiverAt b (at_receiver s buf call) before
receiver_call b s buf call before h s' buf' call' same = let is : s ≡ s' = cc in sym is ∙ h

pub buffer_call : (b : Start) (s : ReceiveBuffer) (buf : List ℕ) (call : ReceiverCall) (before : List Event) → buf ≡ (receiver_after b before).bytes → BufferAt b (at_receiver s buf call) before
buffer_call b s buf call before h s' buf' call' same = let is : buf ≡ buf' = cc in sym is ∙ h

pub receiver_kept : (b : Start) (run : List Event) → Along (ReceiverAt b) run → ReceiverGoesOn b run
receiver_kept b run along s buf call before h = along (at_receiver s buf call) before h s buf call refl

pub buffer_kept : (b : Start) (run : List Event) → Along (BufferAt b) run → BufferGoesOn b run
buffer_kept b run along s buf call before h = along (at_receiver s buf call) before h s buf call refl

-- ---- an event at a place of a run, the newest at 0

abbrev pub event_at : {A : Type 0} → List A → ℕ → Option A
event_at [] i = none
event_at (e ∷ run) zero = some e
event_at (e ∷ run) (suc i) = event_at run i

pub happened_at : {A : Type 0} (e : A) (run : List A) (i : ℕ) → event_at run i ≡ some e → Happened e run
unfolding Happened
happened_at e [] i h = let z : ◌≡◌ {A = ℕ} 0 1 = cc in absurd (omega arith)
happened_at e (x ∷ run) zero h = inl (cc)
happened_at e (x ∷ run) (suc i) h = inr (happened_at e run i h)

-- ---- all of them, as a run grows

pub record Keeps (b : Start) (run : List Event) : Type 0 where
  pub channel : Along ChannelAt run
  pub same : Along SamePayloadAt run
  pub accepted : Along OnlyAcceptedAt run
  pub built : Along BuiltAt run
  pub sender : Along (SenderAt b) run
  pub receiver : Along (ReceiverAt b) run
  pub buffer : Along (BufferAt b) run

pub keeps_none : (b : Start) → Keeps b []
keeps_none b =
    record {
      channel = along_none _;
      same = along_none _;
      accepted = along_none _;
      built = along_none _;
      sender = along_none _;
      receiver = along_none _;
      buffer = along_none _;
    }

pub premises_kept : (b : Start) (run : List Event) → Fresh b → Keeps b run → Premises b run
premises_kept b run fresh k =
    record {
      fresh = fresh;
      channel = channel_kept run k.channel;
      retransmission = same_kept run k.same;
      only_accepted = accepted_kept run k.accepted;
      built = built_kept run k.built;
      sender_goes_on = sender_kept b run k.sender;
      receiver_goes_on = receiver_kept b run k.receiver;
      buffer_goes_on = buffer_kept b run k.buffer;
    }

module _ (b : Start) (run : List Event) (k : Keeps b run) where
  -- A call of the sender on what its last call left.
  keeps_sender :
      (call : SenderCall)
      → SamePayloadAt (at_sender (sender_after b run) call) run
      → BuiltAt (at_sender (sender_after b run) call) run
      → Keeps b (at_sender (sender_after b run) call ∷ run)
  keeps_sender call same built =
      let e = at_sender (sender_after b run) call in
      record {
        channel = along_more ChannelAt e run (λ s buf d q. absurd (no_receiver e s buf (write d) refl q)) k.channel;
        same = along_more SamePayloadAt e run same k.same;
        accepted = along_more OnlyAcceptedAt e run (λ d q. let z : ◌≡◌ {A = ℕ} 0 1 = cc in absurd (omega arith)) k.accepted;
        built = along_more BuiltAt e run built k.built;
        sender = along_more (SenderAt b) e run (sender_call b (sender_after b run) call run refl) k.sender;
        receiver = along_more (ReceiverAt b) e run (receiver-other b e run refl) k.receiver;
        buffer = along_more (BufferAt b) e run (buffer_other b e run refl) k.buffer;
      }

  -- A transmit, which carries what was first sent if it is a retransmission; a first one; a retransmission; an acknowledgement that was built; a timeout.
  pub keeps_transmit :
      (x : Transmit) → (accepted (sender_after b run) x ≡ true → is_first (sender_after b run) x ≡ false → FirstSent (carried x) run) → Keeps b (at_sender (sender_after b run) (transmit x) ∷ run)
  keeps_transmit x same = keeps_sender (transmit x) (same_transmit (sender_after b run) x run same) (built_other (at_sender (sender_after b run) (transmit x)) run refl)

  pub keeps_first : (x : Transmit) → is_first (sender_after b run) x ≡ true → Keeps b (at_sender (sender_after b run) (transmit x) ∷ run)
  keeps_first x is = keeps_transmit x (λ a f. let z : ◌≡◌ {A = ℕ} 0 1 = cc in absurd (omega arith))

  pub keeps_again : (x : Transmit) → FirstSent (carried x) run → Keeps b (at_sender (sender_after b run) (transmit x) ∷ run)
  keeps_again x was = keeps_transmit x (λ a f. was)

  pub keeps_hear : (a : Acknowledgement) (delay clock : ℕ) → Built a run → Keeps b (at_sender (sender_after b run) (hear a delay clock) ∷ run)
  keeps_hear a delay clock was =
      keeps_sender (hear a delay clock) (same_other (at_sender (sender_after b run) (hear a delay clock)) run refl) (built_hear (sender_after b run) a delay clock run was)

  pub keeps_time_out : Keeps b (at_sender (sender_after b run) time_out ∷ run)
  keeps_time_out = keeps_sender time_out (same_other (at_sender (sender_after b run) time_out) run refl) (built_other (at_sender (sender_after b run) time_out) run refl)

  -- A call of the receiver on what its last call left.
  keeps_receiver :
      (call : ReceiverCall)
      → ChannelAt (at_receiver (receiver_after b run).state (receiver_after b run).bytes call) run
      → Keeps b (at_receiver (receiver_after b run).state (receiver_after b run).bytes call ∷ run)
  keeps_receiver call came =
      let s = (receiver_after b run).state in
      let buf = (receiver_after b run).bytes in
      let e = at_receiver s buf call in
      record {
        channel = along_more ChannelAt e run came k.channel;
        same = along_more SamePayloadAt e run (λ q x is. let z : ◌≡◌ {A = ℕ} 0 1 = cc in absurd (omega arith)) k.same;
        accepted = along_more OnlyAcceptedAt e run (λ d q. let z : ◌≡◌ {A = ℕ} 0 1 = cc in absurd (omega arith)) k.accepted;
        built = along_more BuiltAt e run (λ q a delay clock is. let z : ◌≡◌ {A = ℕ} 0 1 = cc in absurd (omega arith)) k.built;
        sender = along_more (SenderAt b) e run (sender-other b e run refl) k.sender;
        receiver = along_more (ReceiverAt b) e run (receiver_call b s buf call run refl) k.receiver;
        buffer = along_more (BufferAt b) e run (buffer_call b s buf call run refl) k.buffer;
      }

  pub keeps_write : (d : Datagram) → Happened (goes_out d) run → Keeps b (at_receiver (receiver_after b run).state (receiver_after b run).bytes (write d) ∷ run)
  keeps_write d was = keeps_receiver (write d) (channel_write (receiver_after b run).state (receiver_after b run).bytes d run was)

  pub keeps_read : (out : List ℕ) → Keeps b (at_receiver (receiver_after b run).state (receiver_after b run).bytes (read out) ∷ run)
  keeps_read out = keeps_receiver (read out) (channel_other (at_receiver (receiver_after b run).state (receiver_after b run).bytes (read out)) run refl)

  pub keeps_build : (room : List ℕ) → Keeps b (at_receiver (receiver_after b run).state (receiver_after b run).bytes (build room) ∷ run)
  keeps_build room = keeps_receiver (build room) (channel_other (at_receiver (receiver_after b run).state (receiver_after b run).bytes (build room)) run refl)

  -- A datagram of an accepted transmit goes out.
  pub keeps_out : (d : Datagram) → Sent d run → Keeps b (goes_out d ∷ run)
  keeps_out d was =
      let e = goes_out d in
      record {
        channel = along_more ChannelAt e run (channel_other e run refl) k.channel;
        same = along_more SamePayloadAt e run (same_other e run refl) k.same;
        accepted = along_more OnlyAcceptedAt e run (accepted_out d run was) k.accepted;
        built = along_more BuiltAt e run (built_other e run refl) k.built;
        sender = along_more (SenderAt b) e run (sender-other b e run refl) k.sender;
        receiver = along_more (ReceiverAt b) e run (receiver-other b e run refl) k.receiver;
        buffer = along_more (BufferAt b) e run (buffer_other b e run refl) k.buffer;
      }
