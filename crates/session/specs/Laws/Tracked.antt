-- A sound tracker in the state answers an event as the document's tracker does, stays sound, and never answers 19.
use Rattle.std.specs.Prelude.{ℕ, ◌%◌, Bool, true, false, ◌&&◌, cond, List, ◌≡◌, leb, ltb, eqb, length, drop}
use Rattle.std.proofs.Common.{arith, ap, ◌∙◌}
use Rattle.std.proofs.Math.Seq.{take-append_seam}
use Rattle.common.specs.Answer.{Answer, done, refused, ◌then◌}
use Rattle.seq.specs.declared.SeqNum.{SeqNum}
use Rattle.packet.specs.declared.kind.PacketType.{PacketType}
use Rattle.packet.specs.Sack.{mask_answer}
use Rattle.packet.specs.Kind.{type_of}
use Rattle.outgoing.specs.declared.kept.Packet.{Packet}
use Rattle.sent.specs.declared.state.SentPackets.{SentPackets}
use Rattle.congestion.specs.declared.numbers.Numbers.{Numbers}
use Rattle.congestion.specs.Settings.{latest}
use Rattle.congestion.specs.Numbers.{free_of}
use Rattle.outgoing.specs.Tracker.{Tracker, places, most_sent, offset_in, clocked_of, clock_answer}
use Rattle.outgoing.specs.Transmit.{may_transmit, room_answer, transmit_check, first_sent, sent_of, transmit_of}
use Rattle.outgoing.specs.Ack.{delay_answer, may_ack, ack_check, marked_of, released_of, ack_of}
use Rattle.outgoing.specs.Sound.{timeout_of}
use Rattle.sent.specs.State.{tracker_of, written_of, answered_of, answered_as, transmit_answer, ack_state_of, ack_answer, timeout_answer}
use Rattle.sent.specs.Laws.Sound.{sound_answered}
use Rattle.sent.specs.Laws.Reached.{Reached, transmit, ack, timeout, reached_sound}
use Rattle.session.specs.declared.event.Event.{Event}
use Rattle.session.specs.Format.{is_transmit, is_ack}
use Rattle.session.specs.Lines.{seq, number_of, tracker_after, event_answer}
use Rattle.session.specs.Replay.{event_state}

-- ---- never 19

abbrev Not19 : {A : Type 0} → Answer A → Type 0
Not19 (done a) = Unit {0}
Not19 (refused n) = n ≡ 19 → ⊥

not_then : {A B : Type 0} (a : Answer A) (b : Answer B) → Not19 a → Not19 b → Not19 (a then b)
not_then (done x) b h k = k
not_then (refused n) b h k = h

not_cond : {A : Type 0} (t : Bool) (a b : Answer A) → Not19 a → Not19 b → Not19 (cond t a b)
not_cond true a b h k = h
not_cond false a b h k = k

pub number_not_19 : {A : Type 0} (a : Answer A) → Not19 a → number_of a ≡ 19 → ⊥
number_not_19 (done x) h e = omega (arith, e)
number_not_19 (refused n) h e = h e

clock_not : (last clock : ℕ) → Not19 (clock_answer last clock)
clock_not last clock = not_cond (leb clock latest && leb last clock) (done tt) (refused 11) tt (λ e. omega (arith, e))

room_not : (numbers : Numbers) (n kept len : ℕ) → Not19 (room_answer numbers n kept len)
room_not numbers n kept len =
    let third : Answer (Unit {0}) = cond (leb places kept) (refused 14) (done tt) in
    let second : Answer (Unit {0}) = cond (ltb (free_of numbers) len) (refused 13) third in
    not_cond (leb most_sent n) (refused 15) second (λ e. omega (arith, e))
    (not_cond (ltb (free_of numbers) len) (refused 13) third (λ e. omega (arith, e)) (not_cond (leb places kept) (refused 14) (done tt) (λ e. omega (arith, e)) tt))

transmit_not : (t : Tracker) (number : SeqNum) (type : PacketType) (tag len clock : ℕ) → Not19 (transmit_of t number type tag len clock)
unfolding transmit_of transmit_check
transmit_not t number type tag len clock =
    let o = offset_in t number in
    let n = t.sent in
    let room = room_answer t.numbers n (length t.packets) len in
    let first : Answer (Unit {0}) = cond (leb o n) (done tt) room in
    let sent : Answer (Unit {0}) = cond (may_transmit n o) first (refused 12) in
    not_then (transmit_check t.numbers n (length t.packets) o len clock) (done (clocked_of (sent_of t o (first_sent type tag len clock)) clock))
    (not_then (clock_answer t.numbers.last clock) sent (clock_not t.numbers.last clock)
    (not_cond (may_transmit n o) first (refused 12) (not_cond (leb o n) (done tt) room tt (room_not t.numbers n (length t.packets) len)) (λ e. omega (arith, e)))) tt

mask_not : (n : ℕ) → Not19 (mask_answer n)
mask_not n =
    let third : Answer ℕ = cond (ltb 252 n) (refused 8) (done n) in
    let second : Answer ℕ = cond (eqb (n % 4) 0) third (refused 6) in
    let first : Answer ℕ = cond (ltb n 4) (refused 5) second in
    not_cond (eqb n 0) (done 0) first tt
    (not_cond (ltb n 4) (refused 5) second (λ e. omega (arith, e))
    (not_cond (eqb (n % 4) 0) third (refused 6) (not_cond (ltb 252 n) (refused 8) (done n) (λ e. omega (arith, e)) tt) (λ e. omega (arith, e))))

ack_check_not : (last n o bytes delay clock : ℕ) → Not19 (ack_check last n o bytes delay clock)
unfolding ack_check
ack_check_not last n o bytes delay clock =
    let sent : Answer (Unit {0}) = cond (may_ack n o) (done tt) (refused 12) in
    not_then (clock_answer last clock) (delay_answer delay then (mask_answer bytes then sent)) (clock_not last clock)
    (not_then (delay_answer delay) (mask_answer bytes then sent) (not_cond (leb delay latest) (done tt) (refused 11) tt (λ e. omega (arith, e)))
    (not_then (mask_answer bytes) sent (mask_not bytes) (not_cond (may_ack n o) (done tt) (refused 12) tt (λ e. omega (arith, e)))))

-- ---- the state's tracker

written_back : (s : SentPackets) (t : Tracker) → tracker_of (written_of s t) ≡ t
written_back s t =
    ap (λ (l : List Packet). record { initial = t.initial; sent = t.sent; packets = l; numbers = t.numbers; delays = t.delays })
    (take-append_seam t.packets (drop (length t.packets) s.packets))

-- The state's answer is the tracker's.
pub record Tracks (t : Tracker) (a : Answer Tracker) (p : Answer (Unit {0}) × SentPackets) : Type 0 where
  pub number : number_of p.0 ≡ number_of a
  pub tracker : tracker_of p.1 ≡ tracker_after t a
  pub not_19 : number_of a ≡ 19 → ⊥
  pub reached : Reached p.1

answered_tracks : (s : SentPackets) (a : Answer Tracker) → Not19 a → (p : Answer (Unit {0}) × SentPackets) → p ≡ answered_of s a → Reached p.1 → Tracks (tracker_of s) a p
answered_tracks s (done u) n p e r =
    record {
      number = ap (λ (x : Answer (Unit {0}) × SentPackets). number_of x.0) e;
      tracker = ap (λ (x : Answer (Unit {0}) × SentPackets). tracker_of x.1) e ∙ written_back s u;
      not_19 = number_not_19 (done u) n;
      reached = r;
    }
answered_tracks s (refused k) n p e r =
    record {
      number = ap (λ (x : Answer (Unit {0}) × SentPackets). number_of x.0) e;
      tracker = ap (λ (x : Answer (Unit {0}) × SentPackets). tracker_of x.1) e;
      not_19 = n;
      reached = r;
    }

transmit_tracks : (s : SentPackets) (number : SeqNum) (type : PacketType) (tag len clock : ℕ) → Reached s
    → Tracks (tracker_of s) (transmit_of (tracker_of s) number type tag len clock) (transmit_answer s number type tag len clock)
unfolding transmit_answer
transmit_tracks s number type tag len clock r =
    let a = transmit_of (tracker_of s) number type tag len clock in
    answered_tracks s a (transmit_not (tracker_of s) number type tag len clock) (transmit_answer s number type tag len clock) (ap (answered_of s) (sound_answered s a (reached_sound r)))
    (transmit number type tag len clock r)

timeout_tracks : (s : SentPackets) → Reached s → Tracks (tracker_of s) (done (timeout_of (tracker_of s))) (timeout_answer s)
unfolding timeout_answer
timeout_tracks s r =
    answered_tracks s (done (timeout_of (tracker_of s))) tt (timeout_answer s) (ap (answered_of s) (sound_answered s (done (timeout_of (tracker_of s))) (reached_sound r))) (timeout r)

ack_tracks : (s : SentPackets) (number : SeqNum) (mask : List ℕ) (delay clock : ℕ) → Reached s
    → Tracks (tracker_of s) (ack_of (tracker_of s) number mask delay clock) (ack_answer s number mask delay clock)
unfolding ack_answer ack_of ack_state_of
ack_tracks s number mask delay clock r =
    let t = tracker_of s in
    let o = offset_in t number in
    by_check (ack_check t.numbers.last t.sent o (length mask) delay clock) (ack_check_not t.numbers.last t.sent o (length mask) delay clock)
    (ack_answer s number mask delay clock) (ap (answered_as s (ack_state_of s o mask delay clock)) (sound_answered s (ack_of t number mask delay clock) (reached_sound r))) (ack number mask delay clock r)
  where
    by_check : (a : Answer (Unit {0})) → Not19 a → (p : Answer (Unit {0}) × SentPackets)
        → p ≡ answered_as s (ack_state_of s (offset_in (tracker_of s) number) mask delay clock) (a then done (clocked_of (released_of (marked_of (tracker_of s) (offset_in (tracker_of s) number) mask delay clock)) clock))
        → Reached p.1
        → Tracks (tracker_of s) (a then done (clocked_of (released_of (marked_of (tracker_of s) (offset_in (tracker_of s) number) mask delay clock)) clock)) p
    by_check (done x) n p e q =
        let m = marked_of (tracker_of s) (offset_in (tracker_of s) number) mask delay clock in
        record {
          number = ap (λ (x : Answer (Unit {0}) × SentPackets). number_of x.0) e;
          tracker = ap (λ (x : Answer (Unit {0}) × SentPackets). tracker_of x.1) e ∙ written_back (written_of s m) (clocked_of (released_of m) clock);
          not_19 = λ h. omega (arith, h);
          reached = q;
        }
    by_check (refused k) n p e q =
        record {
          number = ap (λ (x : Answer (Unit {0}) × SentPackets). number_of x.0) e;
          tracker = ap (λ (x : Answer (Unit {0}) × SentPackets). tracker_of x.1) e;
          not_19 = n;
          reached = q;
        }

-- ---- every event

pub event_tracks : (s : SentPackets) (index : ℕ) (e : Event) (sack : List ℕ) → Reached s → Tracks (tracker_of s) (event_answer (tracker_of s) index e sack) (event_state s index e sack)
event_tracks s index e sack r = by_kind (is_transmit e) (is_ack e)
  where
    by_kind : (b c : Bool)
        → Tracks (tracker_of s)
        (cond b (transmit_of (tracker_of s) (seq e.number) (type_of e.packet_type) index e.size e.clock) (cond c (ack_of (tracker_of s) (seq e.number) sack e.delay e.clock) (done (timeout_of (tracker_of s)))))
        (cond b (transmit_answer s (seq e.number) (type_of e.packet_type) index e.size e.clock) (cond c (ack_answer s (seq e.number) sack e.delay e.clock) (timeout_answer s)))
    by_kind true c = transmit_tracks s (seq e.number) (type_of e.packet_type) index e.size e.clock r
    by_kind false true = ack_tracks s (seq e.number) sack e.delay e.clock r
    by_kind false false = timeout_tracks s r
