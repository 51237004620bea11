-- What each call of the sender leaves, accepted or refused.
use Rattle.std.specs.Prelude.{ℕ, ◌+◌, ◌≤◌, Bool, true, false, ◌&&◌, cond, List, ◌⊎◌, ◌≡◌, refl, leb, length, drop}
use Rattle.std.proofs.Common.{arith, inl, inr, ◌∙◌, ap, leb-true}
use Rattle.std.proofs.Math.Seq.{take-append_seam}
use Rattle.common.specs.Answer.{Answer, done, refused, ◌then◌}
use Rattle.seq.specs.declared.SeqNum.{SeqNum}
use Rattle.outgoing.specs.declared.kept.Packet.{Packet}
use Rattle.sent.specs.declared.state.SentPackets.{SentPackets}
use Rattle.outgoing.specs.Tracker.{Tracker, offset_in, clocked_of, clock_answer}
use Rattle.outgoing.specs.Transmit.{may_transmit, room_answer, transmit_check, first_sent, sent_of, transmit_of}
use Rattle.outgoing.specs.Ack.{delay_answer, may_ack, ack_check, marked_of, ack_of}
use Rattle.outgoing.specs.Sound.{timeout_of}
use Rattle.sent.specs.State.{tracker_of, written_of, state_sound_of, answered_of, answered_as, transmit_answer, ack_state_of, ack_answer, timeout_answer}
use Rattle.packet.specs.Sack.{mask_answer}
use Rattle.delivery.specs.Run.{Transmit, is_done, accepted}
use Rattle.delivery.specs.Laws.Marks.{acked_by_of}

pub tracker_written : (s : SentPackets) (t : Tracker) → tracker_of (written_of s t) ≡ t
tracker_written s t = ap with_packets (take-append_seam t.packets (drop (length t.packets) s.packets))
  where
    with_packets : List Packet → Tracker
    with_packets l = record { initial = t.initial; sent = t.sent; packets = l; numbers = t.numbers; delays = t.delays }

-- A check that is done, and then an answer; before it the soundness test.
abbrev call : SentPackets → Bool → Answer (Unit {0}) → Tracker → Answer (Unit {0}) × SentPackets
call s sound check next = answered_of s (cond sound (check then done next) (refused 19))

call_accepted :
    (s : SentPackets) (sound : Bool) (check : Answer (Unit {0})) (next : Tracker) → is_done (call s sound check next).0 ≡ true
    → (tracker_of (call s sound check next).1 ≡ next) × (check ≡ done tt)
call_accepted s true (done tt) next e = (tracker_written s next, refl)
call_accepted s true (refused n) next e = let z : ◌≡◌ {A = ℕ} 0 1 = cc in absurd (omega arith)
call_accepted s false (done u) next e = let z : ◌≡◌ {A = ℕ} 0 1 = cc in absurd (omega arith)
call_accepted s false (refused n) next e = let z : ◌≡◌ {A = ℕ} 0 1 = cc in absurd (omega arith)

call_refused : (s : SentPackets) (sound : Bool) (check : Answer (Unit {0})) (next : Tracker) → is_done (call s sound check next).0 ≡ false → (call s sound check next).1 ≡ s
call_refused s true (done u) next e = let z : ◌≡◌ {A = ℕ} 0 1 = cc in absurd (omega arith)
call_refused s true (refused n) next e = refl
call_refused s false (done u) next e = refl
call_refused s false (refused n) next e = refl

-- ---- transmit

checked : (a b : Answer (Unit {0})) (m : Bool) → (a then cond m b (refused 12)) ≡ done tt → m ≡ true
checked (done u) b true e = refl
checked (done u) b false e = let z : ◌≡◌ {A = ℕ} 0 1 = cc in absurd (omega arith)
checked (refused k) b m e = let z : ◌≡◌ {A = ℕ} 0 1 = cc in absurd (omega arith)

both : (a b : Bool) → (a && b) ≡ true → (a ≡ true) × (b ≡ true)
both true true e = (refl, refl)
both true false e = let z : ◌≡◌ {A = ℕ} 0 1 = cc in absurd (omega arith)
both false b e = let z : ◌≡◌ {A = ℕ} 0 1 = cc in absurd (omega arith)

pub transmit_accepted :
    (s : SentPackets) (x : Transmit) → accepted s x ≡ true
    → (tracker_of (transmit_answer s x.number x.type x.tag x.len x.clock).1
    ≡ clocked_of (sent_of (tracker_of s) (offset_in (tracker_of s) x.number) (first_sent x.type x.tag x.len x.clock)) x.clock)
    × (1 ≤ offset_in (tracker_of s) x.number)
    × (offset_in (tracker_of s) x.number ≤ (tracker_of s).sent + 1)
unfolding transmit_answer transmit_of transmit_check
transmit_accepted s x e =
    let t = tracker_of s in
    let o = offset_in t x.number in
    let check = transmit_check t.numbers t.sent (length t.packets) o x.len x.clock in
    let told = call_accepted s (state_sound_of s) check (clocked_of (sent_of t o (first_sent x.type x.tag x.len x.clock)) x.clock) e in
    let may = both (leb 1 o) (leb o (t.sent + 1)) (checked (clock_answer t.numbers.last x.clock) (cond (leb o t.sent) (done tt) (room_answer t.numbers t.sent (length t.packets) x.len)) (may_transmit t.sent o) told.1) in
    (told.0, leb-true _ _ may.0, leb-true _ _ may.1)

pub transmit_refused : (s : SentPackets) (x : Transmit) → accepted s x ≡ false → (transmit_answer s x.number x.type x.tag x.len x.clock).1 ≡ s
unfolding transmit_answer transmit_of
transmit_refused s x e =
    call_refused s (state_sound_of s)
    (transmit_check (tracker_of s).numbers (tracker_of s).sent (length (tracker_of s).packets) (offset_in (tracker_of s) x.number) x.len x.clock)
    (clocked_of (sent_of (tracker_of s) (offset_in (tracker_of s) x.number) (first_sent x.type x.tag x.len x.clock)) x.clock)
    e

-- ---- ack

-- Refused, and nothing changed; or the ack's offset is one that was sent, and what it speaks of is acknowledged.
pub data Heard (s : SentPackets) (number : SeqNum) (mask : List ℕ) (delay clock : ℕ) : Type 0 where
  unheard : (ack_answer s number mask delay clock).1 ≡ s → Heard s number mask delay clock
  heard :
      1 ≤ offset_in (tracker_of s) number
      → tracker_of (ack_answer s number mask delay clock).1 ≡ clocked_of (acked_by_of (tracker_of s) (offset_in (tracker_of s) number) mask delay clock) clock
      → Heard s number mask delay clock

ack_may : (a b c : Answer (Unit {0})) (k : Answer ℕ) (m : Bool) → (a then b then k then cond m c (refused 12)) ≡ done tt → m ≡ true
ack_may (done u) (done v) c (done w) true e = refl
ack_may (done u) (done v) c (done w) false e = let z : ◌≡◌ {A = ℕ} 0 1 = cc in absurd (omega arith)
ack_may (done u) (done v) c (refused j) m e = let z : ◌≡◌ {A = ℕ} 0 1 = cc in absurd (omega arith)
ack_may (done u) (refused i) c k m e = let z : ◌≡◌ {A = ℕ} 0 1 = cc in absurd (omega arith)
ack_may (refused h) b c k m e = let z : ◌≡◌ {A = ℕ} 0 1 = cc in absurd (omega arith)

-- An ack hands back a state of its own.
abbrev ack_call : SentPackets → SentPackets → Bool → Answer (Unit {0}) → Tracker → Answer (Unit {0}) × SentPackets
ack_call s state sound check next = answered_as s state (cond sound (check then done next) (refused 19))

ack_accepted :
    (s state : SentPackets) (sound : Bool) (check : Answer (Unit {0})) (next : Tracker) → is_done (ack_call s state sound check next).0 ≡ true
    → ((ack_call s state sound check next).1 ≡ state) × (check ≡ done tt)
ack_accepted s state true (done tt) next e = (refl, refl)
ack_accepted s state true (refused n) next e = let z : ◌≡◌ {A = ℕ} 0 1 = cc in absurd (omega arith)
ack_accepted s state false (done u) next e = let z : ◌≡◌ {A = ℕ} 0 1 = cc in absurd (omega arith)
ack_accepted s state false (refused n) next e = let z : ◌≡◌ {A = ℕ} 0 1 = cc in absurd (omega arith)

ack_refused :
    (s state : SentPackets) (sound : Bool) (check : Answer (Unit {0})) (next : Tracker) → is_done (ack_call s state sound check next).0 ≡ false → (ack_call s state sound check next).1 ≡ s
ack_refused s state true (done u) next e = let z : ◌≡◌ {A = ℕ} 0 1 = cc in absurd (omega arith)
ack_refused s state true (refused n) next e = refl
ack_refused s state false (done u) next e = refl
ack_refused s state false (refused n) next e = refl

pub ack_heard : (s : SentPackets) (number : SeqNum) (mask : List ℕ) (delay clock : ℕ) → Heard s number mask delay clock
unfolding ack_answer ack_of ack_check ack_state_of
ack_heard s number mask delay clock = by_answer (is_done (ack_call s state (state_sound_of s) check next).0) refl
  where
    t : Tracker
    t = tracker_of s

    o : ℕ
    o = offset_in t number

    check : Answer (Unit {0})
    check = ack_check t.numbers.last t.sent o (length mask) delay clock

    next : Tracker
    next = clocked_of (acked_by_of t o mask delay clock) clock

    state : SentPackets
    state = ack_state_of s o mask delay clock

    by_answer : (b : Bool) → is_done (ack_call s state (state_sound_of s) check next).0 ≡ b → Heard s number mask delay clock
    by_answer false e = unheard (ack_refused s state (state_sound_of s) check next e)
    by_answer true e =
        let told = ack_accepted s state (state_sound_of s) check next e in
        let may = ack_may (clock_answer t.numbers.last clock) (delay_answer delay) (done tt) (mask_answer (length mask)) (may_ack t.sent o) told.1 in
        heard (leb-true _ _ (both (leb 1 o) (leb o t.sent) may).0)
        (ap tracker_of told.0 ∙ tracker_written (written_of s (marked_of t o mask delay clock)) next)

-- ---- a timeout event

pub timeout_stays : (s : SentPackets) → ((timeout_answer s).1 ≡ s) ⊎ (tracker_of (timeout_answer s).1 ≡ timeout_of (tracker_of s))
unfolding timeout_answer
timeout_stays s = by_test (state_sound_of s)
  where
    by_test : (b : Bool) → ((answered_of s (cond b (done (timeout_of (tracker_of s))) (refused 19))).1 ≡ s) ⊎ (tracker_of (answered_of s (cond b (done (timeout_of (tracker_of s))) (refused 19))).1 ≡ timeout_of (tracker_of s))
    by_test true = inr (tracker_written s (timeout_of (tracker_of s)))
    by_test false = inl refl
