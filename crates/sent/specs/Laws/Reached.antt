-- Over any calls from a fresh tracker: every state passes the soundness test, so bytes in flight are the summed first lengths of the unacknowledged packets, the
-- maximum is never below the minimum, places run from the first unacknowledged packet to the last sent, and a packet is marked lost exactly when it is lost.
use Rattle.std.specs.Prelude.{◌≡◌, refl, Bool, true, cond, List, [], ◌∷◌, ℕ, zero, suc, ◌≤◌, ◌<◌, length, take, drop, get_or}
use Rattle.std.proofs.Common.{sym, ap, ◌∙◌, arith, length-take}
use Rattle.std.proofs.Math.Path.{subst⁻¹}
use Rattle.std.proofs.Math.Seq.{take-append_seam}
use Rattle.common.specs.Answer.{Answer, done, refused, ◌then◌}
use Rattle.seq.specs.declared.SeqNum.{SeqNum}
use Rattle.packet.specs.declared.kind.PacketType.{PacketType}
use Rattle.congestion.specs.declared.settings.Settings.{Settings}
use Rattle.congestion.specs.declared.numbers.Numbers.{Numbers}
use Rattle.congestion.specs.Settings.{in_range_of}
use Rattle.congestion.specs.Numbers.{minimum_of, sound_of, start_of, no_numbers, new_of}
use Rattle.congestion.specs.Laws.Numbers.{both, sound_facts, sound_from, settings_facts, start_sound}
use Rattle.outgoing.specs.declared.kept.Packet.{Packet}
use Rattle.sent.specs.declared.state.SentPackets.{SentPackets}
use Rattle.outgoing.specs.Loss.{acked_count_of, is_lost_of}
use Rattle.outgoing.specs.Tracker.{Tracker, offset_in, clocked_of, no_packet}
use Rattle.outgoing.specs.Transmit.{transmit_of}
use Rattle.outgoing.specs.Ack.{ack_check, released_of, marked_of, ack_of}
use Rattle.outgoing.specs.Sound.{in_flight_of, packet_sound_of, packets_sound_of, starts_unacked, timeout_of}
use Rattle.sent.specs.State.{tracker_of, written_of, state_sound_of, answered_of, answered_as, transmit_answer, ack_state_of, ack_answer, timeout_answer, fresh_of}
use Rattle.sent.specs.Laws.Sound.{SoundTracker, state_facts, state_from, sound_answered}
use Rattle.sent.specs.Laws.Packets.{packet_facts}
use Rattle.sent.specs.Laws.Keeps.{Held, transmit_keeps, ack_keeps, timeout_keeps}

-- A fresh tracker, or what any call on a reached one hands back, whatever it answers.
pub data Reached : SentPackets → Type 0 where
  fresh : (initial : SeqNum) (settings : Settings) → in_range_of settings ≡ true → Reached (fresh_of initial settings)
  transmit : {s : SentPackets} (number : SeqNum) (type : PacketType) (tag len clock : ℕ) → Reached s → Reached (transmit_answer s number type tag len clock).1
  ack : {s : SentPackets} (number : SeqNum) (mask : List ℕ) (delay clock : ℕ) → Reached s → Reached (ack_answer s number mask delay clock).1
  timeout : {s : SentPackets} → Reached s → Reached (timeout_answer s).1

-- ---- the state and its tracker

written_back : (s : SentPackets) (t : Tracker) → tracker_of (written_of s t) ≡ t
written_back s t =
    ap (λ (l : List Packet). record { initial = t.initial; sent = t.sent; packets = l; numbers = t.numbers; delays = t.delays })
    (take-append_seam t.packets (drop (length t.packets) s.packets))

held_of : (s : SentPackets) → state_sound_of s ≡ true → Held (tracker_of s)
held_of s e = let f = state_facts s e in record { sound = f.1; few = omega (arith, f.0, length-take s.live s.packets) }

written_sound : (s : SentPackets) (t : Tracker) → Held t → state_sound_of (written_of s t) ≡ true
written_sound s t h = state_from (written_of s t) h.few (subst⁻¹ SoundTracker (written_back s t) h.sound)

-- ---- each call

answered_sound : (s : SentPackets) (a : Answer Tracker) → state_sound_of s ≡ true → ((u : Tracker) → a ≡ done u → Held u) → state_sound_of (answered_of s a).1 ≡ true
answered_sound s (done u) e h = written_sound s u (h u refl)
answered_sound s (refused n) e h = e

transmit_sound : (s : SentPackets) (number : SeqNum) (type : PacketType) (tag len clock : ℕ) → state_sound_of s ≡ true → state_sound_of (transmit_answer s number type tag len clock).1 ≡ true
unfolding transmit_answer
transmit_sound s number type tag len clock e =
    let a = transmit_of (tracker_of s) number type tag len clock in
    ap (λ (x : Answer Tracker). state_sound_of (answered_of s x).1) (sound_answered s a e)
    ∙ answered_sound s a e (λ u q. transmit_keeps (tracker_of s) u number type tag len clock (held_of s e) q)

timeout_sound : (s : SentPackets) → state_sound_of s ≡ true → state_sound_of (timeout_answer s).1 ≡ true
unfolding timeout_answer
timeout_sound s e =
    ap (λ (x : Answer Tracker). state_sound_of (answered_of s x).1) (sound_answered s (done (timeout_of (tracker_of s))) e)
    ∙ written_sound s (timeout_of (tracker_of s)) (timeout_keeps (tracker_of s) (held_of s e))

ack_sound : (s : SentPackets) (number : SeqNum) (mask : List ℕ) (delay clock : ℕ) → state_sound_of s ≡ true → state_sound_of (ack_answer s number mask delay clock).1 ≡ true
unfolding ack_answer ack_of ack_state_of
ack_sound s number mask delay clock e =
    let t = tracker_of s in
    let o = offset_in t number in
    let u = clocked_of (released_of (marked_of t o mask delay clock)) clock in
    ap (λ (x : Answer Tracker). state_sound_of (answered_as s (ack_state_of s o mask delay clock) x).1) (sound_answered s (ack_of t number mask delay clock) e)
    ∙ by_check (ack_check t.numbers.last t.sent o (length mask) delay clock) refl
  where
    by_check : (a : Answer (Unit {0})) → ack_check s.numbers.last s.count (offset_in (tracker_of s) number) (length mask) delay clock ≡ a
        → state_sound_of (answered_as s (ack_state_of s (offset_in (tracker_of s) number) mask delay clock) (a then done (clocked_of (released_of (marked_of (tracker_of s) (offset_in (tracker_of s) number) mask delay clock)) clock))).1 ≡ true
    by_check (done x) q =
        let u = clocked_of (released_of (marked_of (tracker_of s) (offset_in (tracker_of s) number) mask delay clock)) clock in
        written_sound (written_of s (marked_of (tracker_of s) (offset_in (tracker_of s) number) mask delay clock)) u
        (ack_keeps (tracker_of s) u number mask delay clock (held_of s e) (ap (λ (b : Answer (Unit {0})). b then done u) q))
    by_check (refused n) q = e

fresh_sound : (initial : SeqNum) (settings : Settings) → in_range_of settings ≡ true → state_sound_of (fresh_of initial settings) ≡ true
unfolding packets_sound_of in_flight_of
fresh_sound initial settings e =
    let n : new_of settings ≡ start_of settings = ap (λ (t : Bool). cond t (start_of settings) no_numbers) e in
    state_from (fresh_of initial settings) (omega arith)
    (record {
      kept_of_sent = omega arith;
      sent_to = omega arith;
      numbers_sound = ap sound_of n ∙ sound_from (start_of settings) (start_sound settings (settings_facts settings e));
      delays_sound = refl;
      starts = refl;
      packets_sound = refl;
      in_flight_is_sum = sym (ap (λ (m : Numbers). m.in_flight) n);
    })

pub fresh_held : (initial : SeqNum) (settings : Settings) → in_range_of settings ≡ true → Held (tracker_of (fresh_of initial settings))
fresh_held initial settings e = held_of (fresh_of initial settings) (fresh_sound initial settings e)

-- ---- the theorems

-- Every state that a fresh tracker reaches passes the soundness test.
pub reached_sound : {s : SentPackets} → Reached s → state_sound_of s ≡ true
reached_sound (fresh initial settings e) = fresh_sound initial settings e
reached_sound (transmit {s} number type tag len clock r) = transmit_sound s number type tag len clock (reached_sound r)
reached_sound (ack {s} number mask delay clock r) = ack_sound s number mask delay clock (reached_sound r)
reached_sound (timeout {s} r) = timeout_sound s (reached_sound r)

-- Bytes in flight equal the summed first lengths of the unacknowledged packets: those that are no longer kept are all acknowledged.
pub in_flight_is_sum : {s : SentPackets} → Reached s → s.numbers.in_flight ≡ in_flight_of (take s.live s.packets)
in_flight_is_sum {s} r = sym (state_facts s (reached_sound r)).1.in_flight_is_sum

-- The maximum is never below the minimum.
pub maximum_not_below_minimum : {s : SentPackets} → Reached s → minimum_of s.numbers ≤ s.numbers.maximum
maximum_not_below_minimum {s} r = (sound_facts s.numbers (state_facts s (reached_sound r)).1.numbers_sound).running.maximum_from

-- Places run from the first unacknowledged packet to the last sent.
pub places_start_unacked : {s : SentPackets} → Reached s → starts_unacked (take s.live s.packets) ≡ true
places_start_unacked {s} r = (state_facts s (reached_sound r)).1.starts

-- A kept packet is marked lost exactly when it is unacknowledged with three or more acknowledged later ones.
lost_at : (last : ℕ) (l : List Packet) (i : ℕ) → i < length l → packets_sound_of last l ≡ true
    → (get_or l i no_packet).lost ≡ cond (is_lost_of (get_or l i no_packet) (acked_count_of (drop (suc i) l))) 1 0
unfolding packets_sound_of
lost_at last [] i h e = absurd (omega arith)
lost_at last (p ∷ l) zero h e = (packet_facts last p (acked_count_of l) (both (packets_sound_of last l) (packet_sound_of last p (acked_count_of l)) e).1).lost_is
lost_at last (p ∷ l) (suc i) h e = lost_at last l i (omega arith) (both (packets_sound_of last l) (packet_sound_of last p (acked_count_of l)) e).0

pub lost_exactly : {s : SentPackets} → Reached s → (i : ℕ) → i < length (take s.live s.packets)
    → (get_or (take s.live s.packets) i no_packet).lost
    ≡ cond (is_lost_of (get_or (take s.live s.packets) i no_packet) (acked_count_of (drop (suc i) (take s.live s.packets)))) 1 0
lost_exactly {s} r i h = lost_at s.numbers.last (take s.live s.packets) i h (state_facts s (reached_sound r)).1.packets_sound
