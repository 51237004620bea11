-- Every call keeps the tracker sound.
use Rattle.std.specs.Prelude.{◌≡◌, refl, Bool, true, false, ◌&&◌, cond, List, [], ◌∷◌, ℕ, ◌+◌, ◌-◌, ◌≤◌, ◌<◌, leb, ltb, eqb, length}
use Rattle.std.proofs.Common.{sym, ap, ap₂, ◌∙◌, subst, arith, length-set, length-append, le-leb, leb-true, leb-false, ltb-true, ltb-false}
use Rattle.std.proofs.Math.Path.{subst⁻¹}
use Rattle.common.specs.Answer.{Answer, done, refused, ◌then◌}
use Rattle.seq.specs.declared.SeqNum.{SeqNum}
use Rattle.packet.specs.declared.kind.PacketType.{PacketType}
use Rattle.packet.specs.declared.kind.PacketType.TheVariants.{Data, Fin, State, Reset, Syn}
use Rattle.packet.specs.Kind.{type_number}
use Rattle.packet.specs.Sack.{mask_answer}
use Rattle.congestion.specs.declared.numbers.Numbers.{Numbers}
use Rattle.congestion.specs.Settings.{latest}
use Rattle.congestion.specs.Numbers.{sound_of, when_sound, free_of, sent_of, transmitted_of, credited_of, acked_of, lost_of}
use Rattle.controller.specs.Delays.{delays_sound_of, list_of, base_of}
use Rattle.congestion.specs.Laws.Numbers.{both, sound_facts, sound_from, accepted_sound, sent_sound, credited_sound, credited_in_flight, lost_sound, timed_out_sound}
use Rattle.controller.specs.Laws.Samples.{later_sound, taken_sound}
use Rattle.outgoing.specs.declared.kept.Packet.{Packet}
use Rattle.outgoing.specs.Loss.{is_unacked, acked_count_of, is_newly_lost_of, loss_marked_of, loss_counted_of}
use Rattle.outgoing.specs.Tracker.{Tracker, places, most_sent, offset_in, gone_of, is_kept, packet_at, with_packet_at, clocked_of, clock_answer}
use Rattle.outgoing.specs.Transmit.{may_transmit, room_answer, transmit_check, with_resent, resent_of, first_sent, recorded_of, transmit_of}
use Rattle.outgoing.specs.Transmit as Transmit
use Rattle.outgoing.specs.Ack.{delay_answer, may_ack, ack_check, heard_of, with_acked, sampled_of, newly_acked_of, acknowledged_of, all_acknowledged_of, loss_of, released_of, marked_of, ack_of}
use Rattle.outgoing.specs.Sound.{in_flight_of, timeout_of}
use Rattle.outgoing.specs.Laws.Checks.{then_done, held, not_held, never}
use Rattle.sent.specs.Laws.Sound.{SoundTracker}
use Rattle.sent.specs.Laws.Loss.{marked-length}
use Rattle.sent.specs.Laws.Packets.{Loose, sound_loose, acked_loose, acked_lands, marked-counts, marked_sound, released, sound_later, resent_counts, resent_sound, one_more_counts, one_more_sound}

-- A sound tracker whose kept packets find a place.
pub record Held (t : Tracker) : Type 0 where
  pub sound : SoundTracker t
  pub few : length t.packets ≤ places

-- ---- the clock

first_done : (a : Answer (Unit {0})) {B : Type 0} (b : Answer B) (v : B) → (a then b) ≡ done v → a ≡ done tt
first_done (done tt) b v e = refl
first_done (refused n) b v e = never n v e

clock_checked : (last clock : ℕ) → clock_answer last clock ≡ done tt → (clock ≤ latest) × (last ≤ clock)
clock_checked last clock e =
    let h = (held (leb clock latest && leb last clock) (done tt) 11 tt e).0 in
    let b = both (leb clock latest) (leb last clock) h in
    (leb-true clock latest b.0, leb-true last clock b.1)

-- ---- while packets are acknowledged

record LooseTracker (b : ℕ) (t : Tracker) : Type 0 where
  kept_of_sent : length t.packets ≤ t.sent
  sent_to : t.sent ≤ most_sent
  few : length t.packets ≤ places
  numbers_sound : sound_of t.numbers ≡ true
  delays_sound : delays_sound_of b t.delays ≡ true
  packets_loose : Loose b t.packets
  in_flight_is_sum : in_flight_of t.packets ≡ t.numbers.in_flight

acked_is : (n : Numbers) (base delay len : ℕ) (once : Bool) (p : ℕ) → sound_of n ≡ true → p ≤ latest → acked_of n base delay len once p ≡ credited_of n base delay len once p
acked_is n base delay len once p s h =
    ap₂ (λ (t u : Bool). cond t (cond u (credited_of n base delay len once p) n) n) s (le-leb p latest h)

step_loose : (delay clock : ℕ) (t : Tracker) (o : ℕ) → delay ≤ latest → clock ≤ latest → LooseTracker clock t → LooseTracker clock (acknowledged_of delay clock t o)
unfolding newly_acked_of
step_loose delay clock t o hd hc s = by_test (is_kept t o && is_unacked (packet_at t o)) refl
  where
    newly : is_kept t o ≡ true → is_unacked (packet_at t o) ≡ true → LooseTracker clock (newly_acked_of t delay clock o)
    newly k u =
        let q = both (ltb (gone_of t) o) (leb o t.sent) k in
        let i = o - gone_of t - 1 in
        let inside : i < length t.packets = omega (arith, ltb-true (gone_of t) o q.0, leb-true o t.sent q.1, s.kept_of_sent) in
        let p = packet_at t o in
        let base = base_of (list_of (sampled_of t delay clock)) in
        let moved = acked_is t.numbers base delay p.len (eqb p.resent 0) (clock - p.sent_at) s.numbers_sound (omega arith) in
        let lands = acked_lands t.packets i inside u in
        record {
          kept_of_sent = omega (arith, length-set t.packets i (with_acked p), s.kept_of_sent);
          sent_to = s.sent_to;
          few = omega (arith, length-set t.packets i (with_acked p), s.few);
          numbers_sound = ap sound_of moved
              ∙ sound_from _ (credited_sound t.numbers base delay p.len (eqb p.resent 0) (clock - p.sent_at) (sound_facts t.numbers s.numbers_sound) (omega arith));
          delays_sound = taken_sound clock t.delays s.delays_sound delay clock t.numbers.delay_window (omega arith) hd;
          packets_loose = acked_loose clock t.packets i inside u s.packets_loose;
          in_flight_is_sum = omega (
            arith,
            lands,
            s.in_flight_is_sum,
            ap (λ (n : Numbers). n.in_flight) moved,
            credited_in_flight t.numbers base delay p.len (eqb p.resent 0) (clock - p.sent_at),
          );
        }

    by_test : (v : Bool) → (is_kept t o && is_unacked (packet_at t o)) ≡ v → LooseTracker clock (cond v (newly_acked_of t delay clock o) t)
    by_test true e = let b = both (is_kept t o) (is_unacked (packet_at t o)) e in newly b.0 b.1
    by_test false e = s

all_loose : (delay clock : ℕ) (os : List ℕ) (t : Tracker) → delay ≤ latest → clock ≤ latest → LooseTracker clock t → LooseTracker clock (all_acknowledged_of delay clock t os)
unfolding all_acknowledged_of
all_loose delay clock [] t hd hc s = s
all_loose delay clock (o ∷ os) t hd hc s = all_loose delay clock os (acknowledged_of delay clock t o) hd hc (step_loose delay clock t o hd hc s)

-- ---- loss

counted_sound : (l : List Packet) (n : Numbers) → sound_of n ≡ true → (sound_of (loss_counted_of l n) ≡ true) × ((loss_counted_of l n).in_flight ≡ n.in_flight)
unfolding loss_counted_of
counted_sound [] n s = (s, refl)
counted_sound (p ∷ l) n s = by_test (counted_sound l n s) (is_newly_lost_of p (acked_count_of l))
  where
    by_test : (sound_of (loss_counted_of l n) ≡ true) × ((loss_counted_of l n).in_flight ≡ n.in_flight) → (t : Bool)
        → (sound_of (cond t (when_sound (loss_counted_of l n) (lost_of (loss_counted_of l n))) (loss_counted_of l n)) ≡ true)
        × ((cond t (when_sound (loss_counted_of l n) (lost_of (loss_counted_of l n))) (loss_counted_of l n)).in_flight ≡ n.in_flight)
    by_test r true =
        let m = loss_counted_of l n in
        let moved : when_sound m (lost_of m) ≡ lost_of m = ap (λ (t : Bool). cond t (lost_of m) m) r.0 in
        (ap sound_of moved ∙ sound_from (lost_of m) (lost_sound m (sound_facts m r.0)), ap (λ (k : Numbers). k.in_flight) moved ∙ r.1)
    by_test r false = r

-- An ack that is done.
pub marked_held : (t : Tracker) (o : ℕ) (mask : List ℕ) (delay clock : ℕ) → Held t → t.numbers.last ≤ clock → clock ≤ latest → delay ≤ latest
    → Held (clocked_of (released_of (marked_of t o mask delay clock)) clock)
unfolding marked_of
marked_held t o mask delay clock h after hc hd =
    let s = h.sound in
    let start : LooseTracker clock t = record {
      kept_of_sent = s.kept_of_sent;
      sent_to = s.sent_to;
      few = h.few;
      numbers_sound = s.numbers_sound;
      delays_sound = later_sound t.numbers.last t.delays s.delays_sound clock after;
      packets_loose = sound_loose t.numbers.last clock t.packets after s.packets_sound;
      in_flight_is_sum = s.in_flight_is_sum;
    } in
    finish (all_acknowledged_of delay clock t (heard_of t.sent o mask)) (all_loose delay clock (heard_of t.sent o mask) t hd hc start)
  where
    finish : (u : Tracker) → LooseTracker clock u → Held (clocked_of (released_of (loss_of u)) clock)
    finish u l =
        let m = loss_marked_of u.packets in
        let r = released clock m (marked_sound clock u.packets l.packets_loose) in
        let n = counted_sound u.packets u.numbers l.numbers_sound in
        let len = marked-length u.packets in
        record {
          sound = record {
            kept_of_sent = omega (arith, r.fewer, len, l.kept_of_sent);
            sent_to = l.sent_to;
            numbers_sound = sound_from _ (accepted_sound (loss_counted_of u.packets u.numbers) clock (sound_facts _ n.0) hc);
            delays_sound = l.delays_sound;
            starts = r.starts;
            packets_sound = r.sound;
            in_flight_is_sum = r.same_flight ∙ (marked-counts u.packets).1 ∙ l.in_flight_is_sum ∙ sym n.1;
          };
          few = omega (arith, r.fewer, len, l.few);
        }

pub ack_keeps : (t u : Tracker) (number : SeqNum) (mask : List ℕ) (delay clock : ℕ) → Held t → ack_of t number mask delay clock ≡ done u → Held u
unfolding ack_of ack_check
ack_keeps t u number mask delay clock h e =
    let next = clocked_of (released_of (marked_of t (offset_in t number) mask delay clock)) clock in
    let sent : Answer (Unit {0}) = cond (may_ack t.sent (offset_in t number)) (done tt) (refused 12) in
    let check = ack_check t.numbers.last t.sent (offset_in t number) (length mask) delay clock in
    let passed = first_done check (done next) u e in
    let c = clock_checked t.numbers.last clock (first_done (clock_answer t.numbers.last clock) (delay_answer delay then (mask_answer (length mask) then sent)) tt passed) in
    let later = then_done (clock_answer t.numbers.last clock) (delay_answer delay then (mask_answer (length mask) then sent)) tt passed in
    let d = leb-true delay latest (held (leb delay latest) (done tt) 11 tt (first_done (delay_answer delay) (mask_answer (length mask) then sent) tt later)).0 in
    let same : next ≡ u = let q = then_done check (done next) u e in cc in
    subst Held same (marked_held t (offset_in t number) mask delay clock h c.1 c.0 d)

-- ---- a transmit that is done

type_to : (k : PacketType) → type_number k ≤ 4
type_to Data = omega arith
type_to Fin = omega arith
type_to State = omega arith
type_to Reset = omega arith
type_to Syn = omega arith

-- the clock set, and nothing else
clocked_held : (t : Tracker) (clock : ℕ) → Held t → t.numbers.last ≤ clock → clock ≤ latest → Held (clocked_of t clock)
clocked_held t clock h after hc =
    let s = h.sound in
    record {
      sound = record {
        kept_of_sent = s.kept_of_sent;
        sent_to = s.sent_to;
        numbers_sound = sound_from _ (accepted_sound t.numbers clock (sound_facts t.numbers s.numbers_sound) hc);
        delays_sound = later_sound t.numbers.last t.delays s.delays_sound clock after;
        starts = s.starts;
        packets_sound = sound_later t.numbers.last clock t.packets after s.packets_sound;
        in_flight_is_sum = s.in_flight_is_sum;
      };
      few = h.few;
    }

resent_held : (t : Tracker) (o : ℕ) → Held t → Held (resent_of t o)
resent_held t o h = by_test (is_kept t o)
  where
    by_test : (v : Bool) → Held (cond v (with_packet_at t o (with_resent (packet_at t o))) t)
    by_test true =
        let s = h.sound in
        let i = o - gone_of t - 1 in
        let r = resent_counts t.packets i in
        let len = length-set t.packets i (with_resent (packet_at t o)) in
        record {
          sound = record {
            kept_of_sent = omega (arith, len, s.kept_of_sent);
            sent_to = s.sent_to;
            numbers_sound = s.numbers_sound;
            delays_sound = s.delays_sound;
            starts = r.2 ∙ s.starts;
            packets_sound = resent_sound t.numbers.last t.packets i s.packets_sound;
            in_flight_is_sum = r.1 ∙ s.in_flight_is_sum;
          };
          few = omega (arith, len, h.few);
        }
    by_test false = h

recorded_held : (t : Tracker) (type : PacketType) (tag len clock : ℕ) → Held t → t.numbers.last ≤ clock → clock ≤ latest
    → t.sent < most_sent → len ≤ free_of t.numbers → length t.packets < places → Held (clocked_of (recorded_of t (first_sent type tag len clock)) clock)
recorded_held t type tag len clock h after hc room fits place =
    let s = h.sound in
    let p = first_sent type tag len clock in
    let m = one_more_counts p refl t.packets in
    let moved : transmitted_of t.numbers len ≡ sent_of t.numbers len = ap (λ (v : Bool). cond v (sent_of t.numbers len) t.numbers) (le-leb len (free_of t.numbers) fits) in
    let longer = length-append t.packets (p ∷ []) in
    let typed = le-leb (type_number type) 4 (type_to type) in
    let now = le-leb clock clock (omega arith) in
    record {
      sound = record {
        kept_of_sent = omega (arith, longer, s.kept_of_sent);
        sent_to = omega arith;
        numbers_sound = sound_from _ (accepted_sound (transmitted_of t.numbers len) clock
            (sound_facts _ (ap sound_of moved ∙ sound_from _ (sent_sound t.numbers len (sound_facts t.numbers s.numbers_sound)))) hc);
        delays_sound = later_sound t.numbers.last t.delays s.delays_sound clock after;
        starts = m.2 s.starts;
        packets_sound = one_more_sound p refl clock t.packets (sound_later t.numbers.last clock t.packets after s.packets_sound) (simp (typed, now));
        in_flight_is_sum = m.1 ∙ ap (λ (n : ℕ). n + len) s.in_flight_is_sum ∙ sym (ap (λ (n : Numbers). n.in_flight) moved);
      };
      few = omega (arith, longer);
    }

pub transmit_keeps : (t u : Tracker) (number : SeqNum) (type : PacketType) (tag len clock : ℕ) → Held t → transmit_of t number type tag len clock ≡ done u → Held u
unfolding transmit_of transmit_check Transmit.sent_of
transmit_keeps t u number type tag len clock h e =
    let o = offset_in t number in
    let next = clocked_of (Transmit.sent_of t o (first_sent type tag len clock)) clock in
    let check = transmit_check t.numbers t.sent (length t.packets) o len clock in
    let rest = cond (may_transmit t.sent o) (cond (leb o t.sent) (done tt) (room_answer t.numbers t.sent (length t.packets) len)) (refused 12) in
    let passed = first_done check (done next) u e in
    let c = clock_checked t.numbers.last clock (first_done (clock_answer t.numbers.last clock) rest tt passed) in
    let r = then_done (clock_answer t.numbers.last clock) rest tt passed in
    let k = (held (may_transmit t.sent o) (cond (leb o t.sent) (done tt) (room_answer t.numbers t.sent (length t.packets) len)) 12 tt r).1 in
    let same : next ≡ u = let q = then_done check (done next) u e in cc in
    subst Held same (by_test o c.0 c.1 (leb o t.sent) k)
  where
    by_test : (o : ℕ) → clock ≤ latest → t.numbers.last ≤ clock → (v : Bool) → cond v (done tt) (room_answer t.numbers t.sent (length t.packets) len) ≡ done (tt {0})
        → Held (clocked_of (cond v (resent_of t o) (recorded_of t (first_sent type tag len clock))) clock)
    by_test o hc after true k = clocked_held (resent_of t o) clock (resent_held t o h) (subst⁻¹ (λ (n : ℕ). n ≤ clock) (last_same (is_kept t o)) after) hc
      where
        last_same : (v : Bool) → (cond v (with_packet_at t o (with_resent (packet_at t o))) t).numbers.last ≡ t.numbers.last
        last_same true = refl
        last_same false = refl
    by_test o hc after false k =
        let w = not_held (leb most_sent t.sent) (cond (ltb (free_of t.numbers) len) (refused 13) (cond (leb places (length t.packets)) (refused 14) (done tt))) 15 tt k in
        let f = not_held (ltb (free_of t.numbers) len) (cond (leb places (length t.packets)) (refused 14) (done tt)) 13 tt w.1 in
        let p = not_held (leb places (length t.packets)) (done tt) 14 tt f.1 in
        recorded_held t type tag len clock h after hc (leb-false most_sent t.sent w.0) (ltb-false (free_of t.numbers) len f.0) (leb-false places (length t.packets) p.0)

-- ---- a timeout, and the start

pub timeout_keeps : (t : Tracker) → Held t → Held (timeout_of t)
timeout_keeps t h =
    let s = h.sound in
    record {
      sound = record {
        kept_of_sent = s.kept_of_sent;
        sent_to = s.sent_to;
        numbers_sound = sound_from _ (timed_out_sound t.numbers (sound_facts t.numbers s.numbers_sound));
        delays_sound = s.delays_sound;
        starts = s.starts;
        packets_sound = s.packets_sound;
        in_flight_is_sum = s.in_flight_is_sum;
      };
      few = h.few;
    }
