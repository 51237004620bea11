-- All packets that were ever sent go with a tracker: those that are no longer kept, which are all acknowledged, and then those that are.
use Rattle.std.specs.Prelude.{◌≡◌, refl, Bool, true, false, ◌&&◌, cond, List, [], ◌∷◌, ◌++◌, ℕ, suc, ◌+◌, ◌-◌, leb, length}
use Rattle.std.proofs.Common.{ap, ◌∙◌, subst, arith, length-set, length-append}
use Rattle.common.specs.Answer.{Answer, done, ◌then◌}
use Rattle.seq.specs.declared.SeqNum.{SeqNum}
use Rattle.packet.specs.declared.kind.PacketType.{PacketType}
use Rattle.congestion.specs.declared.settings.Settings.{Settings}
use Rattle.congestion.specs.Settings.{in_range_of}
use Rattle.outgoing.specs.declared.kept.Packet.{Packet}
use Rattle.outgoing.specs.Loss.{is_unacked, acked_one, acked_count_of}
use Rattle.outgoing.specs.Tracker.{Tracker, offset_in, gone_of, is_kept, packet_at, with_packet_at, clocked_of}
use Rattle.outgoing.specs.Transmit.{transmit_check, with_resent, first_sent, recorded_of, sent_of, transmit_of}
use Rattle.outgoing.specs.Ack.{ack_check, heard_of, with_acked, newly_acked_of, acknowledged_of, all_acknowledged_of, from_unacked, released_of, marked_of, ack_of}
use Rattle.outgoing.specs.Sound.{flying_of, in_flight_of, timeout_of}
use Rattle.sent.specs.State.{tracker_of, fresh_of}
use Rattle.outgoing.specs.Laws.Checks.{then_done}
use Rattle.sent.specs.Laws.Loss.{marked-length}
use Rattle.sent.specs.Laws.Keeps.{Held, transmit_keeps, ack_keeps, timeout_keeps}
use Rattle.sent.specs.Laws.Reached.{fresh_held}

-- The acknowledged run at the front, whose places an ack sets free.
unfoldable pub acked_run_of : List Packet → List Packet
acked_run_of [] = []
acked_run_of (p ∷ l) = cond (is_unacked p) [] (p ∷ acked_run_of l)

-- `gone` are the packets with offsets 1 to `gone_of t`, as they were when their places were set free.
pub data History : List Packet → Tracker → Type 0 where
  fresh : (initial : SeqNum) (settings : Settings) → in_range_of settings ≡ true → History [] (tracker_of (fresh_of initial settings))
  transmit : {gone : List Packet} {t : Tracker} (number : SeqNum) (type : PacketType) (tag len clock : ℕ) (u : Tracker)
      → transmit_of t number type tag len clock ≡ done u → History gone t → History gone u
  ack : {gone : List Packet} {t : Tracker} (number : SeqNum) (mask : List ℕ) (delay clock : ℕ)
      → ack_check t.numbers.last t.sent (offset_in t number) (length mask) delay clock ≡ done tt → History gone t
      → History (gone ++ acked_run_of (marked_of t (offset_in t number) mask delay clock).packets) (clocked_of (released_of (marked_of t (offset_in t number) mask delay clock)) clock)
  timeout : {gone : List Packet} {t : Tracker} → History gone t → History gone (timeout_of t)

-- ---- lists

flight_append : (a b : List Packet) → in_flight_of (a ++ b) ≡ in_flight_of a + in_flight_of b
unfolding in_flight_of
flight_append [] b = omega arith
flight_append (p ∷ a) b = omega (arith, flight_append a b)

count_append : (a b : List Packet) → acked_count_of (a ++ b) ≡ acked_count_of a + acked_count_of b
unfolding acked_count_of
count_append [] b = omega arith
count_append (p ∷ a) b = omega (arith, count_append a b)

run_split : (l : List Packet) → (length (acked_run_of l) + length (from_unacked l) ≡ length l) × (acked_count_of (acked_run_of l) ≡ length (acked_run_of l)) × (in_flight_of (acked_run_of l) ≡ 0)
unfolding acked_run_of from_unacked acked_count_of in_flight_of
run_split [] = (omega arith, refl, refl)
run_split (p ∷ l) = by_test (run_split l) (is_unacked p) refl
  where
    by_test : (length (acked_run_of l) + length (from_unacked l) ≡ length l) × (acked_count_of (acked_run_of l) ≡ length (acked_run_of l)) × (in_flight_of (acked_run_of l) ≡ 0)
        → (t : Bool) → is_unacked p ≡ t
        → (length (cond t [] (p ∷ acked_run_of l)) + length (cond t (p ∷ l) (from_unacked l)) ≡ suc (length l))
        × (acked_count_of (cond t [] (p ∷ acked_run_of l)) ≡ length (cond t [] (p ∷ acked_run_of l)))
        × (in_flight_of (cond t [] (p ∷ acked_run_of l)) ≡ 0)
    by_test r true u = (omega arith, refl, refl)
    by_test r false u =
        let one : acked_one p ≡ 1 = ap (λ (x : Bool). cond x 0 1) u in
        let none : flying_of p ≡ 0 = ap (λ (x : Bool). cond x p.len 0) u in
        (omega (arith, r.0), omega (arith, r.1), omega (arith, r.2))

-- ---- how many are kept

same_kept : (delay clock : ℕ) (os : List ℕ) (t : Tracker)
    → (length (all_acknowledged_of delay clock t os).packets ≡ length t.packets) × ((all_acknowledged_of delay clock t os).sent ≡ t.sent)
unfolding all_acknowledged_of newly_acked_of
same_kept delay clock [] t = (refl, refl)
same_kept delay clock (o ∷ os) t =
    let r = same_kept delay clock os (acknowledged_of delay clock t o) in
    let s = by_test (is_kept t o && is_unacked (packet_at t o)) in
    (r.0 ∙ s.0, r.1 ∙ s.1)
  where
    by_test : (v : Bool) → (length (cond v (newly_acked_of t delay clock o) t).packets ≡ length t.packets) × ((cond v (newly_acked_of t delay clock o) t).sent ≡ t.sent)
    by_test true = (length-set t.packets (o - gone_of t - 1) (with_acked (packet_at t o)), refl)
    by_test false = (refl, refl)

marked_kept : (t : Tracker) (o : ℕ) (mask : List ℕ) (delay clock : ℕ) → (length (marked_of t o mask delay clock).packets ≡ length t.packets) × ((marked_of t o mask delay clock).sent ≡ t.sent)
unfolding marked_of
marked_kept t o mask delay clock =
    let r = same_kept delay clock (heard_of t.sent o mask) t in
    (marked-length (all_acknowledged_of delay clock t (heard_of t.sent o mask)).packets ∙ r.0, r.1)

sent_kept : (t : Tracker) (o : ℕ) (p : Packet) (k : ℕ) → k + length t.packets ≡ t.sent → k + length (sent_of t o p).packets ≡ (sent_of t o p).sent
unfolding sent_of
sent_kept t o p k e = by_test (leb o t.sent) (is_kept t o)
  where
    by_test : (v w : Bool)
        → k + length (cond v (cond w (with_packet_at t o (with_resent (packet_at t o))) t) (recorded_of t p)).packets
        ≡ (cond v (cond w (with_packet_at t o (with_resent (packet_at t o))) t) (recorded_of t p)).sent
    by_test true true = omega (arith, length-set t.packets (o - gone_of t - 1) (with_resent (packet_at t o)))
    by_test true false = e
    by_test false w = omega (arith, length-append t.packets (p ∷ []))

transmit_shape : (t u : Tracker) (number : SeqNum) (type : PacketType) (tag len clock : ℕ) → transmit_of t number type tag len clock ≡ done u
    → clocked_of (sent_of t (offset_in t number) (first_sent type tag len clock)) clock ≡ u
unfolding transmit_of
transmit_shape t u number type tag len clock e =
    let q = then_done (transmit_check t.numbers t.sent (length t.packets) (offset_in t number) len clock) (done (clocked_of (sent_of t (offset_in t number) (first_sent type tag len clock)) clock)) u e in
    cc

-- ---- the theorems

record Goes (gone : List Packet) (t : Tracker) : Type 0 where
  counted : length gone + length t.packets ≡ t.sent
  acked : acked_count_of gone ≡ length gone
  landed : in_flight_of gone ≡ 0

goes : {gone : List Packet} {t : Tracker} → History gone t → Goes gone t
unfolding acked_count_of in_flight_of
goes (fresh initial settings e) = record { counted = refl; acked = refl; landed = refl }
goes (transmit {gone} {t} number type tag len clock u e h) =
    let r = goes h in
    let p = first_sent type tag len clock in
    record {
      counted = subst (λ (v : Tracker). length gone + length v.packets ≡ v.sent) (transmit_shape t u number type tag len clock e) (sent_kept t (offset_in t number) p (length gone) r.counted);
      acked = r.acked;
      landed = r.landed;
    }
goes (ack {gone} {t} number mask delay clock e h) =
    let r = goes h in
    let m = (marked_of t (offset_in t number) mask delay clock).packets in
    let k = marked_kept t (offset_in t number) mask delay clock in
    let s = run_split m in
    record {
      counted = omega (arith, length-append gone (acked_run_of m), s.0, k.0, k.1, r.counted);
      acked = omega (arith, length-append gone (acked_run_of m), count_append gone (acked_run_of m), s.1, r.acked);
      landed = omega (arith, flight_append gone (acked_run_of m), s.2, r.landed);
    }
goes (timeout h) = let r = goes h in record { counted = r.counted; acked = r.acked; landed = r.landed }

pub history_held : {gone : List Packet} {t : Tracker} → History gone t → Held t
unfolding ack_of
history_held (fresh initial settings e) = fresh_held initial settings e
history_held (transmit {gone} {t} number type tag len clock u e h) = transmit_keeps t u number type tag len clock (history_held h) e
history_held (ack {gone} {t} number mask delay clock e h) =
    ack_keeps t _ number mask delay clock (history_held h)
    (ap (λ (b : Answer (Unit {0})). b then done (clocked_of (released_of (marked_of t (offset_in t number) mask delay clock)) clock)) e)
history_held (timeout {gone} {t} h) = timeout_keeps t (history_held h)

-- The packets that are gone and those that are kept are all that were sent.
pub history_whole : {gone : List Packet} {t : Tracker} → History gone t → length (gone ++ t.packets) ≡ t.sent
history_whole {gone} {t} h = length-append gone t.packets ∙ (goes h).counted

-- Those that are gone are all acknowledged.
pub gone_acked : {gone : List Packet} {t : Tracker} → History gone t → acked_count_of gone ≡ length gone
gone_acked h = (goes h).acked

-- Bytes in flight equal the summed first lengths of the unacknowledged packets, of all that were ever sent.
pub in_flight_of_all : {gone : List Packet} {t : Tracker} → History gone t → t.numbers.in_flight ≡ in_flight_of (gone ++ t.packets)
in_flight_of_all {gone} {t} h = let s = (history_held h).sound.in_flight_is_sum in omega (arith, flight_append gone t.packets, (goes h).landed)
