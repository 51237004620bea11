-- The kept packets through an ack: what holds of each while packets are acknowledged, and that loss and release make the soundness test hold again.
use Rattle.std.specs.Prelude.{◌≡◌, refl, Bool, true, false, ◌&&◌, ℕ, zero, suc, ◌+◌, ◌≤◌, ◌<◌, leb, eqb, length, get_or, set}
use Rattle.std.proofs.Common.{sym, ap₂, ◌∙◌, le-leb, leb-true, eq-eqb, eqb-true}
use Rattle.std.proofs.Math.Path.{ap, subst⁻¹}
use Rattle.std.proofs.Math.Bool.{cond}
use mathlib.Core.List.{List, [], ◌∷◌, ◌++◌}
use native.Mathlib.Omega.{arith}
use Rattle.std.proofs.lemmas.Bool.{eqb-false}
use Rattle.congestion.specs.Laws.Numbers.{both, and_of}
use Rattle.outgoing.specs.declared.kept.Packet.{Packet}
use Rattle.outgoing.specs.Loss.{loss_threshold, is_unacked, acked_one, acked_count_of, is_lost_of, is_newly_lost_of, with_lost, loss_marked_of}
use Rattle.outgoing.specs.Tracker.{no_packet}
use Rattle.outgoing.specs.Transmit.{with_resent}
use Rattle.outgoing.specs.Ack.{with_acked, from_unacked}
use Rattle.outgoing.specs.Sound.{flying_of, in_flight_of, packet_sound_of, packets_sound_of, starts_unacked}

-- ---- one packet

pub record SoundPacket (last : ℕ) (p : Packet) (later : ℕ) : Type 0 where
  pub kind_to : p.kind ≤ 4
  pub acked_to : p.acked ≤ 1
  pub resent_to : p.resent ≤ 1
  pub sent_to : p.sent_at ≤ last
  pub lost_is : p.lost ≡ cond (is_lost_of p later) 1 0

pub packet_facts : (last : ℕ) (p : Packet) (later : ℕ) → packet_sound_of last p later ≡ true → SoundPacket last p later
packet_facts last p later e =
    let l = both (leb p.kind 4 && leb p.acked 1 && leb p.resent 1 && leb p.sent_at last) (eqb p.lost (cond (is_lost_of p later) 1 0)) e in
    let s = both (leb p.kind 4 && leb p.acked 1 && leb p.resent 1) (leb p.sent_at last) l.0 in
    let r = both (leb p.kind 4 && leb p.acked 1) (leb p.resent 1) s.0 in
    let a = both (leb p.kind 4) (leb p.acked 1) r.0 in
    record {
      kind_to = leb-true _ _ a.0;
      acked_to = leb-true _ _ a.1;
      resent_to = leb-true _ _ r.1;
      sent_to = leb-true _ _ s.1;
      lost_is = eqb-true _ _ l.1;
    }

pub packet_from : (last : ℕ) (p : Packet) (later : ℕ) → SoundPacket last p later → packet_sound_of last p later ≡ true
packet_from last p later s =
    and_of _ _ (and_of _ _ (and_of _ _ (and_of _ _ (le-leb _ _ s.kind_to) (le-leb _ _ s.acked_to)) (le-leb _ _ s.resent_to)) (le-leb _ _ s.sent_to))
    (eq-eqb _ _ s.lost_is)

-- while packets are acknowledged: a mark still means that the packet is lost, and some that are lost may not be marked yet
pub record LoosePacket (last : ℕ) (p : Packet) (later : ℕ) : Type 0 where
  pub kind_to : p.kind ≤ 4
  pub acked_to : p.acked ≤ 1
  pub resent_to : p.resent ≤ 1
  pub sent_to : p.sent_at ≤ last
  pub lost_to : p.lost ≤ 1
  pub lost_means : (p.lost ≡ 0 → ⊥) → is_lost_of p later ≡ true

sound_is_loose : (last b : ℕ) (p : Packet) (later : ℕ) → last ≤ b → SoundPacket last p later → LoosePacket b p later
sound_is_loose last b p later h s =
    let m = by_test (is_lost_of p later) refl s.lost_is in
    record {
      kind_to = s.kind_to;
      acked_to = s.acked_to;
      resent_to = s.resent_to;
      sent_to = omega (arith, s.sent_to);
      lost_to = m.0;
      lost_means = m.1;
    }
  where
    by_test : (t : Bool) → is_lost_of p later ≡ t → p.lost ≡ cond t 1 0 → (p.lost ≤ 1) × ((p.lost ≡ 0 → ⊥) → is_lost_of p later ≡ true)
    by_test true q e = (omega arith, λ n. q)
    by_test false q e = (omega arith, λ n. absurd (n e))

more_acked : (b : ℕ) (p : Packet) (later more : ℕ) → later ≤ more → LoosePacket b p later → LoosePacket b p more
more_acked b p later more h s =
    record {
      kind_to = s.kind_to;
      acked_to = s.acked_to;
      resent_to = s.resent_to;
      sent_to = s.sent_to;
      lost_to = s.lost_to;
      lost_means = λ n.
          let q = both (is_unacked p) (leb loss_threshold later) (s.lost_means n) in
          and_of (is_unacked p) (leb loss_threshold more) q.0 (le-leb loss_threshold more (omega (arith, leb-true loss_threshold later q.1)));
    }

-- ---- lists

pub Loose : ℕ → List Packet → Type 0
Loose b [] = Unit {0}
Loose b (p ∷ l) = LoosePacket b p (acked_count_of l) × Loose b l

pub sound_loose : (last b : ℕ) (l : List Packet) → last ≤ b → packets_sound_of last l ≡ true → Loose b l
unfolding Loose packets_sound_of
sound_loose last b [] h e = tt
sound_loose last b (p ∷ l) h e =
    let q = both (packets_sound_of last l) (packet_sound_of last p (acked_count_of l)) e in
    (sound_is_loose last b p (acked_count_of l) h (packet_facts last p (acked_count_of l) q.1), sound_loose last b l h q.0)

-- One packet acknowledged: one more is, the bytes in flight are less by its length, and the rest holds still.
pub acked_counts : (l : List Packet) (i : ℕ) → i < length l → is_unacked (get_or l i no_packet) ≡ true
    → acked_count_of (set l i (with_acked (get_or l i no_packet))) ≡ acked_count_of l + 1
unfolding acked_count_of
acked_counts [] i h u = absurd (omega arith)
acked_counts (p ∷ l) zero h u =
    let none : acked_one p ≡ 0 = ap (λ (t : Bool). cond t 0 1) u in
    omega arith
acked_counts (p ∷ l) (suc i) h u = omega (arith, acked_counts l i (omega arith) u)

pub acked_lands : (l : List Packet) (i : ℕ) → i < length l → is_unacked (get_or l i no_packet) ≡ true
    → in_flight_of (set l i (with_acked (get_or l i no_packet))) + (get_or l i no_packet).len ≡ in_flight_of l
unfolding in_flight_of
acked_lands [] i h u = absurd (omega arith)
acked_lands (p ∷ l) zero h u =
    let flies : flying_of p ≡ p.len = ap (λ (t : Bool). cond t p.len 0) u in
    omega arith
acked_lands (p ∷ l) (suc i) h u = omega (arith, acked_lands l i (omega arith) u)

pub acked_loose : (b : ℕ) (l : List Packet) (i : ℕ) → i < length l → is_unacked (get_or l i no_packet) ≡ true → Loose b l → Loose b (set l i (with_acked (get_or l i no_packet)))
unfolding Loose
acked_loose b [] i h u s = absurd (omega arith)
acked_loose b (p ∷ l) zero h u s = (
  record {
    kind_to = s.0.kind_to;
    acked_to = omega arith;
    resent_to = s.0.resent_to;
    sent_to = s.0.sent_to;
    lost_to = omega arith;
    lost_means = λ n. absurd (n refl);
  },
  s.1,
)
acked_loose b (p ∷ l) (suc i) h u s =
    (more_acked b p (acked_count_of l) (acked_count_of (set l i (with_acked (get_or l i no_packet)))) (omega (arith, acked_counts l i (omega arith) u)) s.0, acked_loose b l i (omega arith) u s.1)

-- ---- loss

pub marked-counts : (l : List Packet) → (acked_count_of (loss_marked_of l) ≡ acked_count_of l) × (in_flight_of (loss_marked_of l) ≡ in_flight_of l)
unfolding acked_count_of in_flight_of loss_marked_of
marked-counts [] = (refl, refl)
marked-counts (p ∷ l) =
    let r = marked-counts l in
    let s = by_test (is_newly_lost_of p (acked_count_of l)) in
    (ap₂ (λ (x y : ℕ). x + y) r.0 s.0, ap₂ (λ (x y : ℕ). x + y) r.1 s.1)
  where
    by_test : (t : Bool) → (acked_one (cond t (with_lost p 1) p) ≡ acked_one p) × (flying_of (cond t (with_lost p 1) p) ≡ flying_of p)
    by_test true = (refl, refl)
    by_test false = (refl, refl)

mark_is : (b : ℕ) (p : Packet) (later : ℕ) → LoosePacket b p later → SoundPacket b (cond (is_newly_lost_of p later) (with_lost p 1) p) later
mark_is b p later s = by_test (is_lost_of p later) (eqb p.lost 0) refl refl
  where
    by_test : (t u : Bool) → is_lost_of p later ≡ t → eqb p.lost 0 ≡ u → SoundPacket b (cond (is_newly_lost_of p later) (with_lost p 1) p) later
    by_test true true q z =
        subst⁻¹ (λ (x : Bool). SoundPacket b (cond x (with_lost p 1) p) later) (ap₂ (λ (x y : Bool). x && y) q z)
        (record {
          kind_to = s.kind_to;
          acked_to = s.acked_to;
          resent_to = s.resent_to;
          sent_to = s.sent_to;
          lost_is = sym (ap (λ (x : Bool). cond x 1 0) q);
        })
    by_test true false q z =
        let one = s.lost_to in
        let some = eqb-false p.lost 0 z in
        let marked : p.lost ≡ 1 = omega arith in
        subst⁻¹ (λ (x : Bool). SoundPacket b (cond x (with_lost p 1) p) later) (ap₂ (λ (x y : Bool). x && y) q z)
        (record {
          kind_to = s.kind_to;
          acked_to = s.acked_to;
          resent_to = s.resent_to;
          sent_to = s.sent_to;
          lost_is = marked ∙ sym (ap (λ (x : Bool). cond x 1 0) q);
        })
    by_test false true q z =
        subst⁻¹ (λ (x : Bool). SoundPacket b (cond x (with_lost p 1) p) later) (ap (λ (x : Bool). x && eqb p.lost 0) q)
        (record {
          kind_to = s.kind_to;
          acked_to = s.acked_to;
          resent_to = s.resent_to;
          sent_to = s.sent_to;
          lost_is = eqb-true p.lost 0 z ∙ sym (ap (λ (x : Bool). cond x 1 0) q);
        })
    by_test false false q z =
        let w : true ≡ false = sym (s.lost_means (eqb-false p.lost 0 z)) ∙ q in
        let c : ◌≡◌ {A = ℕ} 0 1 = cc in
        absurd (omega arith)

-- Loss marks what is lost, and no other.
pub marked_sound : (b : ℕ) (l : List Packet) → Loose b l → packets_sound_of b (loss_marked_of l) ≡ true
unfolding Loose packets_sound_of loss_marked_of
marked_sound b [] s = refl
marked_sound b (p ∷ l) s =
    and_of (packets_sound_of b (loss_marked_of l)) (packet_sound_of b (cond (is_newly_lost_of p (acked_count_of l)) (with_lost p 1) p) (acked_count_of (loss_marked_of l)))
    (marked_sound b l s.1)
    (ap (packet_sound_of b (cond (is_newly_lost_of p (acked_count_of l)) (with_lost p 1) p)) (marked-counts l).0 ∙ packet_from b (cond (is_newly_lost_of p (acked_count_of l)) (with_lost p 1) p) (acked_count_of l) (mark_is b p (acked_count_of l) s.0))

-- ---- release

pub record Released (b : ℕ) (l : List Packet) : Type 0 where
  pub fewer : length (from_unacked l) ≤ length l
  pub starts : starts_unacked (from_unacked l) ≡ true
  pub sound : packets_sound_of b (from_unacked l) ≡ true
  pub same_flight : in_flight_of (from_unacked l) ≡ in_flight_of l

pub released : (b : ℕ) (l : List Packet) → packets_sound_of b l ≡ true → Released b l
unfolding from_unacked packets_sound_of in_flight_of
released b [] e = record { fewer = omega arith; starts = refl; sound = refl; same_flight = refl }
released b (p ∷ l) e = by_test (released b l (both (packets_sound_of b l) (packet_sound_of b p (acked_count_of l)) e).0) (is_unacked p) refl
  where
    by_test : Released b l → (t : Bool) → is_unacked p ≡ t → Released b (p ∷ l)
    by_test r true u =
        let whole : from_unacked (p ∷ l) ≡ p ∷ l = ap (λ (t : Bool). cond t (p ∷ l) (from_unacked l)) u in
        record {
          fewer = omega (arith, ap length whole);
          starts = ap starts_unacked whole ∙ u;
          sound = ap (packets_sound_of b) whole ∙ e;
          same_flight = ap in_flight_of whole;
        }
    by_test r false u =
        let rest : from_unacked (p ∷ l) ≡ from_unacked l = ap (λ (t : Bool). cond t (p ∷ l) (from_unacked l)) u in
        let none : flying_of p ≡ 0 = ap (λ (t : Bool). cond t p.len 0) u in
        record {
          fewer = omega (arith, ap length rest, r.fewer);
          starts = ap starts_unacked rest ∙ r.starts;
          sound = ap (packets_sound_of b) rest ∙ r.sound;
          same_flight = ap in_flight_of rest ∙ r.same_flight ∙ omega arith;
        }

-- ---- a later clock, a retransmission, one more packet

pub sound_later : (last b : ℕ) (l : List Packet) → last ≤ b → packets_sound_of last l ≡ true → packets_sound_of b l ≡ true
unfolding packets_sound_of
sound_later last b [] h e = refl
sound_later last b (p ∷ l) h e =
    let q = both (packets_sound_of last l) (packet_sound_of last p (acked_count_of l)) e in
    let s = packet_facts last p (acked_count_of l) q.1 in
    and_of (packets_sound_of b l) (packet_sound_of b p (acked_count_of l)) (sound_later last b l h q.0)
    (packet_from b p (acked_count_of l) (record { kind_to = s.kind_to; acked_to = s.acked_to; resent_to = s.resent_to; sent_to = omega (arith, s.sent_to); lost_is = s.lost_is }))

pub resent_counts : (l : List Packet) (i : ℕ)
    → (acked_count_of (set l i (with_resent (get_or l i no_packet))) ≡ acked_count_of l) × (in_flight_of (set l i (with_resent (get_or l i no_packet))) ≡ in_flight_of l)
    × (starts_unacked (set l i (with_resent (get_or l i no_packet))) ≡ starts_unacked l)
unfolding acked_count_of in_flight_of
resent_counts [] i = (refl, refl, refl)
resent_counts (p ∷ l) zero = (refl, refl, refl)
resent_counts (p ∷ l) (suc i) = let r = resent_counts l i in (ap (λ (n : ℕ). n + acked_one p) r.0, ap (λ (n : ℕ). n + flying_of p) r.1, refl)

pub resent_sound : (b : ℕ) (l : List Packet) (i : ℕ) → packets_sound_of b l ≡ true → packets_sound_of b (set l i (with_resent (get_or l i no_packet))) ≡ true
unfolding packets_sound_of
resent_sound b [] i e = refl
resent_sound b (p ∷ l) zero e =
    let q = both (packets_sound_of b l) (packet_sound_of b p (acked_count_of l)) e in
    let s = packet_facts b p (acked_count_of l) q.1 in
    and_of (packets_sound_of b l) (packet_sound_of b (with_resent p) (acked_count_of l)) q.0
    (packet_from b (with_resent p) (acked_count_of l) (record { kind_to = s.kind_to; acked_to = s.acked_to; resent_to = omega arith; sent_to = s.sent_to; lost_is = s.lost_is }))
resent_sound b (p ∷ l) (suc i) e =
    let q = both (packets_sound_of b l) (packet_sound_of b p (acked_count_of l)) e in
    and_of (packets_sound_of b (set l i (with_resent (get_or l i no_packet)))) (packet_sound_of b p (acked_count_of (set l i (with_resent (get_or l i no_packet)))))
    (resent_sound b l i q.0)
    (ap (packet_sound_of b p) (resent_counts l i).0 ∙ q.1)

module _ (q : Packet) (fresh : is_unacked q ≡ true) where
  pub one_more_counts : (l : List Packet) → (acked_count_of (l ++ q ∷ []) ≡ acked_count_of l) × (in_flight_of (l ++ q ∷ []) ≡ in_flight_of l + q.len)
      × (starts_unacked l ≡ true → starts_unacked (l ++ q ∷ []) ≡ true)
  unfolding acked_count_of in_flight_of
  one_more_counts [] =
      let none : acked_one q ≡ 0 = ap (λ (t : Bool). cond t 0 1) fresh in
      let flies : flying_of q ≡ q.len = ap (λ (t : Bool). cond t q.len 0) fresh in
      (omega arith, omega arith, λ z. fresh)
  one_more_counts (p ∷ l) = let r = one_more_counts l in (ap (λ (n : ℕ). n + acked_one p) r.0, omega (arith, r.1), λ z. z)

  pub one_more_sound : (b : ℕ) (l : List Packet) → packets_sound_of b l ≡ true → packet_sound_of b q 0 ≡ true → packets_sound_of b (l ++ q ∷ []) ≡ true
  unfolding packets_sound_of acked_count_of
  one_more_sound b [] e k = k
  one_more_sound b (p ∷ l) e k =
      let s = both (packets_sound_of b l) (packet_sound_of b p (acked_count_of l)) e in
      and_of (packets_sound_of b (l ++ q ∷ [])) (packet_sound_of b p (acked_count_of (l ++ q ∷ []))) (one_more_sound b l s.0 k)
      (ap (packet_sound_of b p) (one_more_counts l).0 ∙ s.1)
