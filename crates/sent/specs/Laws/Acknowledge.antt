-- An ack in the state is an ack of document 01: every newly acknowledged packet takes the sample, which comes to taking it once.
use Rattle.std.specs.Prelude.{◌≡◌, Bool, ◌&&◌, cond, leb, ltb, eqb, length, take, drop, set}
use Rattle.std.proofs.Math.Path.{refl, ap, ap₂}
use Rattle.std.proofs.Common.{sym, ◌∙◌, arith, get_or-take}
use Rattle.std.proofs.Math.Bool.{true, false}
use Rattle.std.proofs.lemmas.Bool.{false≢true}
use mathlib.Core.List.{List, [], ◌∷◌}
use Prim.Native.Nat.{ℕ, ◌+◌, ◌-◌, ◌≤◌}
use Rattle.std.proofs.Math.ListN.{get_or, length-set}
use Rattle.std.proofs.Math.Seq.{take-set-lt, drop-set-lt}
use Rattle.congestion.specs.Laws.Numbers.{both}
use Rattle.seq.specs.declared.SeqNum.{SeqNum}
use Rattle.congestion.specs.declared.numbers.Numbers.{Numbers}
use Rattle.controller.specs.declared.delays.Delays.{Delays}
use Rattle.congestion.specs.Settings.{latest}
use Rattle.congestion.specs.Numbers.{sound_of, acked_of, credited_of, timed_of, adjusted_of}
use Rattle.controller.specs.Delays.{list_of, base_of, taken_of}
use Rattle.outgoing.specs.declared.kept.Packet.{Packet}
use Rattle.outgoing.specs.declared.ack.Ack.{Ack}
use Rattle.outgoing.specs.declared.ack.Heard.{Heard}
use Rattle.outgoing.specs.Loss.{is_unacked}
use Rattle.outgoing.specs.Tracker.{Tracker, gone_of, is_kept, packet_at, no_packet}
use Rattle.outgoing.specs.Ack.{with_acked, credited_by, sampled_of, newly_acked_of, acknowledged_of, all_acknowledged_of}
use Rattle.outgoing.specs.Hear.{keeps_of, place_of, newly_heard_of, heard_step, all_heard_of}
use Rattle.sent.specs.Laws.Kept.{kept_length}
use Rattle.outgoing.specs.Laws.Hear.{unkept_same, acked_same, unacked_heard, kept_place}

-- The delay window stays what it is.
credited_window : (n : Numbers) (base delay len : ℕ) (once : Bool) (p : ℕ) → (credited_of n base delay len once p).delay_window ≡ n.delay_window
unfolding credited_of timed_of adjusted_of
credited_window n base delay len true p = refl
credited_window n base delay len false p = refl

acked_window : (n : Numbers) (base delay len : ℕ) (once : Bool) (p : ℕ) → (acked_of n base delay len once p).delay_window ≡ n.delay_window
acked_window n base delay len once p = by_test (sound_of n) (leb p latest)
  where
    by_test : (t u : Bool) → (cond t (cond u (credited_of n base delay len once p) n) n).delay_window ≡ n.delay_window
    by_test true true = credited_window n base delay len once p
    by_test true false = refl
    by_test false u = refl

module _ (a : Ack) (initial : SeqNum) (live window : ℕ) (d₀ d₁ : Delays) (counts : a.gone + live ≡ a.count)
    (taken : taken_of d₀ a.delay a.clock window ≡ d₁) (again : taken_of d₁ a.delay a.clock window ≡ d₁) (base : a.base ≡ base_of (list_of d₁)) where
  -- The tracker that goes with what is worked on.
  abbrev pub tracker_at : Heard → Tracker
  tracker_at h =
      record {
        initial = initial;
        sent = a.count;
        packets = take live h.packets;
        numbers = h.numbers;
        delays = cond h.news d₁ d₀;
      }

  sampled : (h : Heard) → h.numbers.delay_window ≡ window → sampled_of (tracker_at h) a.delay a.clock ≡ d₁
  sampled h w = ap (taken_of (cond h.news d₁ d₀) a.delay a.clock) w ∙ by_test h.news
    where
      by_test : (t : Bool) → taken_of (cond t d₁ d₀) a.delay a.clock window ≡ d₁
      by_test true = again
      by_test false = taken

  module _ (h : Heard) (few : live ≤ length h.packets) (w : h.numbers.delay_window ≡ window) (o : ℕ) where
    gone_is : gone_of (tracker_at h) ≡ a.gone
    gone_is = ap (λ (n : ℕ). a.count - n) (kept_length h.packets live few) ∙ omega arith

    kept_is : is_kept (tracker_at h) o ≡ keeps_of a o
    kept_is = ap (λ (n : ℕ). ltb n o && leb o a.count) gone_is

    packet_is : keeps_of a o ≡ true → packet_at (tracker_at h) o ≡ get_or h.packets (place_of a o) no_packet
    packet_is k =
        let q = kept_place a o k in
        ap (λ (n : ℕ). get_or (take live h.packets) (o - n - 1) no_packet) gone_is ∙ get_or-take live h.packets (place_of a o) no_packet (omega arith)

    newly_is : keeps_of a o ≡ true → newly_acked_of (tracker_at h) a.delay a.clock o ≡ tracker_at (newly_heard_of a h o)
    unfolding newly_acked_of newly_heard_of
    newly_is k =
        let q = kept_place a o k in
        let p = get_or h.packets (place_of a o) no_packet in
        let s = sampled h w in
        ap₂ (λ (x : Packet) (n : ℕ). moved (set (take live h.packets) (o - n - 1) (with_acked x)) (base_of (list_of (sampled_of (tracker_at h) a.delay a.clock))) x (sampled_of (tracker_at h) a.delay a.clock))
        (packet_is k) gone_is
        ∙ ap (λ (d : Delays). moved (set (take live h.packets) (place_of a o) (with_acked p)) (base_of (list_of d)) p d) s
        ∙ ap₂ (λ (l : List Packet) (b : ℕ). moved l b p d₁) (sym (take-set-lt live h.packets (place_of a o) (with_acked p) (omega arith))) (sym base)
      where
        moved : List Packet → ℕ → Packet → Delays → Tracker
        moved l b p d =
            record { initial = initial; sent = a.count; packets = l; numbers = credited_by b a.delay a.clock p h.numbers; delays = d }

    step_tracks : acknowledged_of a.delay a.clock (tracker_at h) o ≡ tracker_at (heard_step a h o)
    step_tracks = by_kept (keeps_of a o) refl
      where
        by_unacked : keeps_of a o ≡ true → (t : Bool) → is_unacked (get_or h.packets (place_of a o) no_packet) ≡ t
            → acknowledged_of a.delay a.clock (tracker_at h) o ≡ tracker_at (heard_step a h o)
        by_unacked k true u =
            ap₂ (λ (x y : Bool). cond (x && y) (newly_acked_of (tracker_at h) a.delay a.clock o) (tracker_at h)) (kept_is ∙ k) (ap is_unacked (packet_is k) ∙ u)
            ∙ newly_is k
            ∙ sym (ap tracker_at (unacked_heard a h o k u))
        by_unacked k false u =
            ap₂ (λ (x y : Bool). cond (x && y) (newly_acked_of (tracker_at h) a.delay a.clock o) (tracker_at h)) (kept_is ∙ k) (ap is_unacked (packet_is k) ∙ u)
            ∙ sym (ap tracker_at (acked_same a h o k u))

        by_kept : (t : Bool) → keeps_of a o ≡ t → acknowledged_of a.delay a.clock (tracker_at h) o ≡ tracker_at (heard_step a h o)
        by_kept true k = by_unacked k (is_unacked (get_or h.packets (place_of a o) no_packet)) refl
        by_kept false k =
            ap (λ (x : Bool). cond (x && is_unacked (packet_at (tracker_at h) o)) (newly_acked_of (tracker_at h) a.delay a.clock o) (tracker_at h)) (kept_is ∙ k)
            ∙ sym (ap tracker_at (unkept_same a h o k))

  -- What a step leaves as it was.
  record Stays (h g : Heard) : Type 0 where
    same_length : length g.packets ≡ length h.packets
    same_rest : drop live g.packets ≡ drop live h.packets
    same_window : g.numbers.delay_window ≡ h.numbers.delay_window

  step_stays : (h : Heard) (o : ℕ) → Stays h (heard_step a h o)
  unfolding newly_heard_of
  step_stays h o = by_test (keeps_of a o && is_unacked (get_or h.packets (place_of a o) no_packet)) refl
    where
      by_test : (t : Bool) → (keeps_of a o && is_unacked (get_or h.packets (place_of a o) no_packet)) ≡ t → Stays h (cond t (newly_heard_of a h o) h)
      by_test true e =
          let q = kept_place a o (both (keeps_of a o) (is_unacked (get_or h.packets (place_of a o) no_packet)) e).0 in
          let p = get_or h.packets (place_of a o) no_packet in
          record {
            same_length = length-set h.packets (place_of a o) (with_acked p);
            same_rest = drop-set-lt live h.packets (place_of a o) (with_acked p) (omega arith);
            same_window = acked_window h.numbers a.base a.delay p.len (eqb p.resent 0) (a.clock - p.sent_at);
          }
      by_test false e = record { same_length = refl; same_rest = refl; same_window = refl }

  pub all_stays : (os : List ℕ) (h : Heard) → (length (all_heard_of a h os).packets ≡ length h.packets) × (drop live (all_heard_of a h os).packets ≡ drop live h.packets)
  unfolding all_heard_of
  all_stays [] h = (refl, refl)
  all_stays (o ∷ os) h =
      let s = step_stays h o in
      let r = all_stays os (heard_step a h o) in
      (r.0 ∙ s.same_length, r.1 ∙ s.same_rest)

  pub all_tracks : (os : List ℕ) (h : Heard) → live ≤ length h.packets → h.numbers.delay_window ≡ window
      → all_acknowledged_of a.delay a.clock (tracker_at h) os ≡ tracker_at (all_heard_of a h os)
  unfolding all_heard_of all_acknowledged_of
  all_tracks [] h few w = refl
  all_tracks (o ∷ os) h few w =
      let s = step_stays h o in
      ap (λ (t : Tracker). all_acknowledged_of a.delay a.clock t os) (step_tracks h few w o)
      ∙ all_tracks os (heard_step a h o) (omega (arith, s.same_length)) (s.same_window ∙ w)

-- ---- no news

module _ (a : Ack) where
  news_stays : (os : List ℕ) (h : Heard) → h.news ≡ true → (all_heard_of a h os).news ≡ true
  unfolding all_heard_of newly_heard_of
  news_stays [] h e = e
  news_stays (o ∷ os) h e = news_stays os (heard_step a h o) (by_test (keeps_of a o && is_unacked (get_or h.packets (place_of a o) no_packet)))
    where
      by_test : (t : Bool) → (cond t (newly_heard_of a h o) h).news ≡ true
      by_test true = refl
      by_test false = e

  -- Where no packet was newly acknowledged, nothing was changed.
  pub no_news : (os : List ℕ) (h : Heard) → (all_heard_of a h os).news ≡ false → all_heard_of a h os ≡ h
  unfolding all_heard_of newly_heard_of
  no_news [] h e = refl
  no_news (o ∷ os) h e = by_test (λ q. no_news os h q) (keeps_of a o && is_unacked (get_or h.packets (place_of a o) no_packet)) e
    where
      by_test : ((all_heard_of a h os).news ≡ false → all_heard_of a h os ≡ h) → (t : Bool) → (all_heard_of a (cond t (newly_heard_of a h o) h) os).news ≡ false
          → all_heard_of a (cond t (newly_heard_of a h o) h) os ≡ h
      by_test again true q = absurd (false≢true (sym q ∙ news_stays os (newly_heard_of a h o) refl))
      by_test again false q = again q
