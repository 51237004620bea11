-- What an ack leaves in the state: where nothing was newly acknowledged only the clock, and else the marks, with what is kept moved down.
use Rattle.std.specs.Prelude.{◌≡◌, refl, Bool, true, false, cond, leb, ltb, eqb, length, take}
use Rattle.std.proofs.Math.Path.{sym, ap, ap₂}
use Rattle.std.proofs.Common.{◌∙◌, arith, length-drop, take_at, eqb-true, leb-true, ltb-false}
use mathlib.Core.List.{List, ◌++◌}
use Prim.Native.Nat.{ℕ, ◌+◌, ◌-◌, ◌%◌, ◌≤◌}
use Rattle.std.proofs.Math.ListN.{drop}
use Rattle.std.proofs.lemmas.List.{drop-append-le}
use Rattle.common.specs.Answer.{Answer, done, refused, ◌then◌}
use Rattle.seq.specs.declared.SeqNum.{SeqNum}
use Rattle.packet.specs.Sack.{mask_answer}
use Rattle.congestion.specs.declared.numbers.Numbers.{Numbers}
use Rattle.controller.specs.declared.delays.Delays.{Delays}
use Rattle.congestion.specs.Numbers.{accepted_of}
use Rattle.controller.specs.Delays.{list_of, base_of, taken_of}
use Rattle.congestion.specs.Laws.Numbers.{both, sound_facts}
use Rattle.outgoing.specs.declared.kept.Packet.{Packet}
use Rattle.sent.specs.declared.state.SentPackets.{SentPackets}
use Rattle.outgoing.specs.declared.ack.Ack.{Ack}
use Rattle.outgoing.specs.declared.ack.Heard.{Heard}
use Rattle.outgoing.specs.Loss.{loss_marked_of, loss_counted_of}
use Rattle.outgoing.specs.Tracker.{Tracker, places, offset_in, clock_answer, clocked_of}
use Rattle.outgoing.specs.Ack.{heard_of, loss_of, from_unacked, released_of, marked_of, delay_answer, may_ack, ack_check, ack_of}
use Rattle.outgoing.specs.Hear.{all_heard_of, loss_heard_of}
use Rattle.sent.specs.State.{tracker_of, written_of, state_sound_of, ack_state_of, answered_as, ack_answer}
use Rattle.outgoing.specs.Laws.Checks.{never, then_done, held, not_held}
use Rattle.sent.specs.Laws.Kept.{kept_length, written_kept}
use Rattle.sent.specs.Laws.Sound.{state_facts, state_counts, sound_answered}
use Rattle.sent.specs.Laws.Transmit.{state_with}
use Rattle.outgoing.specs.Laws.Sample.{taken_again}
use Rattle.sent.specs.Laws.Loss.{marked-length, loss_none, run_stays}
use Rattle.sent.specs.Laws.Acknowledge.{tracker_at, all_stays, all_tracks, no_news}

module _ (s : SentPackets) (full : length s.packets ≡ places) (e : state_sound_of s ≡ true) (o : ℕ) (mask : List ℕ) (delay clock : ℕ) (taken : Delays)
    (base : ℕ) (t_is : taken ≡ taken_of s.delays delay clock s.numbers.delay_window) (b_is : base ≡ base_of (list_of taken)) where
  abbrev pub ack_on : Ack
  ack_on = record { offset = o; gone = s.count - s.live; count = s.count; base = base; delay = delay; clock = clock }

  abbrev pub start_on : Heard
  start_on = record { packets = s.packets; numbers = s.numbers; news = false }

  abbrev pub heard_on : Heard
  heard_on = all_heard_of ack_on start_on (heard_of s.count o mask)

  counts : s.count - s.live + s.live ≡ s.count
  counts = omega (arith, (state_counts s e full).1)

  few : s.live ≤ length s.packets
  few = omega (arith, (state_counts s e full).0, full)

  same_again : taken_of taken delay clock s.numbers.delay_window ≡ taken
  same_again =
      let f = (state_facts s e).1 in
      ap (λ (d : Delays). taken_of d delay clock s.numbers.delay_window) t_is
      ∙ taken_again s.delays delay clock s.numbers.delay_window s.numbers.last (sound_facts s.numbers f.numbers_sound).rules.delay_window_in.0 f.delays_sound
      ∙ sym t_is

  abbrev at : Heard → Tracker
  at h = tracker_at ack_on (record { 0 = s.initial }) s.live s.numbers.delay_window s.delays taken counts (sym t_is) same_again b_is h

  marked_is : marked_of (tracker_of s) o mask delay clock ≡ loss_of (at heard_on)
  unfolding marked_of
  marked_is =
      ap loss_of
      (all_tracks ack_on (record { 0 = s.initial }) s.live s.numbers.delay_window s.delays taken counts (sym t_is) same_again b_is (heard_of s.count o mask) start_on few refl)

  -- ---- nothing newly acknowledged

  quiet_same : heard_on.news ≡ false → marked_of (tracker_of s) o mask delay clock ≡ tracker_of s
  quiet_same q =
      let f = (state_facts s e).1 in
      let none = loss_none s.numbers.last (take s.live s.packets) s.numbers f.packets_sound in
      marked_is ∙ ap (λ (h : Heard). loss_of (at h)) (no_news ack_on (heard_of s.count o mask) start_on q)
      ∙ ap₂ (λ (l : List Packet) (n : Numbers). with_packets l n) none.0 none.1
    where
      with_packets : List Packet → Numbers → Tracker
      with_packets l n = record { initial = record { 0 = s.initial }; sent = s.count; packets = l; numbers = n; delays = s.delays }

  pub quiet : heard_on.news ≡ false → state_with s s.count s.live (accepted_of s.numbers clock) s.packets ≡ ack_state_of s o mask delay clock
  unfolding ack_state_of
  quiet q =
      let f = (state_facts s e).1 in
      let i : SeqNum = record { 0 = s.initial } in
      sym (written_kept s i s.count (accepted_of s.numbers clock) s.delays few)
      ∙ sym (ap (λ (x : SentPackets). written_of x (clocked_of (tracker_of s) clock)) (written_kept s i s.count s.numbers s.delays few))
      ∙ sym (ap (λ (l : List Packet). written_of (written_of s (tracker_of s)) (kept_as l)) (run_stays (take s.live s.packets) f.starts))
      ∙ sym (ap (λ (t : Tracker). written_of (written_of s t) (clocked_of (released_of t) clock)) (quiet_same q))
    where
      kept_as : List Packet → Tracker
      kept_as l = record { initial = record { 0 = s.initial }; sent = s.count; packets = l; numbers = accepted_of s.numbers clock; delays = s.delays }

  -- ---- news

  module _ (news : heard_on.news ≡ true) (run : ℕ) (kept : List Packet) (within : run ≤ s.live)
      (run_is : from_unacked (take s.live (loss_heard_of heard_on s.live).packets) ≡ drop run (take s.live (loss_heard_of heard_on s.live).packets))
      (kept_is : kept ≡ take (s.live - run) (drop run (loss_heard_of heard_on s.live).packets) ++ drop (s.live - run) (loss_heard_of heard_on s.live).packets) where
    m : List Packet
    m = loss_marked_of (take s.live heard_on.packets)

    stays : (length heard_on.packets ≡ length s.packets) × (drop s.live heard_on.packets ≡ drop s.live s.packets)
    stays = all_stays ack_on (record { 0 = s.initial }) s.live s.numbers.delay_window s.delays taken counts (sym t_is) same_again b_is (heard_of s.count o mask) start_on

    m_length : length m ≡ s.live
    unfolding m
    m_length = marked-length (take s.live heard_on.packets) ∙ kept_length heard_on.packets s.live (omega (arith, stays.0, few))

    array : (loss_heard_of heard_on s.live).packets ≡ m ++ drop s.live s.packets
    unfolding loss_heard_of m
    array = ap (λ (l : List Packet). loss_marked_of (take s.live heard_on.packets) ++ l) stays.1

    front : take s.live (loss_heard_of heard_on s.live).packets ≡ m
    front = ap (take s.live) array ∙ take_at m (drop s.live s.packets) s.live m_length

    left_is : from_unacked m ≡ drop run m
    left_is = sym (ap from_unacked front) ∙ run_is ∙ ap (drop run) front

    left_length : length (from_unacked m) ≡ s.live - run
    left_length = ap length left_is ∙ length-drop run m ∙ ap (λ (n : ℕ). n - run) m_length

    moved : kept ≡ from_unacked m ++ drop (s.live - run) (m ++ drop s.live s.packets)
    moved =
        kept_is
        ∙ ap (λ (l : List Packet). take (s.live - run) (drop run l) ++ drop (s.live - run) l) array
        ∙ ap (λ (l : List Packet). take (s.live - run) l ++ drop (s.live - run) (m ++ drop s.live s.packets))
        (drop-append-le run m (drop s.live s.packets) (omega (arith, m_length)))
        ∙ ap (λ (l : List Packet). l ++ drop (s.live - run) (m ++ drop s.live s.packets))
        (take_at (drop run m) (drop s.live s.packets) (s.live - run) (sym (ap length left_is) ∙ left_length) ∙ sym left_is)

    pub loud : record {
      initial = s.initial;
      count = s.count;
      live = s.live - run;
      numbers = accepted_of (loss_heard_of heard_on s.live).numbers clock;
      delays = taken;
      packets = kept;
    }
        ≡ ack_state_of s o mask delay clock
    unfolding ack_state_of loss_heard_of m
    loud =
        ap₂ (λ (n : ℕ) (l : List Packet). state n taken l) (sym left_length) moved
        ∙ ap (λ (n : ℕ). state (length (from_unacked m)) taken (from_unacked m ++ drop n (m ++ drop s.live s.packets))) (sym left_length)
        ∙ ap (λ (n : ℕ). state (length (from_unacked m)) taken (from_unacked m ++ drop (length (from_unacked m)) (m ++ drop n s.packets))) (sym m_length)
        ∙ ap (λ (d : Delays). state (length (from_unacked m)) d (from_unacked m ++ drop (length (from_unacked m)) (m ++ drop (length m) s.packets))) (sym new_sample)
        ∙ sym (ap (λ (t : Tracker). written_of (written_of s t) (clocked_of (released_of t) clock)) marked_is)
      where
        state : ℕ → Delays → List Packet → SentPackets
        state n d l =
            record {
              initial = s.initial;
              count = s.count;
              live = n;
              numbers = accepted_of (loss_counted_of (take s.live heard_on.packets) heard_on.numbers) clock;
              delays = d;
              packets = l;
            }

        new_sample : cond heard_on.news taken s.delays ≡ taken
        new_sample = ap (λ (t : Bool). cond t taken s.delays) news

-- ---- the whole answer

module _ (s : SentPackets) (e : state_sound_of s ≡ true) (number : SeqNum) (mask : List ℕ) (delay clock : ℕ) (a : Answer (Unit {0}))
    (check : a ≡ ack_check s.numbers.last s.count (offset_in (tracker_of s) number) (length mask) delay clock) where
  pub ack_refused : (n : ℕ) → a ≡ refused n → (refused n, s) ≡ ack_answer s number mask delay clock
  unfolding ack_answer ack_of
  ack_refused n r =
      sym (ap (answered_as s (ack_state_of s (offset_in (tracker_of s) number) mask delay clock)) (sound_answered s (ack_of (tracker_of s) number mask delay clock) e)
      ∙ ap (λ (b : Answer (Unit {0})). answered_as s (ack_state_of s (offset_in (tracker_of s) number) mask delay clock)
      (b then done (clocked_of (released_of (marked_of (tracker_of s) (offset_in (tracker_of s) number) mask delay clock)) clock))) (sym check ∙ r))

  pub ack_done : (next : SentPackets) → a ≡ done tt → next ≡ ack_state_of s (offset_in (tracker_of s) number) mask delay clock
      → (done tt, next) ≡ ack_answer s number mask delay clock
  unfolding ack_answer ack_of
  ack_done next d w =
      ap (λ (x : SentPackets). (done tt, x)) w
      ∙ sym (ap (answered_as s (ack_state_of s (offset_in (tracker_of s) number) mask delay clock)) (sound_answered s (ack_of (tracker_of s) number mask delay clock) e)
      ∙ ap (λ (b : Answer (Unit {0})). answered_as s (ack_state_of s (offset_in (tracker_of s) number) mask delay clock)
      (b then done (clocked_of (released_of (marked_of (tracker_of s) (offset_in (tracker_of s) number) mask delay clock)) clock))) (sym check ∙ d))

-- A checked ack has an offset from 1 to n, and a SACK of at most 252 bytes.
mask_short : (bytes : ℕ) (m : ℕ) → mask_answer bytes ≡ done m → bytes ≤ 252
mask_short bytes m e = by_test (eqb bytes 0) refl
  where
    by_test : (t : Bool) → eqb bytes 0 ≡ t → bytes ≤ 252
    by_test true q = omega (arith, eqb-true bytes 0 q)
    by_test false q =
        let words = cond (eqb (bytes % 4) 0) (cond (ltb 252 bytes) (refused 8) (done bytes)) (refused 6) in
        let a : cond (ltb bytes 4) (refused 5) words ≡ done m = sym (ap (λ (t : Bool). cond t (done 0) (cond (ltb bytes 4) (refused 5) words)) q) ∙ e in
        let b = (not_held (ltb bytes 4) words 5 m a).1 in
        let c = (held (eqb (bytes % 4) 0) (cond (ltb 252 bytes) (refused 8) (done bytes)) 6 m b).1 in
        ltb-false 252 bytes (not_held (ltb 252 bytes) (done bytes) 8 m c).0

pub ack_checked : (last n o bytes delay clock : ℕ) → ack_check last n o bytes delay clock ≡ done tt → (1 ≤ o) × (o ≤ n) × (bytes ≤ 252)
unfolding ack_check
ack_checked last n o bytes delay clock e =
    let sent : Answer (Unit {0}) = cond (may_ack n o) (done tt) (refused 12) in
    let a = then_done (clock_answer last clock) (delay_answer delay then (mask_answer bytes then sent)) tt e in
    let b = then_done (delay_answer delay) (mask_answer bytes then sent) tt a in
    let c = then_done (mask_answer bytes) sent tt b in
    let d = (held (may_ack n o) (done tt) 12 tt c).0 in
    let f = both (leb 1 o) (leb o n) d in
    (leb-true 1 o f.0, leb-true o n f.1, by_mask sent (mask_answer bytes) refl b)
  where
    by_mask : (sent : Answer (Unit {0})) (a : Answer ℕ) → mask_answer bytes ≡ a → (a then sent) ≡ done tt → bytes ≤ 252
    by_mask sent (done k) q f = mask_short bytes k q
    by_mask sent (refused k) q f = never k (tt {0}) f
