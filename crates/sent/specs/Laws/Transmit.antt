-- A transmit in the state: what is stored where.
use Rattle.std.specs.Prelude.{◌≡◌, refl, Bool, true, false, ◌&&◌, cond, List, ℕ, ◌+◌, ◌-◌, ◌≤◌, ◌<◌, leb, ltb, length, take, get_or, set}
use Rattle.std.proofs.Math.Path.{sym, ap}
use Rattle.std.proofs.Common.{ap₂, ◌∙◌, arith, get_or-take, le-leb, lt-ltb, le-ltb, leb-false}
use Rattle.std.proofs.lemmas.Bool.{lt-leb}
use Rattle.common.specs.Answer.{Answer, done, refused, ◌then◌}
use Rattle.seq.specs.declared.SeqNum.{SeqNum}
use Rattle.congestion.specs.declared.numbers.Numbers.{Numbers}
use Rattle.packet.specs.declared.kind.PacketType.{PacketType}
use Rattle.congestion.specs.Numbers.{accepted_of, transmitted_of, free_of}
use Rattle.outgoing.specs.declared.kept.Packet.{Packet}
use Rattle.sent.specs.declared.state.SentPackets.{SentPackets}
use Rattle.outgoing.specs.Tracker.{Tracker, places, most_sent, offset_in, clock_answer, gone_of, is_kept, no_packet, packet_at, with_packet_at, clocked_of}
use Rattle.outgoing.specs.Transmit.{may_transmit, room_answer, transmit_check, with_resent, resent_of, first_sent, recorded_of, sent_of, transmit_of}
use Rattle.sent.specs.State.{tracker_of, written_of, state_sound_of, answered_of, when_state_sound, transmit_answer}
use Rattle.sent.specs.Laws.Kept.{written_kept, written_at, written_behind}
use Rattle.sent.specs.Laws.Sound.{state_counts, unsound_refused, sound_answered}
use Rattle.outgoing.specs.Laws.Checks.{then_done, held, not_held}

-- the state with its numbers and packets replaced
abbrev pub state_with : SentPackets → ℕ → ℕ → Numbers → List Packet → SentPackets
state_with s count live numbers packets =
    record { initial = s.initial; count = count; live = live; numbers = numbers; delays = s.delays; packets = packets }

module _ (s : SentPackets) (full : length s.packets ≡ places) (e : state_sound_of s ≡ true) where
  gone_is : gone_of (tracker_of s) ≡ s.count - s.live
  gone_is = ap (λ (n : ℕ). s.count - n) (state_counts s e full).3

  pub kept_when : (o : ℕ) → s.count - s.live < o → o ≤ s.count → is_kept (tracker_of s) o ≡ true
  kept_when o h k =
      ap (λ (n : ℕ). ltb n o && leb o s.count) gone_is ∙ ap₂ (λ (x y : Bool). x && y) (lt-ltb (s.count - s.live) o h) (le-leb o s.count k)

  pub kept_never : (o : ℕ) → o ≤ s.count - s.live → is_kept (tracker_of s) o ≡ false
  kept_never o h = ap (λ (n : ℕ). ltb n o && leb o s.count) gone_is ∙ ap (λ (x : Bool). x && leb o s.count) (le-ltb (s.count - s.live) o h)

  pub packet_at_place : (o : ℕ) → s.count - s.live < o → o ≤ s.count
      → packet_at (tracker_of s) o ≡ get_or s.packets (o - (s.count - s.live) - 1) no_packet
  packet_at_place o h k =
      let q = state_counts s e full in
      ap (λ (n : ℕ). get_or (take s.live s.packets) (o - n - 1) no_packet) gone_is
      ∙ get_or-take s.live s.packets (o - (s.count - s.live) - 1) no_packet (omega (arith, q.1))

  pub resent_gone : (o clock : ℕ) → o ≤ s.count - s.live
      → state_with s s.count s.live (accepted_of s.numbers clock) s.packets ≡ written_of s (clocked_of (resent_of (tracker_of s) o) clock)
  resent_gone o clock h =
      let q = state_counts s e full in
      sym (written_kept s (record { 0 = s.initial }) s.count (accepted_of s.numbers clock) s.delays (omega (arith, q.0, full)))
      ∙ sym (ap (λ (t : Bool). written_of s (clocked_of (cond t (with_packet_at (tracker_of s) o (with_resent (packet_at (tracker_of s) o))) (tracker_of s)) clock)) (kept_never o h))

  pub resent_kept : (o clock : ℕ) → s.count - s.live < o → o ≤ s.count
      → state_with s s.count s.live (accepted_of s.numbers clock)
      (set s.packets (o - (s.count - s.live) - 1) (with_resent (get_or s.packets (o - (s.count - s.live) - 1) no_packet)))
      ≡ written_of s (clocked_of (resent_of (tracker_of s) o) clock)
  resent_kept o clock h k =
      let q = state_counts s e full in
      sym (written_at s (record { 0 = s.initial }) s.count (accepted_of s.numbers clock) s.delays (o - (s.count - s.live) - 1)
      (with_resent (get_or s.packets (o - (s.count - s.live) - 1) no_packet)) (omega (arith, q.1)) (omega (arith, q.0, full)))
      ∙ sym (ap (λ (p : Packet). written_of s (stored (s.count - s.live) (with_resent p))) (packet_at_place o h k))
      ∙ sym (ap (λ (n : ℕ). written_of s (stored n (with_resent (packet_at (tracker_of s) o)))) gone_is)
      ∙ sym (ap (λ (t : Bool). written_of s (clocked_of (cond t (with_packet_at (tracker_of s) o (with_resent (packet_at (tracker_of s) o))) (tracker_of s)) clock)) (kept_when o h k))
    where
      stored : ℕ → Packet → Tracker
      stored gone p =
          record {
            initial = record { 0 = s.initial };
            sent = s.count;
            packets = set (take s.live s.packets) (o - gone - 1) p;
            numbers = accepted_of s.numbers clock;
            delays = s.delays;
          }

  pub recorded_behind : (p : Packet) (clock : ℕ) → s.live < places
      → state_with s (s.count + 1) (s.live + 1) (accepted_of (transmitted_of s.numbers p.len) clock) (set s.packets s.live p)
      ≡ written_of s (clocked_of (recorded_of (tracker_of s) p) clock)
  recorded_behind p clock h =
      sym (written_behind s (record { 0 = s.initial }) (s.count + 1) (accepted_of (transmitted_of s.numbers p.len) clock) s.delays p (omega (arith, full)))

-- ---- the whole answer

-- A first transmit that passed its checks finds a free place.
pub room_checked : (numbers : Numbers) (n kept o len clock : ℕ) → transmit_check numbers n kept o len clock ≡ done tt → n < o → kept < places
unfolding transmit_check
room_checked numbers n kept o len clock e h =
    let f = then_done (clock_answer numbers.last clock) (cond (may_transmit n o) (cond (leb o n) (done tt) (room_answer numbers n kept len)) (refused 12)) tt e in
    let g = (held (may_transmit n o) (cond (leb o n) (done tt) (room_answer numbers n kept len)) 12 tt f).1 in
    let r : room_answer numbers n kept len ≡ done tt = sym (ap (λ (t : Bool). cond t (done tt) (room_answer numbers n kept len)) (lt-leb o n h)) ∙ g in
    let w = (not_held (leb most_sent n) (cond (ltb (free_of numbers) len) (refused 13) (cond (leb places kept) (refused 14) (done tt))) 15 tt r).1 in
    let p = (not_held (ltb (free_of numbers) len) (cond (leb places kept) (refused 14) (done tt)) 13 tt w).1 in
    leb-false places kept (not_held (leb places kept) (done tt) 14 tt p).0

module _ (s : SentPackets) (full : length s.packets ≡ places) (e : state_sound_of s ≡ true) (number : SeqNum) (type : PacketType) (tag len clock : ℕ)
    (a : Answer (Unit {0})) (check : a ≡ transmit_check s.numbers s.count s.live (offset_in (tracker_of s) number) len clock) where
  answer_is : transmit_answer s number type tag len clock
      ≡ answered_of s (a then done (clocked_of (sent_of (tracker_of s) (offset_in (tracker_of s) number) (first_sent type tag len clock)) clock))
  unfolding transmit_answer transmit_of
  answer_is =
      ap (answered_of s) (sound_answered s (transmit_of (tracker_of s) number type tag len clock) e)
      ∙ ap (λ (k : ℕ). answered_of s (transmit_check s.numbers s.count k (offset_in (tracker_of s) number) len clock then done (clocked_of (sent_of (tracker_of s) (offset_in (tracker_of s) number) (first_sent type tag len clock)) clock)))
      (state_counts s e full).3
      ∙ sym (ap (λ (b : Answer (Unit {0})). answered_of s (b then done (clocked_of (sent_of (tracker_of s) (offset_in (tracker_of s) number) (first_sent type tag len clock)) clock))) check)

  pub transmit_refused : (n : ℕ) → a ≡ refused n → (refused n, s) ≡ transmit_answer s number type tag len clock
  transmit_refused n r =
      sym (answer_is
      ∙ ap (λ (b : Answer (Unit {0})). answered_of s (b then done (clocked_of (sent_of (tracker_of s) (offset_in (tracker_of s) number) (first_sent type tag len clock)) clock))) r)

  accepted_is : a ≡ done tt
      → transmit_answer s number type tag len clock
      ≡ (done tt, written_of s (clocked_of (sent_of (tracker_of s) (offset_in (tracker_of s) number) (first_sent type tag len clock)) clock))
  accepted_is d =
      answer_is ∙ ap (λ (b : Answer (Unit {0})). answered_of s (b then done (clocked_of (sent_of (tracker_of s) (offset_in (tracker_of s) number) (first_sent type tag len clock)) clock))) d

  pub transmit_again : (next : SentPackets) → a ≡ done tt → offset_in (tracker_of s) number ≤ s.count
      → next ≡ written_of s (clocked_of (resent_of (tracker_of s) (offset_in (tracker_of s) number)) clock)
      → (done tt, next) ≡ transmit_answer s number type tag len clock
  unfolding sent_of
  transmit_again next d h w =
      ap (λ (x : SentPackets). (done tt, x)) w
      ∙ sym (accepted_is d
      ∙ ap (λ (t : Bool). (done tt, written_of s (clocked_of (cond t (resent_of (tracker_of s) (offset_in (tracker_of s) number)) (recorded_of (tracker_of s) (first_sent type tag len clock))) clock)))
      (le-leb (offset_in (tracker_of s) number) s.count h))

  pub transmit_first : (next : SentPackets) → a ≡ done tt → s.count < offset_in (tracker_of s) number
      → next ≡ written_of s (clocked_of (recorded_of (tracker_of s) (first_sent type tag len clock)) clock)
      → (done tt, next) ≡ transmit_answer s number type tag len clock
  unfolding sent_of
  transmit_first next d h w =
      ap (λ (x : SentPackets). (done tt, x)) w
      ∙ sym (accepted_is d
      ∙ ap (λ (t : Bool). (done tt, written_of s (clocked_of (cond t (resent_of (tracker_of s) (offset_in (tracker_of s) number)) (recorded_of (tracker_of s) (first_sent type tag len clock))) clock)))
      (lt-leb (offset_in (tracker_of s) number) s.count h))

-- Refused by the soundness test or by a check: the state stays.
pub transmit_stopped : (s : SentPackets) → length s.packets ≡ places → (number : SeqNum) (type : PacketType) (tag len clock n : ℕ)
    → when_state_sound s (transmit_check s.numbers s.count s.live (offset_in (tracker_of s) number) len clock) ≡ refused n
    → (refused n, s) ≡ transmit_answer s number type tag len clock
unfolding transmit_answer
transmit_stopped s full number type tag len clock n h = by_test (state_sound_of s) refl h
  where
    by_test : (t : Bool) → state_sound_of s ≡ t → cond t (transmit_check s.numbers s.count s.live (offset_in (tracker_of s) number) len clock) (refused 19) ≡ refused n
        → (refused n, s) ≡ transmit_answer s number type tag len clock
    by_test true e h = transmit_refused s full e number type tag len clock _ refl n h
    by_test false e h = sym (ap (λ (a : Answer (Unit {0})). (a, s)) h) ∙ sym (ap (answered_of s) (unsound_refused s _ e))
