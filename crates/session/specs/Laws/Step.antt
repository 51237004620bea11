-- The cases of a step.
use Rattle.std.specs.Prelude.{ℕ, ◌+◌, ◌*◌, ◌-◌, ◌≤◌, ◌<◌, Bool, true, false, ◌&&◌, ◌≡◌, leb, eqb, length, take, drop}
use Rattle.std.proofs.Common.{arith, ◌∙◌, le-leb, leb-true, eq-eqb, ne_eqb}
use Rattle.std.proofs.Math.Bool.{cond}
use mathlib.Core.List.{List, [], ◌∷◌}
use Rattle.std.proofs.Math.Path.{refl, sym, ap, ap₂}
use Rattle.std.specs.Bool.{then_some}
use Rattle.std.proofs.lemmas.Bool.{lt-leb}
use Rattle.common.specs.Answer.{Answer, done, refused}
use Rattle.packet.specs.Kind.{type_of}
use Rattle.packet.specs.Decode.{part_of}
use Rattle.packet.specs.declared.kind.PacketType.{PacketType}
use Rattle.sent.specs.declared.state.SentPackets.{SentPackets}
use Rattle.sent.specs.State.{transmit_answer, ack_answer, timeout_answer}
use Rattle.session.specs.declared.event.Event.{Event}
use Rattle.session.specs.declared.line.Line.{Line}
use Rattle.session.specs.declared.replay.Replay.{Replay}
use Rattle.session.specs.Format.{event_of, is_known, sack_size}
use Rattle.session.specs.Lines.{seq, number_of}
use Rattle.session.specs.Replay.{found, event_at, event_state, shown_of, behind_of, after_of, taken_of, step_of, step_answer}

-- ---- the event of an index

module _ (file : List ℕ) (index : ℕ) where
  pub event-none : length file < 72 + 24 * index + 24 → refused 20 ≡ event_at file index
  unfolding event_at
  event-none h =
      let e = event_of (drop (72 + 24 * index) file) in
      sym (ap (λ (b : Bool). cond (b && is_known e) (done e) (refused 20)) (lt-leb (72 + 24 * index + 24) (length file) h))

  pub event-unknown : (known : Bool) (e : Event) → 72 + 24 * index + 24 ≤ length file → e ≡ event_of (drop (72 + 24 * index) file) → known ≡ is_known e → known ≡ false → refused 20 ≡ event_at file index
  unfolding event_at
  event-unknown known e h is k f =
      let x = event_of (drop (72 + 24 * index) file) in
      sym (ap₂ (λ (b c : Bool). cond (b && c) (done x) (refused 20)) (le-leb (72 + 24 * index + 24) (length file) h) (ap is_known (sym is) ∙ (sym k ∙ f)))

  pub event_there : (known : Bool) (e : Event) → 72 + 24 * index + 24 ≤ length file → e ≡ event_of (drop (72 + 24 * index) file) → known ≡ is_known e → known ≡ true → done e ≡ event_at file index
  unfolding event_at
  event_there known e h is k t =
      let x = event_of (drop (72 + 24 * index) file) in
      ap done is ∙ sym (ap₂ (λ (b c : Bool). cond (b && c) (done x) (refused 20)) (le-leb (72 + 24 * index + 24) (length file) h) (ap is_known (sym is) ∙ (sym k ∙ t)))

  pub event_found : (known : Bool) (e : Event) → 72 + 24 * index + 24 ≤ length file → e ≡ event_of (drop (72 + 24 * index) file) → known ≡ is_known e
      → found (then_some known e) ≡ event_at file index
  event_found true e h is k = event_there true e h is k refl
  event_found false e h is k = event-unknown false e h is k refl

-- ---- what the tracker answers

module _ (s : SentPackets) (index : ℕ) (e : Event) (sack : List ℕ) where
  pub state_transmit : (type : PacketType) → e.kind ≡ 1 → type ≡ type_of e.packet_type
      → transmit_answer s (seq e.number) type index e.size e.clock ≡ event_state s index e sack
  state_transmit type h t =
      ap (λ (x : PacketType). transmit_answer s (seq e.number) x index e.size e.clock) t
      ∙ sym (ap (λ (b : Bool). cond b (transmit_answer s (seq e.number) (type_of e.packet_type) index e.size e.clock) (cond (eqb e.kind 2) (ack_answer s (seq e.number) sack e.delay e.clock) (timeout_answer s)))
      (eq-eqb e.kind 1 h))

  pub state_ack : (e.kind ≡ 1 → ⊥) → e.kind ≡ 2 → ack_answer s (seq e.number) sack e.delay e.clock ≡ event_state s index e sack
  state_ack n h =
      sym (ap₂ (λ (b c : Bool). cond b (transmit_answer s (seq e.number) (type_of e.packet_type) index e.size e.clock) (cond c (ack_answer s (seq e.number) sack e.delay e.clock) (timeout_answer s)))
      (ne_eqb e.kind 1 n) (eq-eqb e.kind 2 h))

  pub state_timeout : (e.kind ≡ 1 → ⊥) → (e.kind ≡ 2 → ⊥) → timeout_answer s ≡ event_state s index e sack
  state_timeout n m =
      sym (ap₂ (λ (b c : Bool). cond b (transmit_answer s (seq e.number) (type_of e.packet_type) index e.size e.clock) (cond c (ack_answer s (seq e.number) sack e.delay e.clock) (timeout_answer s)))
      (ne_eqb e.kind 1 n) (ne_eqb e.kind 2 m))

-- ---- an event that is taken

module _ (r : Replay) (e : Event) (sack : List ℕ) (p : Answer (Unit {0}) × SentPackets) (answer : ℕ) (is : p ≡ event_state r.state r.index e sack) (number : answer ≡ number_of p.0) where
  pub taken_unsound : answer ≡ 19 → (refused 19, r) ≡ taken_of r e sack
  unfolding taken_of
  taken_unsound h =
      sym (ap (λ (b : Bool). cond b (refused 19, r) (done (shown_of r.index (number_of p.0) p.1 ∷ []), behind_of r e p.1)) (eq-eqb (number_of p.0) 19 (sym number ∙ h)))
      ∙ ap (after_of r e) is

  pub taken_line : (line : Line) (size : ℕ) → (answer ≡ 19 → ⊥) → line ≡ shown_of r.index answer p.1 → size ≡ sack_size e
      → (done (line ∷ []), record { index = r.index + 1; count = r.count; sack_at = r.sack_at + size; state = p.1 }) ≡ taken_of r e sack
  unfolding taken_of
  taken_line line size h l z =
      ap₂ (λ (x : Line) (n : ℕ). (done (x ∷ []), record { index = r.index + 1; count = r.count; sack_at = r.sack_at + n; state = p.1 }))
      (l ∙ ap (λ (n : ℕ). shown_of r.index n p.1) number) z
      ∙ (sym (ap (λ (b : Bool). cond b (refused 19, r) (done (shown_of r.index (number_of p.0) p.1 ∷ []), behind_of r e p.1))
      (ne_eqb (number_of p.0) 19 (λ q. h (number ∙ q))))
      ∙ ap (after_of r e) is)

-- ---- its SACK bytes

module _ (file : List ℕ) (r : Replay) (e : Event) (size : ℕ) (test : Bool) (is : size ≡ sack_size e) (holds : test ≡ leb (r.sack_at + size) (length file)) where
  within : test ≡ leb (r.sack_at + sack_size e) (length file)
  within = holds ∙ ap (λ (n : ℕ). leb (r.sack_at + n) (length file)) is

  pub sack_missing : test ≡ false → (refused 20, r) ≡ step_of file r (done e)
  sack_missing h = sym (ap (λ (b : Bool). cond b (taken_of r e (take (sack_size e) (drop r.sack_at file))) (refused 20, r)) (sym within ∙ h))

  pub sack_fits : test ≡ true → r.sack_at + sack_size e ≤ length file
  sack_fits h = leb-true (r.sack_at + sack_size e) (length file) (sym within ∙ h)

  pub sack-found : test ≡ true → (bytes : List ℕ) (x : Answer (List Line) × Replay) → bytes ≡ part_of (record { at = r.sack_at; len = size }) file → x ≡ taken_of r e bytes
      → x ≡ step_of file r (done e)
  sack-found h bytes x b t =
      let fits = sack_fits h in
      let part : bytes ≡ take (sack_size e) (drop r.sack_at file) =
      b ∙ (ap (λ (n : ℕ). part_of (record { at = r.sack_at; len = n }) file) is
      ∙ ap₂ (λ (a c : Bool). cond a (cond c (take (sack_size e) (drop r.sack_at file)) []) [])
      (le-leb r.sack_at (length file) (omega (arith, fits))) (le-leb (sack_size e) (length file - r.sack_at) (omega (arith, fits)))) in
      t
      ∙ (ap (taken_of r e) part ∙ sym (ap (λ (b : Bool). cond b (taken_of r e (take (sack_size e) (drop r.sack_at file))) (refused 20, r)) (sym within ∙ h)))

-- By the bytes themselves, from a place in the file on.
module _ (file : List ℕ) (r : Replay) (e : Event) (size : ℕ) (is : size ≡ sack_size e) where
  pub step_taken : r.sack_at + size ≤ length file → (bytes : List ℕ) (x : Answer (List Line) × Replay) → bytes ≡ take size (drop r.sack_at file) → x ≡ taken_of r e bytes
      → x ≡ step_of file r (done e)
  step_taken h bytes x b t =
      t
      ∙ (ap (taken_of r e) (b ∙ ap (λ (n : ℕ). take n (drop r.sack_at file)) is)
      ∙ sym (ap (λ (b : Bool). cond b (taken_of r e (take (sack_size e) (drop r.sack_at file))) (refused 20, r)) (le-leb (r.sack_at + sack_size e) (length file) (omega (arith, h, is)))))

-- ---- a step

module _ (file : List ℕ) (r : Replay) where
  pub step_ended : r.count ≤ r.index → (done [], r) ≡ step_answer file r
  unfolding step_answer
  step_ended h = sym (ap (λ (b : Bool). cond b (done [], r) (step_of file r (event_at file r.index))) (le-leb r.count r.index h))

  pub step_event : r.index < r.count → (a : Answer Event) → a ≡ event_at file r.index → step_of file r a ≡ step_answer file r
  unfolding step_answer
  step_event h a e = ap (step_of file r) e ∙ sym (ap (λ (b : Bool). cond b (done [], r) (step_of file r (event_at file r.index))) (lt-leb r.count r.index h))
