-- What the controller's soundness test says, that every controller reached from a fresh one is sound, and the bounds of its maximum.
use Rattle.std.specs.Prelude.{◌≡◌, refl, Bool, true, false, ◌&&◌, cond, ℕ, ◌-◌, ◌≤◌, leb}
use Rattle.std.proofs.Common.{ap, arith, leb-true}
use Rattle.std.proofs.Math.Path.{subst⁻¹}
use Rattle.common.specs.Answer.{Answer}
use Rattle.congestion.specs.declared.settings.Settings.{Settings}
use Rattle.congestion.specs.declared.numbers.Numbers.{Numbers}
use Rattle.controller.specs.declared.delays.Delays.{Delays}
use Rattle.controller.specs.declared.state.Controller.{Controller}
use Rattle.controller.specs.declared.state.Transmit.{Transmit}
use Rattle.controller.specs.declared.state.Transmit.TheVariants.{Initial, Retransmission}
use Rattle.controller.specs.declared.state.Packet.{Packet}
use Rattle.congestion.specs.Settings.{latest, in_range_of}
use Rattle.congestion.specs.Numbers.{sound_of, minimum_of, free_of, start_of, no_numbers, accepted_of, sent_of, credited_of, lost_of, timed_out_of}
use Rattle.controller.specs.Delays.{no_delays, list_of, taken_of, base_of, delays_sound_of}
use Rattle.controller.specs.Controller.{refused_of, done_of, controller_of, controller_sound_of, if_sound, in_time_of, send_of, on_transmit_of, credit_of, on_ack_of, on_loss_of, on_timeout_of}
use Rattle.congestion.specs.Laws.Numbers.{both, and_of, between_of, Sound, sound_facts, sound_from, settings_facts, start_sound, accepted_sound, sent_sound, credited_sound, credited_maximum, lost_sound, timed_out_sound}
use Rattle.congestion.specs.Window.{top}
use Rattle.congestion.specs.Laws.Window.{maximum_at_most_top}
use Rattle.controller.specs.Laws.Samples.{later_sound, taken_sound}

pub numbers_sound : (c : Controller) → controller_sound_of c ≡ true → sound_of c.numbers ≡ true
unfolding controller_sound_of
numbers_sound c e = (both (sound_of c.numbers) (delays_sound_of c.numbers.last c.delays) e).0

pub delays_sound : (c : Controller) → controller_sound_of c ≡ true → delays_sound_of c.numbers.last c.delays ≡ true
unfolding controller_sound_of
delays_sound c e = (both (sound_of c.numbers) (delays_sound_of c.numbers.last c.delays) e).1

-- A forged controller gets 19 from every call that hands a state back, and comes back as it was.
pub forged_refused : (c : Controller) → controller_sound_of c ≡ false → (o : Answer (Unit {0}) × Controller) → if_sound c o ≡ refused_of c 19
forged_refused c e o = ap (λ (t : Bool). cond t o (refused_of c 19)) e

-- ---- what every call keeps: the test passes, and the maximum is at most 2^32 - 1

pub record Held (c : Controller) : Type 0 where
  pub sound : controller_sound_of c ≡ true
  pub to_top : c.numbers.maximum ≤ top

abbrev Kept : Answer (Unit {0}) × Controller → Type 0
Kept o = Held o.1

done_kept : (n : Numbers) (d : Delays) → Sound n → n.maximum ≤ top → delays_sound_of n.last d ≡ true → Kept (done_of n d)
unfolding controller_sound_of
done_kept n d s m e = record { sound = and_of (sound_of n) (delays_sound_of n.last d) (sound_from n s) e; to_top = m }

checked : (t : Bool) (o p : Answer (Unit {0}) × Controller) → (t ≡ true → Kept o) → Kept p → Kept (cond t o p)
checked true o p f g = f refl
checked false o p f g = g

module _ (c : Controller) (e : Held c) where
  numbers_in : Sound c.numbers
  numbers_in = sound_facts c.numbers (numbers_sound c e.sound)

  delays_in_lem : delays_sound_of c.numbers.last c.delays ≡ true
  delays_in_lem = delays_sound c e.sound

  if_sound_lem : (o : Answer (Unit {0}) × Controller) → Kept o → Kept (if_sound c o)
  if_sound_lem o k = checked (controller_sound_of c) o (refused_of c 19) (λ _. k) e

  send_keeps : (t : Transmit) (clock : ℕ) → in_time_of c clock ≡ true → Kept (send_of c t clock)
  unfolding send_of
  send_keeps (Initial len) clock i =
      let b = between_of c.numbers.last latest clock i in
      let n = sent_of c.numbers len in
      checked (leb len (free_of c.numbers)) (done_of (accepted_of n clock) c.delays) (refused_of c 13)
      (λ _. done_kept (accepted_of n clock) c.delays (accepted_sound n clock (sent_sound c.numbers len numbers_in) b.1) e.to_top
      (later_sound c.numbers.last c.delays delays_in_lem clock b.0))
      e
  send_keeps Retransmission clock i =
      let b = between_of c.numbers.last latest clock i in
      done_kept (accepted_of c.numbers clock) c.delays (accepted_sound c.numbers clock numbers_in b.1) e.to_top
      (later_sound c.numbers.last c.delays delays_in_lem clock b.0)

  pub transmit_keeps : (t : Transmit) (clock : ℕ) → Kept (on_transmit_of c t clock)
  transmit_keeps t clock =
      if_sound_lem (cond (in_time_of c clock) (send_of c t clock) (refused_of c 11))
      (checked (in_time_of c clock) (send_of c t clock) (refused_of c 11) (send_keeps t clock) e)

  credit_keeps : (p : Packet) (delay clock : ℕ) → in_time_of c clock ≡ true → delay ≤ latest → Kept (credit_of c p delay clock)
  unfolding credit_of
  credit_keeps p delay clock i h =
      let b = between_of c.numbers.last latest clock i in
      let d = taken_of c.delays delay clock c.numbers.delay_window in
      let n = credited_of c.numbers (base_of (list_of d)) delay p.length p.once (clock - p.at) in
      done_kept (accepted_of n clock) d
      (accepted_sound n clock (credited_sound c.numbers (base_of (list_of d)) delay p.length p.once (clock - p.at) numbers_in (omega (arith, b.1))) b.1)
      (subst⁻¹ (λ (k : ℕ). k ≤ top) (credited_maximum c.numbers (base_of (list_of d)) delay p.length p.once (clock - p.at)) (maximum_at_most_top _ _ _ _))
      (taken_sound c.numbers.last c.delays delays_in_lem delay clock c.numbers.delay_window b.0 h)

  pub ack_keeps : (p : Packet) (delay clock : ℕ) → Kept (on_ack_of c p delay clock)
  ack_keeps p delay clock =
      if_sound_lem _
      (checked (in_time_of c clock && leb delay latest && leb p.at clock) _ (refused_of c 11)
      (λ i. checked (leb p.length c.numbers.in_flight) (credit_of c p delay clock) (refused_of c 12)
      (λ _.
      let q = both (in_time_of c clock && leb delay latest) (leb p.at clock) i in
      let r = both (in_time_of c clock) (leb delay latest) q.0 in
      credit_keeps p delay clock r.0 (leb-true delay latest r.1))
      e)
      e)

  pub loss_keeps : Kept (on_loss_of c)
  loss_keeps =
      if_sound_lem _
      (done_kept (lost_of c.numbers) c.delays (lost_sound c.numbers numbers_in) (omega (arith, e.to_top, numbers_in.rules.largest_packet_in.1)) delays_in_lem)

  pub timeout_keeps : Kept (on_timeout_of c)
  timeout_keeps =
      if_sound_lem _
      (done_kept (timed_out_of c.numbers) c.delays (timed_out_sound c.numbers numbers_in) (omega (arith, numbers_in.rules.largest_packet_in.1)) delays_in_lem)

-- ---- every controller that a fresh one reaches

pub data Reached : Controller → Type 0 where
  fresh : (s : Settings) → in_range_of s ≡ true → Reached (controller_of s).1
  transmit : {c : Controller} (t : Transmit) (clock : ℕ) → Reached c → Reached (on_transmit_of c t clock).1
  ack : {c : Controller} (p : Packet) (delay clock : ℕ) → Reached c → Reached (on_ack_of c p delay clock).1
  loss : {c : Controller} → Reached c → Reached (on_loss_of c).1
  timeout : {c : Controller} → Reached c → Reached (on_timeout_of c).1

start_kept : (s : Settings) (t : Bool) → in_range_of s ≡ true → t ≡ true
    → Kept (cond t (done_of (cond t (start_of s) no_numbers) no_delays) (refused_of (record { numbers = cond t (start_of s) no_numbers; delays = no_delays }) 10))
start_kept s true i e =
    let r = settings_facts s i in
    done_kept (start_of s) no_delays (start_sound s r) (omega (arith, r.largest_packet_in.1)) refl
start_kept s false i e = let z : ◌≡◌ {A = ℕ} 0 1 = cc in absurd (omega arith)

pub reached_held : {c : Controller} → Reached c → Held c
reached_held (fresh s i) = start_kept s (in_range_of s) i i
reached_held (transmit {c} t clock r) = transmit_keeps c (reached_held r) t clock
reached_held (ack {c} p delay clock r) = ack_keeps c (reached_held r) p delay clock
reached_held (loss {c} r) = loss_keeps c (reached_held r)
reached_held (timeout {c} r) = timeout_keeps c (reached_held r)

-- Every controller that a fresh one reaches is sound, and its maximum lies between the minimum and 2^32 - 1.
pub reached_sound : {c : Controller} → Reached c → controller_sound_of c ≡ true
reached_sound r = (reached_held r).sound

pub reached_maximum : {c : Controller} → Reached c → (minimum_of c.numbers ≤ c.numbers.maximum) × (c.numbers.maximum ≤ top)
reached_maximum {c} r =
    let h = reached_held r in
    ((sound_facts c.numbers (numbers_sound c h.sound)).running.maximum_from, h.to_top)
