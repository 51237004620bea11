-- Every public function of the crate, in the order of the source: nothing is asked of its caller, and no two different outcomes satisfy its promise.
use mathlib.Core.List.{List, Mem}
use Prim.Native.Nat.{ℕ}
use Rattle.std.proofs.Common.{sym, ap, ◌∙◌}
use denote.RattleType.{RattleType}
use denote.Param.Laws.{Laws}
use mir.Syntax.{Dict}
use Rattle.controller.specs.declared.delays.Delays.{Delays}
use Rattle.controller.specs.declared.delays.Sample.{Sample}
use Rattle.controller.specs.declared.samples.Samples.{Ghosts}
use Rattle.std.specs.Prelude.{get_or, set}
use Rattle.controller.specs.Delays.{delays_of, list_of, taken_of, base_of, delays_sound_of, most, no_sample}
use Rattle.common.specs.Promise.{Promise, by_value, by_code}
use Rattle.controller.specs.Answers.{outcome}
use Rattle.controller.specs.Laws.OneToOne.{outcome_one_to_one}
use Rattle.controller.proofs.answer.Reason.number.Reads as reason-number
use Rattle.controller.proofs.delays.expired.Reads as delays-expired
use Rattle.controller.proofs.delays.room.Reads as delays-room
use Rattle.controller.proofs.delays.Delays.none.Reads as delays-none
use Rattle.controller.proofs.delays.Delays.base.Reads as delays-base
use Rattle.controller.proofs.delays.Delays.sound.Reads as delays_sound
use Rattle.controller.proofs.delays.Delays.take.Reads as delays-take
use Rattle.controller.proofs.samples.sound.Reads as samples-sound
use Rattle.controller.proofs.samples.base_with.Reads as samples-base-with
use Rattle.controller.proofs.samples.take.Reads as samples-take
use Rattle.controller.proofs.samples.ArraySample1024Samples.len.Reads as array-len
use Rattle.controller.proofs.samples.ArraySample1024Samples.sample.Reads as array-sample
use Rattle.controller.proofs.samples.ArraySample1024Samples.put.Reads as array-put
use Rattle.controller.proofs.state.Controller.new.Reads as controller-new
use Rattle.controller.proofs.state.Controller.sound.Reads as controller-sound
use Rattle.controller.proofs.state.Controller.on_transmit.Reads as controller-on-transmit
use Rattle.controller.proofs.state.Controller.on_ack.Reads as controller-on-ack
use Rattle.controller.proofs.state.Controller.on_loss.Reads as controller-on-loss
use Rattle.controller.proofs.state.Controller.on_timeout.Reads as controller-on-timeout
use Rattle.controller.proofs.state.Controller.free_window.Reads as controller-free-window
use Rattle.controller.proofs.state.Controller.in_flight.Reads as controller-in-flight
use Rattle.controller.proofs.state.Controller.maximum.Reads as controller-maximum
use Rattle.controller.proofs.state.Controller.timeout.Reads as controller-timeout

reason_number_promise : Promise reason-number.Pre reason-number.Post (λ κs r s. r)
reason_number_promise = by_value _ (λ κs a. tt) (λ κs a r s p. p)

delays_expired_promise : Promise delays-expired.Pre delays-expired.Post (λ κs r s. r)
delays_expired_promise = by_value _ (λ κs a. tt) (λ κs a r s p. p)

delays_room_promise : Promise delays-room.Pre delays-room.Post (λ κs r s. r)
delays_room_promise = by_value _ (λ κs a. tt) (λ κs a r s p. p)

delays_none_promise : Promise delays-none.Pre delays-none.Post (λ κs r s. r)
delays_none_promise = by_value _ (λ κs a. tt) (λ κs a r s p. p)

delays_base_promise : Promise delays-base.Pre delays-base.Post (λ κs r s. r)
delays_base_promise = by_value _ (λ κs a. tt) (λ κs a r s p. p)

delays_sound_promise : Promise delays_sound.Pre delays_sound.Post (λ κs r s. r)
delays_sound_promise = by_value _ (λ κs a. tt) (λ κs a r s p. p)

delays_take_promise : Promise delays-take.Pre delays-take.Post (λ κs r s. r)
delays_take_promise = by_value _ (λ κs a. tt) (λ κs a r s p. p)

-- At each type of place that holds no reference. What is seen of a place that is lent to be written is all of it.
module _ (T : RattleType) (L : Laws T) (S : Ghosts T.Denot) (d : Dict) (plain : (k : ℕ) → Mem k T.lives → ⊥) where
  samples_sound_promise : Promise (samples-sound.Pre T L S d) (samples-sound.Post T L S d) (λ κs r s. r)
  samples_sound_promise =
      by_value
      {pre = samples-sound.Pre T L S d}
      {post = samples-sound.Post T L S d}
      (λ κs a. delays_sound_of a.1.1.0 (delays_of (S.samples a.0.now) a.1.0))
      (λ κs a k m. absurd (plain k m))
      (λ κs a r s p. p.0)

  samples_base_with_promise : Promise (samples-base-with.Pre T L S d) (samples-base-with.Post T L S d) (λ κs r s. r)
  samples_base_with_promise =
      by_value
      {pre = samples-base-with.Pre T L S d}
      {post = samples-base-with.Post T L S d}
      (λ κs a. base_of (list_of (taken_of (delays_of (S.samples a.0.now) a.1.0) a.1.1.0.delay a.1.1.0.at a.1.1.1.0)))
      (λ κs a k m. absurd (plain k m))
      (λ κs a r s p. p)

  samples_take_promise : Promise {W = Delays × T.Denot} (samples-take.Pre T L S d) (samples-take.Post T L S d) (λ κs r s. (delays_of (S.samples s.0.now) r, s.0.now))
  samples_take_promise =
      by_value
      {pre = samples-take.Pre T L S d}
      {post = samples-take.Post T L S d}
      (λ κs a. let taken = taken_of (delays_of (S.samples a.0.now) a.1.0) a.1.1.0.delay a.1.1.0.at a.1.1.1.0 in (taken, S.of_samples taken.kept))
      (λ κs a k m. absurd (plain k m))
      (λ κs a r s p. λ i. (p.0 i, (sym p.1 ∙ ap (λ (x : Delays). S.of_samples x.kept) p.0) i))

-- `[Sample; 1024]` as an instance of `Samples`: its samples are what lies in it.
array_len_promise : Promise array-len.Pre array-len.Post (λ κs r s. r)
array_len_promise = by_value (λ κs a. most) (λ κs a. tt) (λ κs a r s p. p.0)

array_sample_promise : Promise array-sample.Pre array-sample.Post (λ κs r s. r)
array_sample_promise = by_value (λ κs a. get_or a.0.now a.1.0 no_sample) (λ κs a. tt) (λ κs a r s p. p.0)

array_put_promise : Promise {W = List Sample} array-put.Pre array-put.Post (λ κs r s. s.0.now)
array_put_promise = by_value (λ κs a. set a.0.now a.1.0 a.1.1.0) (λ κs a. tt) (λ κs a r s p. p.0)

controller_new_promise : Promise controller-new.Pre controller-new.Post (λ κs r s. r)
controller_new_promise = by_code outcome outcome_one_to_one _ (λ κs a. tt) (λ κs a r s p. p)

controller_sound_promise : Promise controller-sound.Pre controller-sound.Post (λ κs r s. r)
controller_sound_promise = by_value _ (λ κs a. tt) (λ κs a r s p. p)

controller_on_transmit_promise : Promise controller-on-transmit.Pre controller-on-transmit.Post (λ κs r s. r)
controller_on_transmit_promise = by_code outcome outcome_one_to_one _ (λ κs a. tt) (λ κs a r s p. p)

controller_on_ack_promise : Promise controller-on-ack.Pre controller-on-ack.Post (λ κs r s. r)
controller_on_ack_promise = by_code outcome outcome_one_to_one _ (λ κs a. tt) (λ κs a r s p. p)

controller_on_loss_promise : Promise controller-on-loss.Pre controller-on-loss.Post (λ κs r s. r)
controller_on_loss_promise = by_code outcome outcome_one_to_one _ (λ κs a. tt) (λ κs a r s p. p)

controller_on_timeout_promise : Promise controller-on-timeout.Pre controller-on-timeout.Post (λ κs r s. r)
controller_on_timeout_promise = by_code outcome outcome_one_to_one _ (λ κs a. tt) (λ κs a r s p. p)

controller_free_window_promise : Promise controller-free-window.Pre controller-free-window.Post (λ κs r s. r)
controller_free_window_promise = by_value _ (λ κs a. tt) (λ κs a r s p. p)

controller_in_flight_promise : Promise controller-in-flight.Pre controller-in-flight.Post (λ κs r s. r)
controller_in_flight_promise = by_value _ (λ κs a. tt) (λ κs a r s p. p)

controller_maximum_promise : Promise controller-maximum.Pre controller-maximum.Post (λ κs r s. r)
controller_maximum_promise = by_value _ (λ κs a. tt) (λ κs a r s p. p)

controller_timeout_promise : Promise controller-timeout.Pre controller-timeout.Post (λ κs r s. r)
controller_timeout_promise = by_value _ (λ κs a. tt) (λ κs a r s p. p)
