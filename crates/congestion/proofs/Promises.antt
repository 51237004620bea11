-- Every public function of the crate, in the order of the source: nothing is asked of its caller, and no two different outcomes satisfy its promise.
use Rattle.common.specs.Promise.{Promise, by_value}
use Rattle.congestion.proofs.settings.gain_in_range.Reads as gain-in-range
use Rattle.congestion.proofs.settings.Settings.in_range.Reads as in_range
use Rattle.congestion.proofs.numbers.Numbers.new.Reads as numbers-new
use Rattle.congestion.proofs.numbers.Numbers.sound.Reads as numbers_sound
use Rattle.congestion.proofs.numbers.Numbers.minimum.Reads as numbers-minimum
use Rattle.congestion.proofs.numbers.Numbers.free_window.Reads as numbers-free-window
use Rattle.congestion.proofs.numbers.Numbers.accepted.Reads as numbers-accepted
use Rattle.congestion.proofs.numbers.Numbers.transmitted.Reads as numbers-transmitted
use Rattle.congestion.proofs.numbers.Numbers.acked.Reads as numbers-acked
use Rattle.congestion.proofs.numbers.Numbers.lost.Reads as numbers-lost
use Rattle.congestion.proofs.numbers.Numbers.timed_out.Reads as numbers-timed-out

gain_in_range_promise : Promise gain-in-range.Pre gain-in-range.Post (λ κs r s. r)
gain_in_range_promise = by_value _ (λ κs a. tt) (λ κs a r s p. p)

in_range_promise : Promise in_range.Pre in_range.Post (λ κs r s. r)
in_range_promise = by_value _ (λ κs a. tt) (λ κs a r s p. p)

numbers_new_promise : Promise numbers-new.Pre numbers-new.Post (λ κs r s. r)
numbers_new_promise = by_value _ (λ κs a. tt) (λ κs a r s p. p)

numbers_sound_promise : Promise numbers_sound.Pre numbers_sound.Post (λ κs r s. r)
numbers_sound_promise = by_value _ (λ κs a. tt) (λ κs a r s p. p)

numbers_minimum_promise : Promise numbers-minimum.Pre numbers-minimum.Post (λ κs r s. r)
numbers_minimum_promise = by_value _ (λ κs a. tt) (λ κs a r s p. p)

numbers_free_window_promise : Promise numbers-free-window.Pre numbers-free-window.Post (λ κs r s. r)
numbers_free_window_promise = by_value _ (λ κs a. tt) (λ κs a r s p. p)

numbers_accepted_promise : Promise numbers-accepted.Pre numbers-accepted.Post (λ κs r s. r)
numbers_accepted_promise = by_value _ (λ κs a. tt) (λ κs a r s p. p)

numbers_transmitted_promise : Promise numbers-transmitted.Pre numbers-transmitted.Post (λ κs r s. r)
numbers_transmitted_promise = by_value _ (λ κs a. tt) (λ κs a r s p. p)

numbers_acked_promise : Promise numbers-acked.Pre numbers-acked.Post (λ κs r s. r)
numbers_acked_promise = by_value _ (λ κs a. tt) (λ κs a r s p. p)

numbers_lost_promise : Promise numbers-lost.Pre numbers-lost.Post (λ κs r s. r)
numbers_lost_promise = by_value _ (λ κs a. tt) (λ κs a r s p. p)

numbers_timed_out_promise : Promise numbers-timed-out.Pre numbers-timed-out.Post (λ κs r s. r)
numbers_timed_out_promise = by_value _ (λ κs a. tt) (λ κs a r s p. p)
