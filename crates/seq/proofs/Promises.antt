-- Every public function of the crate, in the order of the source: nothing is asked of its caller, and no two different outcomes satisfy its promise.
use Rattle.common.specs.Promise.{Promise, by_value}
use Rattle.seq.proofs.SeqNum.plus.Reads as plus
use Rattle.seq.proofs.SeqNum.at.Reads as at
use Rattle.seq.proofs.SeqNum.offset_from.Reads as offset-from
use Rattle.seq.proofs.CircularRangeInclusive.new.Reads as range-new
use Rattle.seq.proofs.CircularRangeInclusive.contains.Reads as contains
use Rattle.seq.proofs.CircularRangeInclusive.next.Reads as next

plus_promise : Promise plus.Pre plus.Post (λ κs r s. r)
plus_promise = by_value _ (λ κs a. tt) (λ κs a r s p. p)

at_promise : Promise at.Pre at.Post (λ κs r s. r)
at_promise = by_value _ (λ κs a. tt) (λ κs a r s p. p)

offset_from_promise : Promise offset-from.Pre offset-from.Post (λ κs r s. r)
offset_from_promise = by_value _ (λ κs a. tt) (λ κs a r s p. p)

range_new_promise : Promise range-new.Pre range-new.Post (λ κs r s. r)
range_new_promise = by_value _ (λ κs a. tt) (λ κs a r s p. p)

contains_promise : Promise contains.Pre contains.Post (λ κs r s. r)
contains_promise = by_value _ (λ κs a. tt) (λ κs a r s p. p)

next_promise : Promise next.Pre next.Post (λ κs r s. r)
next_promise = by_value _ (λ κs a. tt) (λ κs a r s p. p)
