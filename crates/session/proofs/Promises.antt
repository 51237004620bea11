-- Every public function of the crate, in the order of the source: nothing is asked of its caller, and no two different outcomes satisfy its promise.
use Prim.Native.Nat.{ℕ}
use mathlib.Core.List.{List}
use Rattle.common.specs.Promise.{Promise, by_value, by_code}
use Rattle.std.specs.declared.result.Result.{Result}
use Rattle.session.specs.declared.line.NoRoom.{NoRoom}
use Rattle.session.specs.declared.replay.Filled.{Filled}
use Rattle.session.specs.Answers.{written}
use Rattle.session.specs.Replay.{started, stepped}
use Rattle.session.specs.Laws.OneToOne.{wrote_one, started-one, stepped-one}
use Rattle.session.proofs.line.Line.put.Reads as put-line
use Rattle.session.proofs.line.Bad.number.Reads as bad-number
use Rattle.session.proofs.line.Bad.put.Reads as put-bad
use Rattle.session.proofs.replay.StepReason.number.Reads as step-number
use Rattle.session.proofs.replay.Replay.start.Reads as start
use Rattle.session.proofs.replay.Replay.step.Reads as step
use Rattle.session.proofs.replay.Replay.fill.Reads as fill

-- The answer, and every byte of the lent room as the writer returns.
put_line_promise : Promise {W = Result ℕ NoRoom × List ℕ} put-line.Pre put-line.Post (λ κs r s. (r, s.1.0.now))
put_line_promise = by_code (λ x. (written x.0, x.1)) wrote_one _ (λ κs a. tt) (λ κs a r s p. p)

bad_number_promise : Promise bad-number.Pre bad-number.Post (λ κs r s. r)
bad_number_promise = by_value _ (λ κs a. tt) (λ κs a r s p. p)

put_bad_promise : Promise {W = Result ℕ NoRoom × List ℕ} put-bad.Pre put-bad.Post (λ κs r s. (r, s.1.0.now))
put_bad_promise = by_code (λ x. (written x.0, x.1)) wrote_one _ (λ κs a. tt) (λ κs a r s p. p)

step_number_promise : Promise step-number.Pre step-number.Post (λ κs r s. r)
step_number_promise = by_value _ (λ κs a. tt) (λ κs a r s p. p)

start_promise : Promise start.Pre start.Post (λ κs r s. r)
start_promise = by_code started started-one _ (λ κs a. tt) (λ κs a r s p. p)

step_promise : Promise step.Pre step.Post (λ κs r s. r)
step_promise = by_code stepped stepped-one _ (λ κs a. tt) (λ κs a r s p. p)

fill_promise : Promise {W = Filled × List ℕ} fill.Pre fill.Post (λ κs r s. (r, s.1.1.0.now))
fill_promise = by_value _ (λ κs a. tt) (λ κs a r s p. p)
