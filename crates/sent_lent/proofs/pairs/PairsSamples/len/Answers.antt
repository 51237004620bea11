-- Two numbers for each sample.
use Rattle.std.proofs.Common.{arith}
use Rattle.sent_lent.specs.Laws.LentState.{pairs_are}
use Rattle.sent_lent.proofs.pairs.PairsSamples.len.Goals as goal

pub returns-clause-alone : goal.returns-clause-alone
returns-clause-alone c = pairs_are c.args.self.now (omega arith)
