-- The chain counts the entries before the first that is 0.
use Rattle.std.proofs.Common.{ℕ, not, eqb, sym, ◌∙◌, rules, tests}
use Rattle.std.proofs.lemmas.Iterator.{YieldsList-from_slice}
use Rattle.std.proofs.lemmas.Iterator.Consumers.{count_from_yields_List}
use Rattle.std.proofs.lemmas.Iterator.Search.{YieldsList-from_take_while}
use Rattle.std.proofs.lemmas.List.Folds.{length-prefix_len}
use Rattle.recv.specs.Laws.Table.{run_prefix}
use Rattle.recv.proofs.waiting.run.Goals as goal

pub returns : goal.returns
returns c =
    let xs = c.args.table.now in
    count_from_yields_List c.take_while.result _ c.count.ensures.ran (YieldsList-from_take_while _ (λ x. not (eqb x 0)) (YieldsList-from_slice xs cc) c.take_while.ensures.closure c.take_while.ensures.done (λ x b q k. search (rules, tests)))
    ∙ length-prefix_len (λ (x : ℕ). not (eqb x 0)) xs
    ∙ sym (run_prefix xs)
