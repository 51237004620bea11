-- The chain's sum is std's; an entry adds at most 1, so 256 of them fit.
use Rattle.std.proofs.Common.{◌≡◌, ◌≤◌, ℕ, cond, sym, ◌∙◌, arith, rules}
use Rattle.std.specs.List.{sum_by, All}
use Rattle.std.proofs.lemmas.List.Sums.{sum_by-le}
use Rattle.recv.specs.Table.{waits}
use Rattle.recv.specs.Laws.Table.{how_many_sum}
use Rattle.recv.proofs.waiting.how_many.Goals as goal

pub returns : goal.returns
returns c =
    let xs = c.args.table.now in
    let e : c.sum.result ≡ sum_by (λ (x : ℕ). cond (waits x) 1 0) xs = search rules in
    e ∙ sym (how_many_sum xs)
