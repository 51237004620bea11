-- At most the count is there; past it, what waits is.
use Rattle.std.proofs.Common.{◌≡◌, ◌-◌, ℕ, List, get_or, sym, ap, ◌∙◌, rules}
use Rattle.recv.specs.Table.{waits}
use Rattle.recv.specs.Laws.Table.{there_behind, there_past}
use Rattle.recv.proofs.Counts.is_there.Goals as goal

pub returns-then-offset-self : goal.returns-then-offset-self
returns-then-offset-self c = sym (there_behind _ _ _ c.if-offset-self.true)

pub returns : goal.returns
returns c =
    let place = c.args.offset - c.args.self.count - 1 in
    let e : c.is_some_and.result ≡ waits (get_or c.table.result.now place 0) = search rules in
    e ∙ ap (λ (t : List ℕ). waits (get_or t place 0)) c.table.ensures ∙ sym (there_past _ _ _ c.if-offset-self.false)
