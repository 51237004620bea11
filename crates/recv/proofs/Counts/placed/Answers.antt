-- At place 0 the payload is ready; here alone.
use Rattle.std.proofs.Common.{ℕ, sym, ap, ◌∙◌}
use Rattle.recv.specs.Lent.{whole}
use Rattle.recv.specs.Laws.Steps.{placed_of, placed_alone}
use Rattle.recv.proofs.Counts.placed.Goals as goal

pub returns-then-self-eq0 : goal.returns-then-self-eq0
returns-then-self-eq0 c =
    let a = c.args in
    let s = whole a.self a.waiting.now in
    sym (ap (λ (place : ℕ). placed_of s place a.n) c.if-place-ne0.false ∙ placed_alone s a.n c.if-self-eq0.true)
