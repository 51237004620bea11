-- `adjustment` meets its contract: the code's five operations are the definition's, in its order.
use Rattle.std.proofs.Common.{◌∙◌, w64, eq-eqb, ne_eqb}
use Rattle.std.proofs.lemmas.Int.{to_z-of_z}
use Rattle.congestion.specs.Window.{adjustment_of}
use Rattle.congestion.proofs.window.adjustment.Goals as goal

pub returns-then-numbers-eq0 : goal.returns-then-numbers-eq0
unfolding adjustment_of
returns-then-numbers-eq0 c = simp (eq-eqb _ _ c.if-numbers-eq0.true)

pub returns : goal.returns
unfolding adjustment_of
returns c =
    to_z-of_z w64 c.truncated.result (record { sfits = c.truncated.type_inv })
    ∙ c.truncated.ensures
    ∙ simp (ne_eqb _ _ c.if-numbers-eq0.false, c.off_target-off.ensures, c.held.ensures, c.held-2.ensures)
