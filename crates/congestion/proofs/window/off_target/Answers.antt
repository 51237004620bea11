-- `off_target` meets its contract: a difference below zero is the negated float of its size.
use Rattle.std.proofs.Common.{ℕ, ap, ◌∙◌}
use Rattle.std.proofs.Math.IntN.{sub_ℕ}
use Rattle.std.specs.Float.Ieee.{binary64, of_int}
use Rattle.congestion.proofs.Negated.{negated_below}
use Rattle.congestion.proofs.window.off_target.Goals as goal

pub returns-else-queue-target : goal.returns-else-queue-target
returns-else-queue-target c =
    negated_below binary64 c.args.target c.saturating_sub-queue.result c.if-queue-target.false
    ∙ ap (λ (n : ℕ). of_int binary64 (sub_ℕ c.args.target n)) c.saturating_sub-queue.ensures
