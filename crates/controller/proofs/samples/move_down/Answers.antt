-- What is read next stands past those that have been moved, as it was.
use Rattle.std.proofs.Common.{ℕ, ◌<◌, ◌+◌, ◌++◌, List, length, take, drop, get_or, set, sym, ap, ◌∙◌, add-one, arith}
use Rattle.controller.specs.declared.delays.Sample.{Sample}
use Rattle.controller.specs.Delays.{no_sample}
use Rattle.controller.specs.Laws.Delays.{moved_full, moved_read, moved_one}
use Rattle.controller.proofs.samples.move_down.Goals as goal

pub loop-i-preserved : goal.loop-i-preserved
loop-i-preserved g c =
    let i = c.loop-i.i in
    let first = c.args.first in
    let kept = g.S.Samples.samples c.args.samples.now in
    let full = moved_full kept first i (omega arith) (ap length (sym c.loop-i.invariant) ∙ c.sample-s.ensures.full) in
    let here : first + i < length kept = omega arith in
    c.put.ensures.put
    ∙ ap (λ (s : Sample). set (g.S.Samples.samples c.loop-i.samples) i s) c.sample-s.ensures.found
    ∙ ap (λ (l : List Sample). set l i (get_or l (first + i) no_sample)) c.loop-i.invariant
    ∙ ap (λ (s : Sample). set (take i (drop first kept) ++ drop i kept) i s) (moved_read kept first i no_sample here)
    ∙ moved_one kept first i no_sample here
    ∙ ap (λ (k : ℕ). take k (drop first kept) ++ drop k kept) (sym (add-one i))
