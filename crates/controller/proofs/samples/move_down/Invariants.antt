-- The first `i` of what remains stand at the front, and what is read next stands past them, as it was.
use Rattle.std.proofs.Common.{◌≡◌, ◌++◌, take, drop}
use Rattle.controller.proofs.samples.move_down.Given as goal

abbrev pub invariant-loop-i : goal.invariant-loop-i
invariant-loop-i g l =
    let kept = g.S.Samples.samples l.initial.samples in
    g.S.Samples.samples l.samples ≡ take l.i (drop l.first kept) ++ drop l.i kept
