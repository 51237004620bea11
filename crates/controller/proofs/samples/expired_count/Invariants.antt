-- The samples before `i` were expired, so dropping from the front goes on from `i`.
use Rattle.std.proofs.Common.{◌≡◌, drop}
use Rattle.controller.specs.Delays.{delays_of, list_of, drop_front, expired_of}
use Rattle.controller.proofs.samples.expired_count.Given as goal

abbrev pub invariant-loop-i : goal.invariant-loop-i
invariant-loop-i g l =
    let kept = list_of (delays_of (g.S.Samples.samples l.samples) l.count) in
    drop_front (expired_of l.window l.clock) kept ≡ drop_front (expired_of l.window l.clock) (drop l.i kept)
