-- The samples from `i` on were not smaller, so dropping from the back goes on before them.
use Rattle.std.proofs.Common.{◌≡◌, ◌-◌, ◌≤◌, take, drop}
use Rattle.controller.specs.Delays.{delays_of, list_of, drop_back, not_smaller_of}
use Rattle.controller.proofs.samples.remaining_count.Given as goal

abbrev pub invariant-loop-i : goal.invariant-loop-i
invariant-loop-i g l =
    let kept = drop l.first (list_of (delays_of (g.S.Samples.samples l.samples) l.count)) in
    (drop_back (not_smaller_of l.delay) kept ≡ drop_back (not_smaller_of l.delay) (take (l.i - l.first) kept)) × (l.first ≤ l.i) × (l.i ≤ l.count)
