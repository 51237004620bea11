-- No more was read than the room holds. The measure is the room that is left.
use Rattle.std.proofs.Common.{length, ◌-◌, ◌≤◌}
use Rattle.replay.proofs.read_all.Given as goal

abbrev pub invariant-loop-count : goal.invariant-loop-count
invariant-loop-count g l = l.count ≤ length l.file

abbrev pub decreases-loop-count : goal.decreases-loop-count
decreases-loop-count g l = length l.file - l.count
