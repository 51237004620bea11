-- After `i` turns the first `i` bytes of `src` stand at the front of `dst`, and the rest of `dst` is as it was.
use Rattle.std.proofs.Common.{◌≡◌}
use Rattle.std.proofs.Math.Seq.{paste}
use Rattle.recv.proofs.bytes.copy.Given as goal

abbrev pub invariant-loop-i : goal.invariant-loop-i
invariant-loop-i l = l.dst ≡ paste l.fn.dst 0 l.src l.i
