-- After k turns the first k bytes of the selective ACK stand at the front of the room.
use Rattle.std.proofs.Common.{◌≡◌}
use Rattle.std.proofs.Math.Seq.{paste}
use Rattle.recv.specs.Table.{sack_of}
use Rattle.recv.proofs.sack.fill.Given as goal

abbrev pub invariant-loop-k : goal.invariant-loop-k
invariant-loop-k l = l.room ≡ paste l.fn.room 0 (sack_of l.table) l.k
