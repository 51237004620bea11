-- The chain from the cursor ends where the chain from the start does. A step goes forward within the datagram, so what is left of it is the measure.
use Rattle.std.proofs.Common.{◌≡◌, ◌+◌, ◌-◌, length}
use Rattle.packet.specs.Chain.{chain_from, end_of}
use Rattle.packet.proofs.extension.chain_end.Given as goal

abbrev pub invariant-loop-next : goal.invariant-loop-next
invariant-loop-next l = end_of (chain_from l.datagram l.fn.from) ≡ end_of (chain_from l.datagram l.cursor)

abbrev pub decreases-loop-next : goal.decreases-loop-next
decreases-loop-next l = length l.datagram + 1 - l.cursor.at
