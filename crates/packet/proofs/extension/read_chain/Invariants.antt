-- What decoding keeps of the chain from the cursor is what it keeps of the whole, since no extension that was passed is a SACK. A step goes forward within the
-- datagram, so what is left of it is the measure.
use Rattle.std.proofs.Common.{◌≡◌, ◌+◌, ◌-◌, length}
use Rattle.packet.specs.Chain.{chain_from, read_of}
use Rattle.packet.proofs.extension.read_chain.Given as goal

abbrev pub invariant-loop-extension : goal.invariant-loop-extension
invariant-loop-extension l = read_of (chain_from l.datagram l.fn.from) ≡ read_of (chain_from l.datagram l.cursor)

abbrev pub decreases-loop-extension : goal.decreases-loop-extension
decreases-loop-extension l = length l.datagram + 1 - l.cursor.at
