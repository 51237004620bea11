-- The packet that is looked for among all is, among those from `i` on, the one at position `left`.
use Rattle.std.proofs.Common.{◌≡◌, ◌+◌}
use Rattle.std.proofs.Math.Seq.{slice}
use Rattle.outgoing.specs.Lost.{nth_lost}
use Rattle.sent.proofs.lost.lost_place.Given as goal

abbrev pub invariant-loop-i : goal.invariant-loop-i
invariant-loop-i g l =
    let packets = g.P.Packets.packets l.packets in
    l.from + nth_lost (slice l.from l.to packets) l.position ≡ l.i + nth_lost (slice l.i l.to packets) l.left
