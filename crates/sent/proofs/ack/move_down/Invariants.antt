-- The first `i` have been moved.
use Rattle.std.proofs.Common.{◌≡◌}
use Rattle.outgoing.specs.Laws.Move.{moved_of}
use Rattle.sent.specs.Full.{Full}
use Rattle.sent.proofs.ack.move_down.Given as goal

abbrev pub invariant-loop-i : goal.invariant-loop-i
invariant-loop-i g l =
    record {
      moved : g.P.Packets.packets l.packets ≡ moved_of (g.P.Packets.packets l.initial.packets) l.first l.i;
      full : Full g.P.Packets.packets g.P.Packets.of_packets l.packets;
    }
