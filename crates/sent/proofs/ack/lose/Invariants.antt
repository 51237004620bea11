-- From `i` on losses are marked and counted, before it nothing is changed, and `later` of those from `i` on are acknowledged.
use Rattle.std.proofs.Common.{◌≡◌, ◌≤◌, ◌-◌, take, drop}
use Rattle.outgoing.specs.Hear.{loss_from_of}
use Rattle.outgoing.specs.Loss.{acked_count_of}
use Rattle.sent.specs.Full.{Full}
use Rattle.sent.specs.Whole.{heard_in}
use Rattle.sent.proofs.ack.lose.Given as goal

abbrev pub invariant-loop-i : goal.invariant-loop-i
invariant-loop-i g l =
    record {
      marked : heard_in l.next (g.P.Packets.packets l.packets) ≡ loss_from_of (heard_in l.initial.next (g.P.Packets.packets l.initial.packets)) l.live l.i;
      later_is : l.later ≡ acked_count_of (drop l.i (take l.live (g.P.Packets.packets l.initial.packets)));
      later_few : l.later ≤ l.live - l.i;
      full : Full g.P.Packets.packets g.P.Packets.of_packets l.packets;
    }
