-- What was counted and what is left to count come to the whole.
use Rattle.std.proofs.Common.{◌≡◌, ◌≤◌, ◌-◌, ◌+◌}
use Rattle.std.proofs.Math.Seq.{slice}
use Rattle.outgoing.specs.Lost.{lost_count_of}
use Rattle.sent.proofs.lost.lost_between.Given as goal

abbrev pub invariant-loop-i : goal.invariant-loop-i
invariant-loop-i g l =
    let packets = g.P.Packets.packets l.packets in
    record {
      counted : l.count + lost_count_of (slice l.i l.to packets) ≡ lost_count_of (slice l.from l.to packets);
      few : l.count ≤ l.i - l.from;
    }
