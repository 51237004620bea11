-- What stands from `i` on has been looked at, and `later` of it is acknowledged.
use Rattle.std.proofs.Common.{◌≡◌, ◌≤◌, ◌-◌, ◌*◌, ◌^◌, take, drop}
use Rattle.outgoing.specs.Loss.{acked_count_of}
use Rattle.outgoing.specs.Sound.{in_flight_of, packets_sound_of}
use Rattle.sent.proofs.head.walked.Given as goal

abbrev pub invariant-loop-i : goal.invariant-loop-i
invariant-loop-i g l =
    let behind = drop l.i (take l.live (g.P.Packets.packets l.packets)) in
    record {
      fine_is : l.fine ≡ packets_sound_of l.last behind;
      flying_is : l.in_flight ≡ in_flight_of behind;
      later_is : l.later ≡ acked_count_of behind;
      flying_few : l.in_flight ≤ (l.live - l.i) * 2 ^ 32;
      later_few : l.later ≤ l.live - l.i;
    }
