-- What is left to do from step `j` on gives, from here, what all of it gives from the start.
use Rattle.std.proofs.Common.{◌≡◌, ◌-◌, ◌+◌, ◌++◌}
use Rattle.outgoing.specs.Hear.{all_heard_of, heard_at, steps_from, run_of, step_of}
use Rattle.sent.specs.Full.{Full}
use Rattle.sent.specs.Whole.{heard_in}
use Rattle.sent.proofs.ack.hear_runs.Given as goal

abbrev pub invariant-loop-j : goal.invariant-loop-j
invariant-loop-j g l =
    record {
      goes_on : all_heard_of l.ack (heard_in l.heard (g.P.Packets.packets l.packets))
          (steps_from (λ j. heard_at l.ack l.sack l.bits (step_of l.run l.then j)) l.j (l.run.count + l.then.count - l.j))
          ≡ all_heard_of l.ack (heard_in l.initial.heard (g.P.Packets.packets l.initial.packets))
          (run_of (heard_at l.ack l.sack l.bits) l.run ++ run_of (heard_at l.ack l.sack l.bits) l.then);
      full : Full g.P.Packets.packets g.P.Packets.of_packets l.packets;
    }
