-- Those before `run` are acknowledged, so the run goes on from there.
use Rattle.std.proofs.Common.{◌≡◌, take, drop}
use Rattle.outgoing.specs.Ack.{from_unacked}
use Rattle.sent.proofs.ack.acked_run.Given as goal

abbrev pub invariant-loop-run : goal.invariant-loop-run
invariant-loop-run g l =
    let kept = take l.live (g.P.Packets.packets l.packets) in
    from_unacked kept ≡ from_unacked (drop l.run kept)
