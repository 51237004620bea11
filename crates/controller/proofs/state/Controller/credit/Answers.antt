-- `credit` meets its contract: the numbers are sound and the round trip is at most 2^50, so `acked` credits the packet.
use Rattle.std.proofs.Common.{◌≡◌, true, ◌-◌, nat_le, arith, le-leb}
use Rattle.congestion.specs.Settings.{latest}
use Rattle.controller.specs.Controller.{credit_of}
use Rattle.controller.proofs.state.Controller.credit.Goals as goal

pub returns : goal.returns
unfolding credit_of
returns c =
    let a = c.args in
    let short : nat_le (a.clock - a.packet.at) latest ≡ true = le-leb (a.clock - a.packet.at) latest (omega (arith, c.requires.1)) in
    simp (c.done.ensures, c.accepted.ensures, c.acked-credited.ensures, c.base.ensures, c.take-taken.ensures, c.requires.0, short)
