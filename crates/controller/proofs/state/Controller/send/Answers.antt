-- `send` meets its contract, by the kind of the transmit and the test of the free window.
use Rattle.std.proofs.Common.{le-leb}
use Rattle.std.proofs.lemmas.Bool.{lt-leb}
use Rattle.controller.specs.Controller.{send_of}
use Rattle.controller.proofs.state.Controller.send.Goals as goal

pub returns-in_default : goal.returns-in_default
unfolding send_of
returns-in_default c = simp (c.done.ensures, c.accepted.ensures, c.in_default.is)

pub returns-then-free_window-len : goal.returns-then-free_window-len
unfolding send_of
returns-then-free_window-len c =
    simp (c.refused.ensures, c.in-Initial.is, lt-leb _ _ (rw c.free_window.ensures at c.if-free_window-len.true))

pub returns : goal.returns
unfolding send_of
returns c =
    let fits = le-leb _ _ (rw c.free_window.ensures at c.if-free_window-len.false) in
    simp (c.done-2.ensures, c.accepted-2.ensures, c.transmitted.ensures, c.in-Initial.is, fits)
