-- The steps of the two runs speak of what document 01 names, in its order.
use Rattle.std.proofs.Common.{arith}
use Rattle.outgoing.specs.Hear.{unheard_of}
use Rattle.sent.specs.Laws.Heard.{heard_all}
use Rattle.sent.proofs.ack.hear.Goals as goal

pub returns-clause-heard : goal.returns-clause-heard
returns-clause-heard g c =
    let a = c.args in
    let bits = c.bit_count-bits in
    heard_all _ (unheard_of (g.P.Packets.packets a.packets.now) a.numbers) a.ack a.sack.now bits.result c.earlier_count.result (omega (arith, bits.ensures)) c.requires.sent.0 c.earlier_count.ensures
    c.hear_runs.ensures.heard
