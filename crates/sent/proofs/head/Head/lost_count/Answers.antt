-- Each lost packet is in the list once.
use Rattle.std.proofs.Common.{sym, ap, ◌∙◌, arith}
use Rattle.common.specs.Answer.{done}
use Rattle.outgoing.specs.Read.{lost_count_in}
use Rattle.sent.specs.Whole.{whole_of}
use Rattle.sent.specs.Laws.LostState.{count_all}
use Rattle.sent.specs.Laws.Sound.{read_sound, state_counts}
use Rattle.sent.proofs.head.Head.lost_count.Goals as goal

pub lost_between-requires-clause-within : goal.lost_between-requires-clause-within
lost_between-requires-clause-within g c =
    let a = c.args in
    let s = whole_of a.self (g.S.Samples.samples a.samples.now) (g.P.Packets.packets a.packets.now) in
    let sound = sym c.sound.ensures.sound ∙ c.if-not-sound.false in
    (omega arith, (state_counts s sound c.sound.ensures.full.count).0)

pub returns : goal.returns
returns g c =
    let a = c.args in
    let s = whole_of a.self (g.S.Samples.samples a.samples.now) (g.P.Packets.packets a.packets.now) in
    let sound = sym c.sound.ensures.sound ∙ c.if-not-sound.false in
    ap done (c.lost_between.ensures.count ∙ sym (count_all s c.sound.ensures.full.count sound (omega arith))) ∙ sym (read_sound s lost_count_in sound)
