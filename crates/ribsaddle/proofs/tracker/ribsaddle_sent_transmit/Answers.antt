-- A known type goes to the tracker; another is refused, behind the soundness test.
use Rattle.std.proofs.Common.{refl, true, false, ap, sym, ◌∙◌}
use Rattle.common.specs.Answer.{Answer}
use Rattle.sent.specs.declared.head.Head.{Head}
use Rattle.ribsaddle.specs.Answer.{number_of}
use Rattle.ribsaddle.specs.Laws.Tracker.{known_left, unknown_left}
use Rattle.ribsaddle.proofs.tracker.ribsaddle_sent_transmit.Goals as goal

pub returns-then-sound : goal.returns-then-sound
returns-then-sound c =
    let a = c.args in
    let tested = c.sound-sound.ensures in
    unknown_left a.sent.now a.number a.packet_type a.tag a.len a.clock c.in_default.ensures 2 true (sym c.if-sound.true ∙ tested.sound) refl tested.alone tested.full.alone

pub returns-else-sound : goal.returns-else-sound
returns-else-sound c =
    let a = c.args in
    let tested = c.sound-sound.ensures in
    unknown_left a.sent.now a.number a.packet_type a.tag a.len a.clock c.in_default.ensures 19 false (sym c.if-sound.false ∙ tested.sound) refl tested.alone tested.full.alone

pub returns : goal.returns
returns c =
    let a = c.args in
    let next = c.on_transmit-next in
    known_left a.sent.now a.number a.packet_type a.tag a.len a.clock c.in-Known.known c.in-Known.ensures c.of_outcome.result next.result.head next.new.packets
    (c.of_outcome.ensures ∙ ap (λ (x : Answer (Unit {0}) × Head). number_of x.0) next.ensures.answer)
    (ap (λ (x : Answer (Unit {0}) × Head). x.1) next.ensures.answer)
    next.ensures.samples
    next.ensures.packets
