-- Head, samples and packets are those of the state that the definition says.
use Rattle.std.proofs.Common.{ap, ◌∙◌}
use Rattle.common.specs.Answer.{Answer}
use Rattle.sent.specs.declared.head.Head.{Head}
use Rattle.sent.specs.State.{ack_answer}
use Rattle.ribsaddle.specs.Answer.{number_of}
use Rattle.ribsaddle.specs.Tracker.{whole_of, ack_of}
use Rattle.ribsaddle.specs.Laws.Tracker.{parts_are}
use Rattle.ribsaddle.proofs.tracker.ribsaddle_sent_ack.Goals as goal

pub returns : goal.returns
unfolding ack_of
returns c =
    let a = c.args in
    let next = c.on_ack-next in
    let s = (ack_answer (whole_of a.sent.now) (record { 0 = a.number }) a.sack.now a.delay a.clock).1 in (
      c.of_outcome.ensures ∙ ap (λ (x : Answer (Unit {0}) × Head). number_of x.0) next.ensures.answer,
      parts_are s next.result.head next.new.samples next.new.packets (ap (λ (x : Answer (Unit {0}) × Head). x.1) next.ensures.answer) next.ensures.samples next.ensures.packets,
    )
