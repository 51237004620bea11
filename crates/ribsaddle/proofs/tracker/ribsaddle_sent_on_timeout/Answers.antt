-- Only the head changes.
use Rattle.std.proofs.Common.{ap, ◌∙◌}
use Rattle.common.specs.Answer.{Answer}
use Rattle.sent.specs.declared.head.Head.{Head}
use Rattle.sent.specs.State.{timeout_answer}
use Rattle.ribsaddle.specs.Answer.{number_of}
use Rattle.ribsaddle.specs.Tracker.{whole_of, timeout_of}
use Rattle.ribsaddle.specs.Laws.Tracker.{parts_are}
use Rattle.ribsaddle.proofs.tracker.ribsaddle_sent_on_timeout.Goals as goal

pub returns : goal.returns
unfolding timeout_of
returns c =
    let t = c.args.sent.now in
    let next = c.on_timeout-next in (
      c.of_outcome.ensures ∙ ap (λ (x : Answer (Unit {0}) × Head). number_of x.0) next.ensures.answer,
      parts_are (timeout_answer (whole_of t)).1 next.result.head t.samples t.packets (ap (λ (x : Answer (Unit {0}) × Head). x.1) next.ensures.answer) next.ensures.samples next.ensures.packets,
    )
