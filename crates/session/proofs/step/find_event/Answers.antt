-- The event is told if it is there and known.
use Rattle.std.proofs.Common.{ap, ◌∙◌}
use Rattle.session.specs.Replay.{found}
use Rattle.session.specs.Laws.Step.{event-none, event_found}
use Rattle.session.proofs.step.find_event.Goals as goal

pub returns-then-file-at : goal.returns-then-file-at
returns-then-file-at c = event-none c.args.file.now c.args.index c.if-file-at.true

pub returns : goal.returns
returns c =
    let k = c.is_known in
    let e = c.read_event-event in
    ap found c.then_some.ensures ∙ event_found c.args.file.now c.args.index k.result e.result c.if-file-at.false e.ensures k.ensures
