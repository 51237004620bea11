-- Whether an event is left, and whether it and its SACK bytes are in the file.
use Rattle.std.proofs.Common.{refl, ◌∙◌}
use Rattle.std.proofs.lemmas.Bool.{lt-leb}
use Rattle.session.specs.Laws.Step.{step_ended, step_event, sack_missing, step_taken}
use Rattle.session.proofs.replay.Replay.step.Goals as goal

pub returns-then-self : goal.returns-then-self
returns-then-self c = step_ended c.args.file.now c.args.self c.if-self.true

pub returns-in_default : goal.returns-in_default
returns-in_default c = step_event c.args.file.now c.args.self c.if-self.false _ c.in_default.ensures

pub returns-in_default-bytes_from : goal.returns-in_default-bytes_from
returns-in_default-bytes_from c =
    let file = c.args.file.now in
    let r = c.args.self in
    sack_missing file r c.in-Some.event c.sack_size-size.result _ c.sack_size-size.ensures refl (lt-leb _ _ c.in_default-bytes_from.ensures)
    ∙ step_event file r c.if-self.false _ c.in-Some.ensures

pub returns : goal.returns
returns c =
    let file = c.args.file.now in
    let r = c.args.self in
    let s = c.in-Some-bytes_from.ensures in
    step_taken file r c.in-Some.event c.sack_size-size.result c.sack_size-size.ensures s.0 _ _ s.1 c.taken.ensures
    ∙ step_event file r c.if-self.false _ c.in-Some.ensures
