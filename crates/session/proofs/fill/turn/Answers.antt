-- What the step tells says whether a line is written.
use Rattle.std.proofs.Common.{ap, sym, ◌∙◌}
use Rattle.std.specs.Prelude.{Option}
use Rattle.std.specs.Option.{option_flatten}
use Rattle.session.specs.declared.line.Line.{Line}
use Rattle.session.specs.Laws.Page.{turn_some, turn_none}
use Rattle.session.proofs.fill.turn.Goals as goal

pub returns-in-Some : goal.returns-in-Some
returns-in-Some c =
    let a = c.args in
    let s = c.step-stepped in
    let p = c.put_text in
    turn_some a.room.now a.used s.result.told s.result.replay _ s.ensures _ p.result p.new.room (sym (c.flatten.ensures ∙ ap (λ (o : Option (Option Line)). option_flatten o) c.ok.ensures.value) ∙ c.in-Some.is) p.ensures.0 p.ensures.1

pub returns-in-None : goal.returns-in-None
returns-in-None c =
    let a = c.args in
    let s = c.step-stepped in
    turn_none a.room.now a.used s.result.told s.result.replay _ s.ensures (sym (c.flatten.ensures ∙ ap (λ (o : Option (Option Line)). option_flatten o) c.ok.ensures.value) ∙ c.in-None.is)
