-- The test for room decides whether the text is written.
use Rattle.std.proofs.Common.{sym, ◌∙◌}
use Rattle.session.specs.Laws.Text.{wrote_no, wrote_yes}
use Rattle.session.proofs.line.put_whole.Goals as goal

pub returns-then-not-has_room : goal.returns-then-not-has_room
returns-then-not-has_room g c =
    let a = c.args in
    wrote_no a.room.now a.at (g.T.Text.text a.text) (sym c.has_room.ensures ∙ c.if-not-has_room.true)

pub returns : goal.returns
returns g c =
    let a = c.args in
    let p = c.put_text in
    wrote_yes a.room.now a.at (g.T.Text.text a.text) p.new.room p.result (sym c.has_room.ensures ∙ c.if-not-has_room.false) p.ensures.0 p.ensures.1
