-- A turn takes one of those that are left, and the last leaves none.
use Rattle.std.proofs.Common.{arith, false, sym, ◌≡◌, ◌∙◌}
use Rattle.session.specs.Laws.Page.{goes_on as on, stops_ended, stops_full, goes, turns_stop, turns_none, turns_next}
use Rattle.session.proofs.replay.Replay.fill.Goals as goal
use Rattle.session.proofs.replay.Replay.fill.Goals.{then-page-via-then-page, then-page-via-else-page+then-not-has_room}

pub returns-then-page : goal.returns-then-page
returns-then-page c =
    let l = c.loop-turn in
    let stops : on (l.page, l.room) ≡ false = elim c.then-page.branch [
      | then-page-via-then-page w ↦ stops_ended (l.page, l.room) w.if-page.true
      | then-page-via-else-page+then-not-has_room w ↦ stops_full (l.page, l.room) (sym w.has_room.ensures ∙ w.if-not-has_room.true)
    ] in
    sym (l.invariant.2 ∙ turns_stop c.args.file.now _ (l.page, l.room) stops)

pub loop-turn-preserved : goal.loop-turn-preserved
loop-turn-preserved c =
    let l = c.loop-turn in
    let more = goes (l.page, l.room) (sym c.has_room.ensures ∙ c.if-not-has_room.false) c.if-page.false in
    (omega arith, c.turn-page.auto.room ∙ l.invariant.1, l.invariant.2 ∙ turns_next c.args.file.now _ l._turn (l.page, l.room) _ c.loop-turn-test.true more c.turn-page.ensures)

pub returns : goal.returns
returns c =
    let l = c.loop-turn in
    sym (l.invariant.2 ∙ turns_none c.args.file.now _ l._turn (l.page, l.room) c.loop-turn-test.false)
