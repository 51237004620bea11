-- Three pairs of numbers one behind the other.
use Rattle.std.proofs.Common.{ℕ, ◌+◌, List, length, arith, ap, ◌∙◌}
use Rattle.common.specs.Laws.Put.{put}
use Rattle.session.specs.Answers.{pair_text}
use Rattle.session.specs.Laws.Text.{Placed, placed-next, line_joined}
use Rattle.session.proofs.line.LineText.put_text.Goals as goal

pub returns : goal.returns
returns c =
    let line = c.args.self in
    let room = c.args.room.now in
    let at = c.args.at in
    let f1 = c.put_pair-a in
    let f2 = c.put_pair-b in
    let f3 = c.put_pair in
    let p1 : Placed room at (pair_text line.index line.answer 32) f1.new.room f1.result = record { place = f1.ensures.0; room_is = f1.ensures.2 } in
    let p2 = placed-next room at _ f1.new.room f1.result (pair_text line.in_flight line.maximum 32) f2.new.room f2.result p1 (omega (arith, c.requires, p1.place, f1.ensures.1)) f2.ensures.0 f2.ensures.2 in
    let p3 = placed-next room at _ f2.new.room f2.result (pair_text line.timeout line.lost 10) f3.new.room f3.result p2 (omega (arith, c.requires, p2.place, f1.ensures.1, f2.ensures.1)) f3.ensures.0 f3.ensures.2 in
    (p3.place ∙ ap (λ (l : List ℕ). at + length l) (line_joined line), p3.room_is ∙ ap (put room at) (line_joined line))
