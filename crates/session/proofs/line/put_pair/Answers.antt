-- Two numbers one behind the other, each with the character behind it.
use Rattle.std.proofs.Common.{ℕ, ◌+◌, List, [], ◌∷◌, ◌++◌, length, arith, ap, ◌∙◌}
use Rattle.common.specs.Laws.Put.{put}
use Rattle.session.specs.Lines.{decimal}
use Rattle.session.specs.Laws.Text.{Placed, placed-next, pair_joined}
use Rattle.session.proofs.line.put_pair.Goals as goal

pub returns : goal.returns
returns c =
    let a = c.args in
    let room = a.room.now in
    let f1 = c.put_field-place in
    let f2 = c.put_field in
    let p1 : Placed room a.at (decimal a.n ++ (32 ∷ [])) f1.new.room f1.result = record { place = f1.ensures.0; room_is = f1.ensures.2 } in
    let p2 = placed-next room a.at _ f1.new.room f1.result (decimal a.m ++ (a.end ∷ [])) f2.new.room f2.result p1 (omega (arith, c.requires, p1.place, f1.ensures.1)) f2.ensures.0 f2.ensures.2 in
    let joined = pair_joined a.n a.m a.end in
    (p2.place ∙ ap (λ (l : List ℕ). a.at + length l) joined, omega (arith, f1.ensures.1, f2.ensures.1), p2.room_is ∙ ap (put room a.at) joined)
