-- The first word, and the number with the newline behind it.
use borrow.Rule.Slice.PartMut.{put_mid}
use Rattle.std.proofs.Common.{ℕ, ◌+◌, List, [], ◌∷◌, ◌++◌, ◌≡◌, length, take, arith, refl, ap, ◌∙◌, drop-drop}
use Rattle.common.specs.Laws.Put.{put}
use Rattle.session.specs.Lines.{decimal, bad_text}
use Rattle.session.specs.Laws.Text.{Placed, placed-next}
use Rattle.session.proofs.line.BadText.put_text.Goals as goal

-- A copy to the four places from `at` on is a writing there.
word_put : (room word part : List ℕ) (at size : ℕ) → part ≡ word → size ≡ length word → put_mid at size room part ≡ put room at word
unfolding put
word_put room word part at size e long = rw (e, long) (ap (λ (rest : List ℕ). take at room ++ (word ++ rest)) (drop-drop (length word) at room))

pub returns : goal.returns
unfolding bad_text
returns c =
    let a = c.args in
    let room = a.room.now in
    let f = c.put_field in
    let n = c.from in
    let is = n.ensures ∙ c.number.ensures in
    let word : List ℕ = 98 ∷ 97 ∷ 100 ∷ 32 ∷ [] in
    let p1 : Placed room a.at word _ (a.at + 4) = record { place = refl; room_is = word_put room word _ a.at _ c.copy_from_slice.ensures.after (omega arith) } in
    let p2 = placed-next room a.at word _ (a.at + 4) (decimal n.result ++ (10 ∷ [])) f.new.room f.result p1 (omega (arith, c.requires)) f.ensures.0 f.ensures.2 in
    (p2.place ∙ ap (λ (k : ℕ). a.at + length (bad_text k)) is, p2.room_is ∙ ap (λ (k : ℕ). put room a.at (bad_text k)) is)
