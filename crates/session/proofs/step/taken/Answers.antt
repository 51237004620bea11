-- The answer says whether the tracker was sound.
use Rattle.std.proofs.Common.{sym, refl, ◌∙◌, eqb-true}
use Rattle.std.proofs.lemmas.Bool.{eqb-false}
use Rattle.sent.specs.Answers.{told}
use Rattle.session.specs.Laws.Step.{taken_unsound, taken_line}
use Rattle.session.proofs.step.taken.Goals as goal

pub returns-then-is_unsound : goal.returns-then-is_unsound
returns-then-is_unsound c =
    let a = c.args in
    let t = c.applied-tracked in
    taken_unsound a.replay a.event a.sack.now (told t.result) _ t.ensures refl (eqb-true _ _ (sym c.is_unsound.ensures ∙ c.if-is_unsound.true))

pub returns : goal.returns
returns c =
    let a = c.args in
    let t = c.applied-tracked in
    let n = c.answer_number in
    let l = c.shown-line in
    let z = c.sack_size in
    taken_line a.replay a.event a.sack.now (told t.result) n.result t.ensures n.ensures l.result z.result
    (λ e. eqb-false _ _ (sym c.is_unsound.ensures ∙ c.if-is_unsound.false) (sym n.ensures ∙ e)) l.ensures z.ensures
