-- No two outcomes have the same number and values: the reason is read back from its number.
use Rattle.std.specs.Prelude.{ℕ, cond, ◌≡◌, refl, eqb}
use Rattle.std.proofs.Common.{ap}
use Rattle.common.specs.Answer.{Answer, done, refused}
use Rattle.common.specs.Laws.OneToOne.{by_inverse}
use Rattle.controller.specs.declared.answer.Reason.{Reason}
use Rattle.controller.specs.declared.answer.Reason.TheVariants.{BadSetting, BadTime, NotSent, NoWindow, NotSound}
use Rattle.controller.specs.declared.answer.Answer.{Answer as Given}
use Rattle.controller.specs.declared.answer.Answer.TheVariants.{Done, Refused}
use Rattle.controller.specs.declared.state.Controller.{Controller}
use Rattle.controller.specs.declared.state.Outcome.{Outcome}
use Rattle.controller.specs.Answers.{given, outcome}

-- The reason of a number.
abbrev reason : ℕ → Reason
reason n = cond (eqb n 10) BadSetting (cond (eqb n 11) BadTime (cond (eqb n 12) NotSent (cond (eqb n 13) NoWindow NotSound)))

pub outcome_one_to_one : (a b : Outcome) → outcome a ≡ outcome b → a ≡ b
outcome_one_to_one = by_inverse outcome back undone
  where
    answer : Answer (Unit {0}) → Given
    answer (done u) = Done
    answer (refused n) = Refused (reason n)

    answer_back : (a : Given) → answer (given a) ≡ a
    answer_back Done = refl
    answer_back (Refused BadSetting) = refl
    answer_back (Refused BadTime) = refl
    answer_back (Refused NotSent) = refl
    answer_back (Refused NoWindow) = refl
    answer_back (Refused NotSound) = refl

    back : Answer (Unit {0}) × Controller → Outcome
    back (a, c) = record { answer = answer a; controller = c }

    undone : (r : Outcome) → back (outcome r) ≡ r
    undone r = ap (λ (a : Given). record { answer = a; controller = r.controller }) (answer_back r.answer)
