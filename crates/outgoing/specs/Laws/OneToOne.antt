-- No two answers have the same number and values.
use Rattle.std.specs.Prelude.{◌≡◌, refl, ℕ, cond, eqb}
use Rattle.std.proofs.Common.{sym, ap, ◌∙◌, arith}
use Rattle.common.specs.Answer.{Answer, done, refused}
use Rattle.packet.specs.declared.sack.SackReason.TheVariants.{SackShort, SackNotWords, SackLong}
use Rattle.outgoing.specs.declared.answer.Reason.{Reason}
use Rattle.outgoing.specs.declared.answer.Reason.TheVariants.{BadSack, BadSetting, BadTime, NotSent, NoWindow, NoPlace, TooMany, NotSound}
use Rattle.outgoing.specs.declared.answer.Outcome.{Outcome}
use Rattle.outgoing.specs.declared.answer.Outcome.TheVariants.{Done, Refused}
use Rattle.outgoing.specs.declared.answer.Told.{Told}
use Rattle.outgoing.specs.declared.answer.Told.TheVariants.{Is, Refused as NotTold}
use Rattle.outgoing.specs.Answers.{reason_number, outcome, answer_told}

-- the reason of a number
abbrev reason_of : ℕ → Reason
reason_of n = cond (eqb n 5) (BadSack SackShort) (cond (eqb n 6) (BadSack SackNotWords) (cond (eqb n 8) (BadSack SackLong) (cond (eqb n 10) BadSetting (cond (eqb n 11) BadTime (cond (eqb n 12) NotSent (cond (eqb n 13) NoWindow (cond (eqb n 14) NoPlace (cond (eqb n 15) TooMany (NotSound)))))))))

reason_back : (r : Reason) → reason_of (reason_number r) ≡ r
reason_back (BadSack SackShort) = refl
reason_back (BadSack SackNotWords) = refl
reason_back (BadSack SackLong) = refl
reason_back BadSetting = refl
reason_back BadTime = refl
reason_back NotSent = refl
reason_back NoWindow = refl
reason_back NoPlace = refl
reason_back TooMany = refl
reason_back NotSound = refl

reason_one : (r r' : Reason) → reason_number r ≡ reason_number r' → r ≡ r'
reason_one r r' e = sym (reason_back r) ∙ ap reason_of e ∙ reason_back r'

refusal_one : {A : Type 0} (r r' : Reason) → ◌≡◌ {A = Answer A} (refused (reason_number r)) (refused (reason_number r')) → r ≡ r'
refusal_one r r' e = reason_one r r' (let q : reason_number r ≡ reason_number r' = cc in q)

differ : {A B : Type 0} (v : A) (n : ℕ) → ◌≡◌ {A = Answer A} (done v) (refused n) → B
differ v n e = let z : ◌≡◌ {A = ℕ} 0 1 = cc in absurd (omega arith)

pub outcome_one : (x y : Outcome) → outcome x ≡ outcome y → x ≡ y
outcome_one Done Done e = refl
outcome_one Done (Refused r) e = differ tt (reason_number r) e
outcome_one (Refused r) Done e = differ tt (reason_number r) (sym e)
outcome_one (Refused r) (Refused r') e = ap Refused (refusal_one r r' e)

-- Of whatever is told.
pub answer_told_one : {A : Type 0} (x y : Told A) → answer_told x ≡ answer_told y → x ≡ y
answer_told_one (Is a) (Is a') e = let q : a ≡ a' = cc in ap Is q
answer_told_one (Is a) (NotTold r) e = differ a (reason_number r) e
answer_told_one (NotTold r) (Is a) e = differ a (reason_number r) (sym e)
answer_told_one (NotTold r) (NotTold r') e = ap NotTold (refusal_one r r' e)
