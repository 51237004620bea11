-- Each case of each answer by document 01's number, with its values ("Answer numbers"). The promises use these; Laws.OneToOne shows that no two answers have the
-- same number and values. Definitions only.
use Rattle.std.specs.Prelude.{ℕ}
use Rattle.common.specs.Answer.{Answer, done, refused}
use Rattle.packet.specs.Answers.{sack_number}
use Rattle.outgoing.specs.declared.answer.Reason.{Reason}
use Rattle.outgoing.specs.declared.answer.Reason.TheVariants.{BadSack, BadSetting, BadTime, NotSent, NoWindow, NoPlace, TooMany, NotSound}
use Rattle.outgoing.specs.declared.answer.Outcome.{Outcome}
use Rattle.outgoing.specs.declared.answer.Outcome.TheVariants.{Done, Refused}
use Rattle.outgoing.specs.declared.answer.Told.{Told}
use Rattle.outgoing.specs.declared.answer.Told.TheVariants.{Is, Refused as NotTold}

abbrev pub reason_number : Reason → ℕ
reason_number (BadSack r) = sack_number r
reason_number BadSetting = 10
reason_number BadTime = 11
reason_number NotSent = 12
reason_number NoWindow = 13
reason_number NoPlace = 14
reason_number TooMany = 15
reason_number NotSound = 19

abbrev pub outcome : Outcome → Answer (Unit {0})
outcome Done = done tt
outcome (Refused r) = refused (reason_number r)

abbrev pub answer_told : {A : Type 0} → Told A → Answer A
answer_told (Is a) = done a
answer_told (NotTold r) = refused (reason_number r)
