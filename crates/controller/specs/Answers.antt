-- Each case of each answer by document 01's number, with its values ("Answer numbers"). The promises use these; Laws.OneToOne shows that no two outcomes have the
-- same number and values. Definitions only.
use Rattle.std.specs.Prelude.{ℕ}
use Rattle.common.specs.Answer.{Answer, done, refused}
use Rattle.controller.specs.declared.answer.Reason.{Reason}
use Rattle.controller.specs.declared.answer.Reason.TheVariants.{BadSetting, BadTime, NotSent, NoWindow, NotSound}
use Rattle.controller.specs.declared.answer.Answer.{Answer as Given}
use Rattle.controller.specs.declared.answer.Answer.TheVariants.{Done, Refused}
use Rattle.controller.specs.declared.state.Controller.{Controller}
use Rattle.controller.specs.declared.state.Outcome.{Outcome}

-- 10: setting out of range; 11: time or delay above 2^50, or now below the last accepted now; 12: number not sent; 13: first transmit longer than
-- the free window; 19: state not sound.
abbrev pub reason_number : Reason → ℕ
reason_number BadSetting = 10
reason_number BadTime = 11
reason_number NotSent = 12
reason_number NoWindow = 13
reason_number NotSound = 19

abbrev pub given : Given → Answer (Unit {0})
given Done = done tt
given (Refused r) = refused (reason_number r)

-- The answer beside the controller.
abbrev pub outcome : Outcome → Answer (Unit {0}) × Controller
outcome r = (given r.answer, r.controller)
