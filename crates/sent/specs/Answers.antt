-- What `Tracked` answers, as document 01's number and values. Definitions only.
use Rattle.common.specs.Answer.{Answer}
use Rattle.outgoing.specs.Answers.{outcome}
use Rattle.sent.specs.declared.state.SentPackets.{SentPackets}
use Rattle.sent.specs.declared.answer.Tracked.{Tracked}

-- The answer beside the state.
abbrev pub told : Tracked → Answer (Unit {0}) × SentPackets
told r = (outcome r.answer, r.state)
