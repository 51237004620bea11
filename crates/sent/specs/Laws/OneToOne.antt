-- No two answers have the same number and values.
use Rattle.std.specs.Prelude.{◌≡◌}
use Rattle.std.proofs.Common.{ap, ap₂}
use Rattle.common.specs.Answer.{Answer}
use Rattle.outgoing.specs.declared.answer.Outcome.{Outcome}
use Rattle.outgoing.specs.Laws.OneToOne.{outcome_one}
use Rattle.sent.specs.declared.head.Head.{Head}
use Rattle.sent.specs.declared.head.Stepped.{Stepped}
use Rattle.sent.specs.declared.state.SentPackets.{SentPackets}
use Rattle.sent.specs.declared.answer.Tracked.{Tracked}
use Rattle.sent.specs.Answers.{told}
use Rattle.sent.specs.Whole.{stepped}

pub told_one : (x y : Tracked) → told x ≡ told y → x ≡ y
told_one x y e =
    ap₂ (λ (a : Outcome) (s : SentPackets). record { answer = a; state = s }) (outcome_one x.answer y.answer (ap (λ (p : Answer (Unit {0}) × SentPackets). p.0) e))
    (ap (λ (p : Answer (Unit {0}) × SentPackets). p.1) e)

pub stepped_one : (x y : Stepped) → stepped x ≡ stepped y → x ≡ y
stepped_one x y e =
    ap₂ (λ (a : Outcome) (h : Head). record { answer = a; head = h }) (outcome_one x.answer y.answer (ap (λ (p : Answer (Unit {0}) × Head). p.0) e))
    (ap (λ (p : Answer (Unit {0}) × Head). p.1) e)
