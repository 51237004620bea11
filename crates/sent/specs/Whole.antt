-- The state that a head makes up with the samples and the packets that lie elsewhere, and what a call answers beside the head. Definitions only.
use Rattle.std.specs.Prelude.{List}
use Rattle.common.specs.Answer.{Answer}
use Rattle.controller.specs.declared.delays.Sample.{Sample}
use Rattle.controller.specs.Delays.{delays_of}
use Rattle.outgoing.specs.declared.kept.Packet.{Packet}
use Rattle.outgoing.specs.declared.ack.Heard.{Heard}
use Rattle.outgoing.specs.Answers.{outcome}
use Rattle.sent.specs.declared.ack.Marked.{Marked}
use Rattle.sent.specs.declared.head.Head.{Head}
use Rattle.sent.specs.declared.head.Stepped.{Stepped}
use Rattle.sent.specs.declared.state.SentPackets.{SentPackets}

-- ---- the state

abbrev pub whole_of : Head → List Sample → List Packet → SentPackets
whole_of h samples packets =
    record {
      initial = h.initial;
      count = h.count;
      live = h.live;
      numbers = h.numbers;
      delays = delays_of samples h.kept;
      packets = packets;
    }

abbrev pub head_of : SentPackets → Head
head_of s = record { initial = s.initial; count = s.count; live = s.live; kept = s.delays.count; numbers = s.numbers }

-- What a call answers, and the head beside it.
abbrev pub stepped : Stepped → Answer (Unit {0}) × Head
stepped r = (outcome r.answer, r.head)

abbrev pub headed : Answer (Unit {0}) × SentPackets → Answer (Unit {0}) × Head
headed a = (a.0, head_of a.1)

-- ---- what an ack works on

abbrev pub heard_in : Marked → List Packet → Heard
heard_in m packets = record { packets = packets; numbers = m.numbers; news = m.news }
