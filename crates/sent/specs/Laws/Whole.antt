-- The state that a head makes up with samples and packets: one equation of the whole tells each of them.
use Rattle.std.specs.Prelude.{◌≡◌, List, replicate}
use Rattle.std.proofs.Common.{sym, ap, ap₂, ◌∙◌}
use Rattle.common.specs.Answer.{Answer}
use Rattle.seq.specs.declared.SeqNum.{SeqNum}
use Rattle.congestion.specs.declared.settings.Settings.{Settings}
use Rattle.congestion.specs.declared.numbers.Numbers.{Numbers}
use Rattle.congestion.specs.Numbers.{new_of}
use Rattle.controller.specs.declared.delays.Delays.{Delays}
use Rattle.controller.specs.declared.delays.Sample.{Sample}
use Rattle.controller.specs.Delays.{no_delays}
use Rattle.outgoing.specs.declared.kept.Packet.{Packet}
use Rattle.outgoing.specs.Tracker.{no_packet}
use Rattle.sent.specs.declared.head.Head.{Head}
use Rattle.sent.specs.declared.state.SentPackets.{SentPackets}
use Rattle.sent.specs.Full.{Full}
use Rattle.sent.specs.State.{fresh_of}
use Rattle.sent.specs.Whole.{whole_of, headed}

-- What one equation of the answer and the whole state says of the head, and of the places that were left as it says.
module _ {S P : Type 0} (held : S → List Sample) (of_samples : List Sample → S) (packets : P → List Packet) (of_packets : List Packet → P) (x : S) (y : P)
    (alone : of_samples (held x) ≡ x) (full : Full packets of_packets y) (r : Answer (Unit {0})) (h : Head) (a : Answer (Unit {0}) × SentPackets)
    (e : (r, whole_of h (held x) (packets y)) ≡ a) where
  pub head_is : (r, h) ≡ headed a
  head_is = ap headed e

  pub samples_are : x ≡ of_samples a.1.delays.kept
  samples_are = sym alone ∙ ap (λ (z : Answer (Unit {0}) × SentPackets). of_samples z.1.delays.kept) e

  pub packets_are : y ≡ of_packets a.1.packets
  packets_are = sym full.alone ∙ ap (λ (z : Answer (Unit {0}) × SentPackets). of_packets z.1.packets) e

-- A fresh state: its numbers and its samples are those of the controller's start.
abbrev pub fresh_with : SeqNum → Numbers → Delays → SentPackets
fresh_with initial n d = record { initial = initial.0; count = 0; live = 0; numbers = n; delays = d; packets = replicate 512 no_packet }

pub fresh_is : (initial : SeqNum) (settings : Settings) (n : Numbers) (d : Delays) → n ≡ new_of settings → d ≡ no_delays → fresh_with initial n d ≡ fresh_of initial settings
fresh_is initial settings n d e k = ap₂ (fresh_with initial) e k
