-- What passed the soundness test and the checks is a retransmission up to the last number sent, and else recorded.
use Rattle.std.proofs.Common.{◌≡◌, ℕ, true, sym, ap, ◌∙◌, refl, arith}
use Rattle.common.specs.Answer.{Answer, done}
use Rattle.seq.specs.declared.Offset.{Offset}
use Rattle.outgoing.specs.declared.kept.Packet.{Packet}
use Rattle.outgoing.specs.Answers.{outcome}
use Rattle.outgoing.specs.Laws.Checks.{held}
use Rattle.outgoing.specs.Tracker.{offset_in, clocked_of}
use Rattle.outgoing.specs.Transmit.{transmit_check, resent_of, recorded_of}
use Rattle.sent.specs.declared.state.SentPackets.{SentPackets}
use Rattle.sent.specs.State.{state_sound_of, when_state_sound, tracker_of, written_of}
use Rattle.sent.specs.Whole.{whole_of}
use Rattle.sent.specs.Laws.Transmit.{room_checked, transmit_stopped, transmit_again, transmit_first}
use Rattle.sent.specs.Laws.Whole.{head_is, samples_are, packets_are}
use Rattle.sent.proofs.head.Head.on_transmit.Goals as goal

-- the checks by the offset in the definition's words
check_by : (s : SentPackets) (o o' len clock : ℕ) (a : Answer (Unit {0})) → o ≡ o' → a ≡ when_state_sound s (transmit_check s.numbers s.count s.live o len clock)
    → a ≡ when_state_sound s (transmit_check s.numbers s.count s.live o' len clock)
check_by s o o' len clock a e h = h ∙ ap (λ (k : ℕ). when_state_sound s (transmit_check s.numbers s.count s.live k len clock)) e

-- what they say where the answer is done
passed : (s : SentPackets) (o len clock : ℕ) (a : Answer (Unit {0})) → a ≡ when_state_sound s (transmit_check s.numbers s.count s.live o len clock) → a ≡ done tt
    → (state_sound_of s ≡ true) × (transmit_check s.numbers s.count s.live o len clock ≡ done tt)
passed s o len clock a h d = held (state_sound_of s) (transmit_check s.numbers s.count s.live o len clock) 19 tt (sym h ∙ d)

abbrev sent_as : ℕ → ℕ → ℕ → ℕ → Packet
sent_as tag len clock kind = record { sent_at = clock; tag = tag; len = len; kind = kind; acked = 0; lost = 0; resent = 0 }

pub returns-in-Refused : goal.returns-in-Refused
returns-in-Refused g c =
    let a = c.args in
    let s = whole_of a.self (g.S.Samples.samples a.samples.now) (g.P.Packets.packets a.packets.now) in
    let full = c.may_transmit-check.ensures.full in
    let o = ap (λ (x : Offset). x.0) c.offset_from-offset.ensures in
    let check = check_by s c.offset_from-offset.result.0 (offset_in (tracker_of s) a.number) a.len a.clock (outcome c.may_transmit-check.result) o c.may_transmit-check.ensures.checked in
    let e = transmit_stopped s full.count a.number a.packet_type a.tag a.len a.clock _ (sym check ∙ ap outcome c.in-Refused.is) in
    record {
      answer = c.refused.ensures ∙ head_is g.S.Samples.samples g.S.Samples.of_samples g.P.Packets.packets g.P.Packets.of_packets a.samples.now a.packets.now c.may_transmit-check.ensures.alone full _ a.self _ e;
      samples = samples_are g.S.Samples.samples g.S.Samples.of_samples g.P.Packets.packets g.P.Packets.of_packets a.samples.now a.packets.now c.may_transmit-check.ensures.alone full _ a.self _ e;
      packets = packets_are g.S.Samples.samples g.S.Samples.of_samples g.P.Packets.packets g.P.Packets.of_packets a.samples.now a.packets.now c.may_transmit-check.ensures.alone full _ a.self _ e;
    }

pub returns-then-offset-self : goal.returns-then-offset-self
returns-then-offset-self g c =
    let a = c.args in
    let s = whole_of a.self (g.S.Samples.samples a.samples.now) (g.P.Packets.packets a.packets.now) in
    let full = c.may_transmit-check.ensures.full in
    let o = ap (λ (x : Offset). x.0) c.offset_from-offset.ensures in
    let check = check_by s c.offset_from-offset.result.0 (offset_in (tracker_of s) a.number) a.len a.clock (outcome c.may_transmit-check.result) o c.may_transmit-check.ensures.checked in
    let p = passed s (offset_in (tracker_of s) a.number) a.len a.clock (outcome c.may_transmit-check.result) check (ap outcome c.in_default.is) in
    let e = transmit_again s full.count p.0 a.number a.packet_type a.tag a.len a.clock _ (sym p.1) _ refl (omega (arith, o, c.if-offset-self.true))
    (c.resent.ensures.resent ∙ ap (λ (k : ℕ). written_of s (clocked_of (resent_of (tracker_of s) k) a.clock)) o) in
    record {
      answer = head_is g.S.Samples.samples g.S.Samples.of_samples g.P.Packets.packets g.P.Packets.of_packets a.samples.now c.resent.new.packets c.may_transmit-check.ensures.alone c.resent.ensures.full _ c.resent.result _ e;
      samples = samples_are g.S.Samples.samples g.S.Samples.of_samples g.P.Packets.packets g.P.Packets.of_packets a.samples.now c.resent.new.packets c.may_transmit-check.ensures.alone c.resent.ensures.full _ c.resent.result _ e;
      packets = packets_are g.S.Samples.samples g.S.Samples.of_samples g.P.Packets.packets g.P.Packets.of_packets a.samples.now c.resent.new.packets c.may_transmit-check.ensures.alone c.resent.ensures.full _ c.resent.result _ e;
    }

pub recorded-requires : goal.recorded-requires
recorded-requires g c =
    let a = c.args in
    let s = whole_of a.self (g.S.Samples.samples a.samples.now) (g.P.Packets.packets a.packets.now) in
    let p = passed s c.offset_from-offset.result.0 a.len a.clock (outcome c.may_transmit-check.result) c.may_transmit-check.ensures.checked (ap outcome c.in_default.is) in
    record {
      sound = p.0;
      room = room_checked a.self.numbers a.self.count a.self.live c.offset_from-offset.result.0 a.len a.clock p.1 c.if-offset-self.false;
      full = c.may_transmit-check.ensures.full;
    }

pub returns : goal.returns
returns g c =
    let a = c.args in
    let s = whole_of a.self (g.S.Samples.samples a.samples.now) (g.P.Packets.packets a.packets.now) in
    let full = c.may_transmit-check.ensures.full in
    let o = ap (λ (x : Offset). x.0) c.offset_from-offset.ensures in
    let check = check_by s c.offset_from-offset.result.0 (offset_in (tracker_of s) a.number) a.len a.clock (outcome c.may_transmit-check.result) o c.may_transmit-check.ensures.checked in
    let p = passed s (offset_in (tracker_of s) a.number) a.len a.clock (outcome c.may_transmit-check.result) check (ap outcome c.in_default.is) in
    let e = transmit_first s full.count p.0 a.number a.packet_type a.tag a.len a.clock _ (sym p.1) _ refl (omega (arith, o, c.if-offset-self.false))
    (c.recorded.ensures.recorded ∙ ap (λ (k : ℕ). written_of s (clocked_of (recorded_of (tracker_of s) (sent_as a.tag a.len a.clock k)) a.clock)) c.number.ensures) in
    record {
      answer = head_is g.S.Samples.samples g.S.Samples.of_samples g.P.Packets.packets g.P.Packets.of_packets a.samples.now c.recorded.new.packets c.may_transmit-check.ensures.alone c.recorded.ensures.full _ c.recorded.result _ e;
      samples = samples_are g.S.Samples.samples g.S.Samples.of_samples g.P.Packets.packets g.P.Packets.of_packets a.samples.now c.recorded.new.packets c.may_transmit-check.ensures.alone c.recorded.ensures.full _ c.recorded.result _ e;
      packets = packets_are g.S.Samples.samples g.S.Samples.of_samples g.P.Packets.packets g.P.Packets.of_packets a.samples.now c.recorded.new.packets c.may_transmit-check.ensures.alone c.recorded.ensures.full _ c.recorded.result _ e;
    }
