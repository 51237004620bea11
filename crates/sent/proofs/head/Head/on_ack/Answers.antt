-- 19 first, then the checks in their order; a passed one is what `acknowledged` makes of it.
use Rattle.std.proofs.Common.{ℕ, length, sym, ap, ◌∙◌}
use Rattle.seq.specs.declared.Offset.{Offset}
use Rattle.outgoing.specs.Ack.{ack_check, ack_of}
use Rattle.outgoing.specs.Answers.{outcome}
use Rattle.outgoing.specs.Tracker.{offset_in}
use Rattle.sent.specs.State.{tracker_of, ack_state_of, answered_as, ack_answer}
use Rattle.sent.specs.Whole.{whole_of}
use Rattle.sent.specs.Laws.AckState.{ack_checked, ack_refused, ack_done}
use Rattle.sent.specs.Laws.Sound.{unsound_refused}
use Rattle.sent.specs.Laws.Whole.{head_is, samples_are, packets_are}
use Rattle.sent.proofs.head.Head.on_ack.Goals as goal

pub returns-then-not-sound : goal.returns-then-not-sound
unfolding ack_answer
returns-then-not-sound g c =
    let a = c.args in
    let samples = g.S.Samples.samples a.samples.now in
    let s = whole_of a.self samples (g.P.Packets.packets a.packets.now) in
    let full = c.sound.ensures.full in
    let unsound = sym c.sound.ensures.sound ∙ c.if-not-sound.true in
    let e = sym (ap (answered_as s (ack_state_of s (offset_in (tracker_of s) a.number) a.sack.now a.delay a.clock)) (unsound_refused s (ack_of (tracker_of s) a.number a.sack.now a.delay a.clock) unsound)) in
    record {
      answer = c.refused.ensures ∙ head_is g.S.Samples.samples g.S.Samples.of_samples g.P.Packets.packets g.P.Packets.of_packets a.samples.now a.packets.now c.sound.ensures.alone full _ a.self _ e;
      samples = samples_are g.S.Samples.samples g.S.Samples.of_samples g.P.Packets.packets g.P.Packets.of_packets a.samples.now a.packets.now c.sound.ensures.alone full _ a.self _ e;
      packets = packets_are g.S.Samples.samples g.S.Samples.of_samples g.P.Packets.packets g.P.Packets.of_packets a.samples.now a.packets.now c.sound.ensures.alone full _ a.self _ e;
    }

pub returns-in-Refused : goal.returns-in-Refused
returns-in-Refused g c =
    let a = c.args in
    let samples = g.S.Samples.samples a.samples.now in
    let s = whole_of a.self samples (g.P.Packets.packets a.packets.now) in
    let full = c.sound.ensures.full in
    let sound = sym c.sound.ensures.sound ∙ c.if-not-sound.false in
    let o = ap (λ (x : Offset). x.0) c.offset_from-offset.ensures in
    let check = c.ack_check-check.ensures ∙ ap (λ (k : ℕ). ack_check a.self.numbers.last a.self.count k (length a.sack.now) a.delay a.clock) o in
    let e = ack_refused s sound a.number a.sack.now a.delay a.clock (outcome c.ack_check-check.result) check _ (ap outcome c.in-Refused.is) in
    record {
      answer = c.refused-in-Refused.ensures ∙ head_is g.S.Samples.samples g.S.Samples.of_samples g.P.Packets.packets g.P.Packets.of_packets a.samples.now a.packets.now c.sound.ensures.alone full _ a.self _ e;
      samples = samples_are g.S.Samples.samples g.S.Samples.of_samples g.P.Packets.packets g.P.Packets.of_packets a.samples.now a.packets.now c.sound.ensures.alone full _ a.self _ e;
      packets = packets_are g.S.Samples.samples g.S.Samples.of_samples g.P.Packets.packets g.P.Packets.of_packets a.samples.now a.packets.now c.sound.ensures.alone full _ a.self _ e;
    }

pub acknowledged-requires : goal.acknowledged-requires
acknowledged-requires g c =
    let a = c.args in
    let sound = sym c.sound.ensures.sound ∙ c.if-not-sound.false in
    let q = ack_checked a.self.numbers.last a.self.count c.offset_from-offset.result.0 (length a.sack.now) a.delay a.clock (sym c.ack_check-check.ensures ∙ ap outcome c.in_default.is) in
    record { sound = sound; sent = (q.0, q.1); sack = q.2; alone = c.sound.ensures.alone; full = c.sound.ensures.full }

pub returns : goal.returns
returns g c =
    let a = c.args in
    let s = whole_of a.self (g.S.Samples.samples a.samples.now) (g.P.Packets.packets a.packets.now) in
    let sound = sym c.sound.ensures.sound ∙ c.if-not-sound.false in
    let o = ap (λ (x : Offset). x.0) c.offset_from-offset.ensures in
    let check = c.ack_check-check.ensures ∙ ap (λ (k : ℕ). ack_check a.self.numbers.last a.self.count k (length a.sack.now) a.delay a.clock) o in
    let acked = c.acknowledged in
    let e = ack_done s sound a.number a.sack.now a.delay a.clock (outcome c.ack_check-check.result) check _ (ap outcome c.in_default.is)
    (acked.ensures.acked ∙ ap (λ (k : ℕ). ack_state_of s k a.sack.now a.delay a.clock) o) in
    record {
      answer = head_is g.S.Samples.samples g.S.Samples.of_samples g.P.Packets.packets g.P.Packets.of_packets acked.new.samples acked.new.packets acked.ensures.alone acked.ensures.full _ acked.result _ e;
      samples = samples_are g.S.Samples.samples g.S.Samples.of_samples g.P.Packets.packets g.P.Packets.of_packets acked.new.samples acked.new.packets acked.ensures.alone acked.ensures.full _ acked.result _ e;
      packets = packets_are g.S.Samples.samples g.S.Samples.of_samples g.P.Packets.packets g.P.Packets.of_packets acked.new.samples acked.new.packets acked.ensures.alone acked.ensures.full _ acked.result _ e;
    }
