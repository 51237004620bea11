-- Only the numbers change, and those of a sound state by the rule.
use Rattle.std.proofs.Common.{sym, ap, ◌∙◌, arith}
use Rattle.common.specs.Answer.{done}
use Rattle.congestion.specs.declared.numbers.Numbers.{Numbers}
use Rattle.congestion.specs.Numbers.{timed_out_of}
use Rattle.outgoing.specs.Sound.{timeout_of}
use Rattle.sent.specs.declared.state.SentPackets.{SentPackets}
use Rattle.sent.specs.State.{answered_of, tracker_of, timeout_answer}
use Rattle.sent.specs.Whole.{whole_of}
use Rattle.sent.specs.Laws.Kept.{written_kept}
use Rattle.sent.specs.Laws.Sound.{unsound_refused, sound_answered, state_facts}
use Rattle.sent.specs.Laws.Transmit.{state_with}
use Rattle.sent.specs.Laws.Whole.{head_is, samples_are, packets_are}
use Rattle.sent.proofs.head.Head.on_timeout.Goals as goal

pub returns-then-not-sound : goal.returns-then-not-sound
unfolding timeout_answer
returns-then-not-sound g c =
    let a = c.args in
    let s = whole_of a.self (g.S.Samples.samples a.samples.now) (g.P.Packets.packets a.packets.now) in
    let e = sym (ap (answered_of s) (unsound_refused s (done (timeout_of (tracker_of s))) (sym c.sound.ensures.sound ∙ c.if-not-sound.true))) in
    record {
      answer = c.refused.ensures ∙ head_is g.S.Samples.samples g.S.Samples.of_samples g.P.Packets.packets g.P.Packets.of_packets a.samples.now a.packets.now c.sound.ensures.alone c.sound.ensures.full _ a.self _ e;
      samples = samples_are g.S.Samples.samples g.S.Samples.of_samples g.P.Packets.packets g.P.Packets.of_packets a.samples.now a.packets.now c.sound.ensures.alone c.sound.ensures.full _ a.self _ e;
      packets = packets_are g.S.Samples.samples g.S.Samples.of_samples g.P.Packets.packets g.P.Packets.of_packets a.samples.now a.packets.now c.sound.ensures.alone c.sound.ensures.full _ a.self _ e;
    }

pub returns : goal.returns
unfolding timeout_answer
returns g c =
    let a = c.args in
    let h = a.self in
    let s = whole_of h (g.S.Samples.samples a.samples.now) (g.P.Packets.packets a.packets.now) in
    let sound = sym c.sound.ensures.sound ∙ c.if-not-sound.false in
    let facts = state_facts s sound in
    let moved = c.timed_out-next.ensures ∙ simp facts.1.numbers_sound in
    let e = ap (λ (n : Numbers). (done tt, state_with s s.count s.live n s.packets)) moved
    ∙ ap (λ (t : SentPackets). (done tt, t)) (sym (written_kept s (record { 0 = s.initial }) s.count (timed_out_of s.numbers) s.delays (omega (arith, facts.0, c.sound.ensures.full.count))))
    ∙ sym (ap (answered_of s) (sound_answered s (done (timeout_of (tracker_of s))) sound)) in
    record {
      answer = head_is g.S.Samples.samples g.S.Samples.of_samples g.P.Packets.packets g.P.Packets.of_packets a.samples.now a.packets.now c.sound.ensures.alone c.sound.ensures.full _ _ _ e;
      samples = samples_are g.S.Samples.samples g.S.Samples.of_samples g.P.Packets.packets g.P.Packets.of_packets a.samples.now a.packets.now c.sound.ensures.alone c.sound.ensures.full _ _ _ e;
      packets = packets_are g.S.Samples.samples g.S.Samples.of_samples g.P.Packets.packets g.P.Packets.of_packets a.samples.now a.packets.now c.sound.ensures.alone c.sound.ensures.full _ _ _ e;
    }
