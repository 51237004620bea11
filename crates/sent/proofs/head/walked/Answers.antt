-- One more is looked at, and `later` of those behind it are acknowledged.
use Rattle.std.proofs.Common.{◌≡◌, ◌-◌, ◌∷◌, sym, ap, ◌∙◌, arith, take, drop}
use Rattle.outgoing.specs.declared.kept.Packet.{Packet}
use Rattle.outgoing.specs.Loss.{acked_count_of}
use Rattle.outgoing.specs.Sound.{in_flight_of, packets_sound_of}
use Rattle.sent.specs.Laws.Kept.{kept_behind, kept_end, acked_one_small}
use Rattle.sent.proofs.head.walked.Goals as goal

pub loop-i-init : goal.loop-i-init
unfolding packets_sound_of in_flight_of acked_count_of
loop-i-init g c =
    let a = c.args in
    let e = kept_end (g.P.Packets.packets a.packets.now) a.live (omega (arith, c.requires.full.count)) in
    record {
      fine_is = sym (ap (packets_sound_of a.last) e);
      flying_is = sym (ap in_flight_of e);
      later_is = sym (ap acked_count_of e);
      flying_few = omega arith;
      later_few = omega arith;
    }

pub loop-i-preserved : goal.loop-i-preserved
unfolding packets_sound_of in_flight_of acked_count_of
loop-i-preserved g c =
    let a = c.args in
    let at = c.loop-i in
    let read = c.packet_at-p in
    let kept = g.P.Packets.packets a.packets.now in
    let rest = drop at.i (take a.live kept) in
    let e : drop (at.i - 1) (take a.live kept) ≡ read.result ∷ rest =
    kept_behind kept a.live at.i (omega (arith, c.requires.full.count)) (omega arith) (omega arith) ∙ ap (λ (p : Packet). p ∷ rest) (sym read.ensures.found) in
    let small = acked_one_small read.result in
    record {
      fine_is = simp (at.invariant.fine_is, c.sound-fine.ensures, at.invariant.later_is, e);
      flying_is = simp (at.invariant.flying_is, c.flying.ensures, e);
      later_is = simp (at.invariant.later_is, c.acked_one-later.ensures, e);
      flying_few = omega arith;
      later_few = omega arith;
    }
