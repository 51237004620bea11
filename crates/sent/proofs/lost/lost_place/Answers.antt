-- Each way round keeps what Invariants.antt beside this says, and at the end it is what the contract says.
use Rattle.std.proofs.Common.{◌≡◌, ℕ, ◌≤◌, ◌+◌, length, sym, ap, ◌∙◌, arith}
use Rattle.std.proofs.Math.Seq.{slice}
use Rattle.outgoing.specs.declared.kept.Packet.{Packet}
use Rattle.outgoing.specs.Lost.{nth_lost}
use Rattle.outgoing.specs.Laws.Lost.{nth_skip, nth_here, nth_next, nth_done}
use Rattle.sent.proofs.lost.lost_place.Goals as goal

pub loop-i-preserved-then-p-eq0 : goal.loop-i-preserved-then-p-eq0
loop-i-preserved-then-p-eq0 g c =
    let a = c.args in
    let at = c.loop-i in
    let kept = g.P.Packets.packets a.packets.now in
    let few : a.to ≤ length kept = omega (arith, c.requires.full.count) in
    let mark = ap (λ (p : Packet). p.lost) c.packet_at-p.ensures.found in
    at.invariant ∙ nth_skip kept a.to few at.i c.loop-i-test.true at.left (sym mark ∙ c.if-p-eq0.true)

pub returns-then-left-eq0 : goal.returns-then-left-eq0
returns-then-left-eq0 g c =
    let a = c.args in
    let at = c.loop-i in
    let kept = g.P.Packets.packets a.packets.now in
    let few : a.to ≤ length kept = omega (arith, c.requires.full.count) in
    let mark = ap (λ (p : Packet). p.lost) c.packet_at-p.ensures.found in
    sym (at.invariant ∙ nth_here kept a.to few at.i c.loop-i-test.true at.left (λ e. c.if-p-eq0.false (mark ∙ e)) c.if-left-eq0.true)

pub loop-i-preserved : goal.loop-i-preserved
loop-i-preserved g c =
    let a = c.args in
    let at = c.loop-i in
    let kept = g.P.Packets.packets a.packets.now in
    let few : a.to ≤ length kept = omega (arith, c.requires.full.count) in
    let mark = ap (λ (p : Packet). p.lost) c.packet_at-p.ensures.found in
    at.invariant ∙ nth_next kept a.to few at.i c.loop-i-test.true at.left (λ e. c.if-p-eq0.false (mark ∙ e)) c.if-left-eq0.false

pub returns : goal.returns
returns g c =
    let a = c.args in
    let at = c.loop-i in
    let kept = g.P.Packets.packets a.packets.now in
    let few : a.to ≤ length kept = omega (arith, c.requires.full.count) in
    let e : at.i ≡ a.to = omega arith in
    sym (at.invariant ∙ ap (λ (n : ℕ). n + nth_lost (slice n a.to kept) at.left) e ∙ nth_done kept a.to few at.left)
