-- Each way round keeps what Invariants.antt beside this says, and at the end it is what the contract says.
use Rattle.std.proofs.Common.{◌≡◌, ℕ, ◌≤◌, ◌+◌, length, sym, ap, ◌∙◌, arith}
use Rattle.std.proofs.Math.Seq.{slice}
use Rattle.outgoing.specs.Lost.{lost_one, lost_count_of}
use Rattle.outgoing.specs.Laws.Lost.{lost_one_small, count_next, count_done}
use Rattle.sent.proofs.lost.lost_between.Goals as goal

pub loop-i-preserved : goal.loop-i-preserved
loop-i-preserved g c =
    let a = c.args in
    let at = c.loop-i in
    let kept = g.P.Packets.packets a.packets.now in
    let few : a.to ≤ length kept = omega (arith, c.requires.full.count) in
    let small = lost_one_small c.packet_at.result in
    let e = c.lost_one-count.ensures in
    record {
      counted = ap (λ (n : ℕ). at.count + n + lost_count_of (slice (at.i + 1) a.to kept)) (e ∙ ap lost_one c.packet_at.ensures.found)
          ∙ count_next kept a.to few at.i c.loop-i-test.true at.count
          ∙ at.invariant.counted;
      few = omega arith;
    }

pub returns-clause-count : goal.returns-clause-count
returns-clause-count g c =
    let a = c.args in
    let at = c.loop-i in
    let kept = g.P.Packets.packets a.packets.now in
    let few : a.to ≤ length kept = omega (arith, c.requires.full.count) in
    let e : at.i ≡ a.to = omega arith in
    sym (count_done kept a.to few at.count) ∙ ap (λ (n : ℕ). at.count + lost_count_of (slice n a.to kept)) (sym e) ∙ at.invariant.counted
