-- A step that speaks of no kept packet, or of one that is acknowledged, changes nothing.
use Rattle.std.proofs.Common.{◌≡◌, true, false, ℕ, ◌+◌, ◌-◌, List, sym, ap, ◌∙◌, arith}
use Rattle.outgoing.specs.declared.ack.Ack.{Ack}
use Rattle.outgoing.specs.declared.ack.Heard.{Heard}
use Rattle.outgoing.specs.declared.ack.Run.{Run}
use Rattle.outgoing.specs.Hear.{all_heard_of, heard_at, steps_from, step_of}
use Rattle.outgoing.specs.Laws.Hear.{unkept_same, two_runs, next_step, no_step}
use Rattle.sent.specs.Whole.{heard_in}
use Rattle.sent.specs.Laws.Heard.{heard_again, heard_new}
use Rattle.sent.proofs.ack.hear_runs.Goals as goal

-- what step j of the two runs speaks of
abbrev spoken : Ack → List ℕ → ℕ → Run → Run → ℕ → ℕ
spoken a mask bits r t j = heard_at a mask bits (step_of r t j)

zero_less : {n : ℕ} → n - 0 ≡ n
zero_less = omega arith

pub loop-j-init : goal.loop-j-init
loop-j-init g c =
    let a = c.args in
    let h : Heard = heard_in (record { numbers = a.numbers; news = false }) (g.P.Packets.packets a.packets.now) in
    record {
      goes_on = ap (λ (n : ℕ). all_heard_of a.ack h (steps_from (spoken a.ack a.sack.now a.bits a.run a.then) 0 n)) zero_less
          ∙ ap (all_heard_of a.ack h) (two_runs (heard_at a.ack a.sack.now a.bits) a.run a.then);
      full = c.requires.full;
    }

pub loop-j-preserved-then-not-keeps : goal.loop-j-preserved-then-not-keeps
loop-j-preserved-then-not-keeps g c =
    let a = c.args in
    let at = c.loop-j in
    let h = heard_in at.heard (g.P.Packets.packets at.packets) in
    let o = c.heard-offset.result in
    record {
      goes_on = sym (next_step a.ack (spoken a.ack a.sack.now a.bits a.run a.then) h h at.j (a.run.count + a.then.count) o (omega arith) c.heard-offset.ensures
          (unkept_same a.ack h o (sym c.keeps.ensures ∙ c.if-not-keeps.true)))
          ∙ at.invariant.goes_on;
      full = at.invariant.full;
    }

pub loop-j-preserved-then-not-unacked : goal.loop-j-preserved-then-not-unacked
loop-j-preserved-then-not-unacked g c =
    let a = c.args in
    let at = c.loop-j in
    let h = heard_in at.heard (g.P.Packets.packets at.packets) in
    let o = c.heard-offset.result in
    let p = c.packet_at-p in
    record {
      goes_on = sym (next_step a.ack (spoken a.ack a.sack.now a.bits a.run a.then) h h at.j (a.run.count + a.then.count) o (omega arith) c.heard-offset.ensures
          (heard_again a.ack h o p.result p.ensures.found (sym c.keeps.ensures ∙ c.if-not-keeps.false) (sym c.unacked.ensures ∙ c.if-not-unacked.true)))
          ∙ at.invariant.goes_on;
      full = at.invariant.full;
    }

pub loop-j-preserved : goal.loop-j-preserved
loop-j-preserved g c =
    let a = c.args in
    let at = c.loop-j in
    let h = heard_in at.heard (g.P.Packets.packets at.packets) in
    let o = c.heard-offset.result in
    let p = c.packet_at-p in
    let put = c.put_packet in
    let l = g.P.Packets.packets put.new.self in
    let next : Heard = record { packets = l; numbers = c.credited-heard.result; news = true } in
    record {
      goes_on = sym (next_step a.ack (spoken a.ack a.sack.now a.bits a.run a.then) h next at.j (a.run.count + a.then.count) o (omega arith) c.heard-offset.ensures
          (heard_new a.ack h o p.result c.acked_now.result l c.credited-heard.result p.ensures.found (sym c.keeps.ensures ∙ c.if-not-keeps.false)
          (sym c.unacked.ensures ∙ c.if-not-unacked.false) c.acked_now.ensures put.ensures.put c.credited-heard.ensures))
          ∙ at.invariant.goes_on;
      full = put.ensures.full;
    }

pub returns-clause-heard : goal.returns-clause-heard
returns-clause-heard g c =
    let a = c.args in
    let at = c.loop-j in
    let f = spoken a.ack a.sack.now a.bits a.run a.then in
    let h = heard_in at.heard (g.P.Packets.packets at.packets) in
    let none : a.run.count + a.then.count - at.j ≡ 0 = omega arith in
    sym (no_step a.ack f h at.j)
    ∙ sym (ap (λ (n : ℕ). all_heard_of a.ack h (steps_from f at.j n)) none)
    ∙ at.invariant.goes_on
