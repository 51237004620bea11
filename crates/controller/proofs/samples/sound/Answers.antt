-- What is read stands before what is behind it, and passes the test or fails it.
use Rattle.std.proofs.Common.{◌-◌, drop, sym, ap, arith}
use Rattle.std.proofs.Math.Bool.{and-false}
use Rattle.controller.specs.Delays.{delays_of, list_of, delay_below, time_by}
use Rattle.controller.specs.Laws.Delays.{list_next, unsound_by_delay, unsound_by_time, sound_with}
use Rattle.controller.proofs.samples.sound.Goals as goal

pub returns-then-next-s-clause-sound : goal.returns-then-next-s-clause-sound
returns-then-next-s-clause-sound g c =
    let d = delays_of (g.S.Samples.samples c.args.samples.now) c.args.count in
    let l = list_of d in
    let n = list_next d c.loop-i.i c.sample-s.result c.sample-s.ensures.full (omega arith) (omega arith) (omega arith) c.sample-s.ensures.found in
    let h = rw c.loop-i.invariant.1 at c.if-next-s.true in
    sym (simp (unsound_by_delay c.args.last l (drop c.loop-i.i l) _ (c.loop-i.i - 1) n (omega arith), and-false))

pub returns-then-next-s-2-clause-sound : goal.returns-then-next-s-2-clause-sound
returns-then-next-s-2-clause-sound g c =
    let d = delays_of (g.S.Samples.samples c.args.samples.now) c.args.count in
    let l = list_of d in
    let n = list_next d c.loop-i.i c.sample-s.result c.sample-s.ensures.full (omega arith) (omega arith) (omega arith) c.sample-s.ensures.found in
    sym (simp (unsound_by_time c.args.last l (drop c.loop-i.i l) _ (c.loop-i.i - 1) n (rw c.loop-i.invariant.2 at c.if-next-s-2.true), and-false))

pub loop-i-preserved : goal.loop-i-preserved
loop-i-preserved g c =
    let d = delays_of (g.S.Samples.samples c.args.samples.now) c.args.count in
    let l = list_of d in
    let n = list_next d c.loop-i.i c.sample-s.result c.sample-s.ensures.full (omega arith) (omega arith) (omega arith) c.sample-s.ensures.found in (
      sound_with c.args.last l (drop c.loop-i.i l) _ (c.loop-i.i - 1) n (rw c.loop-i.invariant.1 at c.if-next-s.false) (rw c.loop-i.invariant.2 at c.if-next-s-2.false)
          c.loop-i.invariant.0,
      sym (ap delay_below n),
      sym (ap (time_by c.args.last) n),
      omega arith,
    )
