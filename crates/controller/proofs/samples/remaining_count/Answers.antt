-- What is read stands at the end of what may remain, and is dropped or stays.
use Rattle.std.proofs.Common.{◌≡◌, ℕ, ◌+◌, ◌-◌, Bool, cond, take, drop, ap, ◌∙◌, arith, le-leb}
use Rattle.std.proofs.lemmas.Bool.{lt-leb}
use Rattle.controller.specs.Delays.{delays_of, list_of, drop_back, not_smaller_of}
use Rattle.controller.specs.Laws.Delays.{back_next}
use Rattle.controller.proofs.samples.remaining_count.Goals as goal

pub returns-then-sample-delay : goal.returns-then-sample-delay
returns-then-sample-delay g c =
    let d = delays_of (g.S.Samples.samples c.args.samples.now) c.args.count in
    let i = c.loop-i.i in
    let first = c.args.first in
    let l = drop first (list_of d) in
    let n = back_next (not_smaller_of c.args.delay) d first i c.sample.result c.sample.ensures.full (omega arith) (omega arith) (omega arith) c.sample.ensures.found in
    let e : i - first ≡ i - 1 + 1 - first = omega arith in (
      c.loop-i.invariant.0
          ∙ n
          ∙ ap (λ (t : Bool). cond t (drop_back (not_smaller_of c.args.delay) (take (i - 1 - first) l)) (take (i - first) l)) (lt-leb _ _ c.if-sample-delay.true)
          ∙ ap (λ (k : ℕ). take k l) e,
      omega arith,
    )

pub loop-i-preserved : goal.loop-i-preserved
loop-i-preserved g c =
    let d = delays_of (g.S.Samples.samples c.args.samples.now) c.args.count in
    let i = c.loop-i.i in
    let first = c.args.first in
    let l = drop first (list_of d) in
    let n = back_next (not_smaller_of c.args.delay) d first i c.sample.result c.sample.ensures.full (omega arith) (omega arith) (omega arith) c.sample.ensures.found in (
      c.loop-i.invariant.0
          ∙ n
          ∙ ap (λ (t : Bool). cond t (drop_back (not_smaller_of c.args.delay) (take (i - 1 - first) l)) (take (i - first) l)) (le-leb _ _ c.if-sample-delay.false),
      omega arith,
      omega arith,
    )
