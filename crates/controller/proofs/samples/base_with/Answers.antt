-- The two counts say which part of the list remains, and its first, or the new delay, is the base.
use Rattle.std.proofs.Common.{ap, ◌∙◌, arith}
use Rattle.controller.specs.declared.delays.Sample.{Sample}
use Rattle.controller.specs.Delays.{delays_of}
use Rattle.controller.specs.Laws.Samples.{base_alone, base_of-first}
use Rattle.controller.proofs.samples.base_with.Goals as goal

pub returns-then-left-eq0 : goal.returns-then-left-eq0
returns-then-left-eq0 g c =
    let a = c.args in
    let expired = c.expired_count-first in
    let remaining = c.remaining_count-left in
    base_alone (delays_of (g.S.Samples.samples a.samples.now) a.count) a.sample.delay a.sample.at a.window expired.result remaining.result (omega arith)
    expired.ensures.0 remaining.ensures.0 c.if-left-eq0.true

pub returns : goal.returns
returns g c =
    let a = c.args in
    let expired = c.expired_count-first in
    let remaining = c.remaining_count-left in
    ap (λ (s : Sample). s.delay) c.sample-2.ensures.found
    ∙ base_of-first (delays_of (g.S.Samples.samples a.samples.now) a.count) a.sample.delay a.sample.at a.window expired.result remaining.result (omega arith)
    expired.ensures.0 remaining.ensures.0 c.sample-2.ensures.full expired.ensures.1 remaining.ensures.1 (omega (arith, c.if-left-eq0.false))
