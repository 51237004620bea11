-- One more event is peeled off what is still to be found.
use Rattle.std.proofs.Common.{ℕ, ◌+◌, ◌*◌, ◌-◌, ◌≡◌, Bool, true, ◌&&◌, drop, arith, sym, ap, ap₂, ◌∙◌}
use Rattle.std.specs.Prelude.{cond, Some, None}
use Rattle.session.specs.Format.{events_of, all_known, sack_total}
use Rattle.session.specs.Laws.Event.{known_next, known_done, total_next, total_done}
use Rattle.session.proofs.check.walked.Goals as goal

pub returns-then-not-is_known : goal.returns-then-not-is_known
returns-then-not-is_known c =
    let l = c.loop-i in
    let a = c.args in
    let all = events_of a.count (drop 72 a.file.now) in
    let rest = all_known (events_of (a.count - (l.i + 1)) (drop (72 + 24 * (l.i + 1)) a.file.now)) in
    let next = known_next true _ a.count l.i a.file.now c.read_event-event.result (omega arith) c.read_event-event.ensures c.is_known.ensures in
    sym (ap (λ (b : Bool). cond b (Some (sack_total all)) None) (l.invariant.2 ∙ (next ∙ ap (λ (b : Bool). b && rest) c.if-not-is_known.true)))

pub loop-i-preserved : goal.loop-i-preserved
loop-i-preserved c =
    let l = c.loop-i in
    let a = c.args in
    let e = c.read_event-event in
    let rest = all_known (events_of (a.count - (l.i + 1)) (drop (72 + 24 * (l.i + 1)) a.file.now)) in
    let next = known_next true _ a.count l.i a.file.now e.result (omega arith) e.ensures c.is_known.ensures in (
      omega arith,
      omega arith,
      l.invariant.2 ∙ (next ∙ ap (λ (b : Bool). b && rest) c.if-not-is_known.false),
      l.invariant.3 ∙ total_next l.total _ a.count l.i a.file.now e.result (omega arith) e.ensures (c.from-total.ensures ∙ c.sack_size.ensures),
    )

pub returns : goal.returns
returns c =
    let l = c.loop-i in
    let a = c.args in
    let all : a.count ≡ l.i = omega arith in
    let rest = drop (72 + 24 * l.i) a.file.now in
    sym (ap₂ (λ (b : Bool) (n : ℕ). cond b (Some n) None) (l.invariant.2 ∙ known_done true a.count l.i rest all) (l.invariant.3 ∙ total_done l.total a.count l.i rest all))
