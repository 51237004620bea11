-- The two counts say which part of the list remains, that part is moved down, and the sample is put behind what stays of it.
use Rattle.std.proofs.Common.{ℕ, Bool, cond, suc, ◌+◌, List, length, set, le-leb, sym, ap, ◌∙◌, add-one, arith}
use Rattle.std.proofs.lemmas.List.{length-set}
use Rattle.controller.specs.declared.delays.Sample.{Sample}
use Rattle.controller.specs.Delays.{delays_of, moved_down_of, take_of, list_of, written_of}
use Rattle.controller.specs.Laws.Delays.{moved_full, taken_is}
use Rattle.controller.proofs.samples.take.Goals as goal

pub returns-clause-taken : goal.returns-clause-taken
returns-clause-taken g c =
    let a = c.args in
    let room = c.room-stay in
    let remaining = c.remaining_count-left in
    let expired = c.expired_count-first in
    let kept = g.S.Samples.samples a.samples.now in
    let d = delays_of kept a.count in
    let moved = (moved_down_of d expired.result remaining.result).kept in
    let put = c.put.ensures.put ∙ ap (λ (l : List Sample). set l room.result a.sample) c.move_down.ensures in
    let full = moved_full kept expired.result remaining.result (omega arith) (sym (length-set moved room.result a.sample) ∙ ap length (sym put) ∙ c.put.ensures.full) in
    ap (λ (l : List Sample). delays_of l (room.result + 1)) put
    ∙ ap (λ (n : ℕ). delays_of (set moved room.result a.sample) n) (add-one room.result)
    ∙ ap (λ (k : ℕ). delays_of (set moved k a.sample) (suc k)) room.ensures
    ∙ taken_is d a.sample.delay a.sample.at a.window expired.result remaining.result full (omega arith) expired.ensures.1 remaining.ensures.1 expired.ensures.0
    remaining.ensures.0
    ∙ sym (ap (λ (t : Bool). cond t (written_of d (take_of a.window a.sample.delay a.sample.at (list_of d))) d) (le-leb a.count 1024 (omega arith)))
