-- Each turn keeps what Invariants.antt beside this says, and at the end it is what the contract says.
use Rattle.std.proofs.Common.{◌+◌, ℕ, List, ◌∙◌, arith, ap, sym, set, get_or}
use Rattle.common.specs.Laws.Put.{put_more, put-none}
use Rattle.packet.proofs.number.put_all.Goals as goal

pub loop-i-init : goal.loop-i-init
loop-i-init c = sym (put-none c.args.room.now c.args.at)

pub loop-i-preserved : goal.loop-i-preserved
loop-i-preserved c =
    let l = c.loop-i in
    let a = c.args in
    ap (λ (t : List ℕ). set t (a.at + l.i) (get_or a.src.now l.i 0)) l.invariant ∙ put_more a.room.now a.src.now a.at l.i 0 c.requires (omega arith)
