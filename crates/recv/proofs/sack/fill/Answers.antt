-- A turn is `paste_more`; at the end the room is filled.
use Rattle.std.proofs.Common.{◌≡◌, ◌+◌, ◌≤◌, ℕ, List, ◌++◌, length, get_or, sym, ap, ◌∙◌, zero-add, arith, append-nil, drop_of_length-le}
use Rattle.std.proofs.lemmas.List.Edits.{paste_more, paste_all}
use Rattle.recv.specs.Table.{sack_of}
use Rattle.recv.specs.Laws.Sack.{length-sack, sack_at}
use Rattle.recv.proofs.sack.fill.Goals as goal

pub loop-k-preserved : goal.loop-k-preserved
loop-k-preserved c =
    let t = c.args.table.now in
    let k = c.loop-k.k in
    let size = length-sack t in
    let byte : c.byte.result ≡ get_or (sack_of t) k 0 = c.byte.ensures ∙ sym (sack_at t k (omega arith)) in
    let more = paste_more c.args.room.now 0 (sack_of t) k 0 (omega arith) (omega arith) in
    cc (zero-add k)

pub returns : goal.returns
returns c =
    let sack = sack_of c.args.table.now in
    let room = c.args.room.now in
    let k = c.loop-k.k in
    let size = length-sack c.args.table.now in
    let none : length room ≤ 0 + k = omega arith in
    c.loop-k.invariant
    ∙ paste_all room 0 sack k (omega arith)
    ∙ ap (λ (l : List ℕ). sack ++ l) (drop_of_length-le room {i = 0 + k} none)
    ∙ append-nil sack
