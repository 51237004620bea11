-- A turn is `paste_more`; at the end all of `src` is there, and nothing stands behind it.
use Rattle.std.proofs.Common.{◌≡◌, ◌+◌, ◌≤◌, ℕ, List, ◌++◌, length, sym, ap, ◌∙◌, zero-add, arith, append-nil, drop_of_length-le}
use Rattle.std.proofs.lemmas.List.Edits.{paste_more, paste_all}
use Rattle.recv.proofs.bytes.copy.Goals as goal

pub loop-i-preserved : goal.loop-i-preserved
loop-i-preserved c =
    let i = c.loop-i.i in
    let more = paste_more c.args.dst.now 0 c.args.src.now i 0 (omega arith) (omega arith) in
    cc (zero-add i)

pub returns : goal.returns
returns c =
    let src = c.args.src.now in
    let dst = c.args.dst.now in
    let i = c.loop-i.i in
    let none : length dst ≤ 0 + i = omega arith in
    c.loop-i.invariant
    ∙ paste_all dst 0 src i (omega arith)
    ∙ ap (λ (l : List ℕ). src ++ l) (drop_of_length-le dst {i = 0 + i} none)
    ∙ append-nil src
