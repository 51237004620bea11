-- The oldest bytes are copied out, and what stays, ready or waiting, moves down as one run. With none to take nothing is touched.
use Rattle.std.proofs.Common.{◌≡◌, ℕ, ◌+◌, ◌-◌, List, ◌++◌, take, drop, sym, ap, ◌∙◌, zero-add, arith}
use Rattle.std.proofs.Math.Seq.{paste}
use Rattle.recv.specs.Lent.{whole}
use Rattle.recv.specs.State.{table_of}
use Rattle.recv.specs.Table.{bytes_in}
use Rattle.recv.specs.Laws.Reading.{taken_state, taken_room, taken_out, none_state, none_room, none_out}
use Rattle.recv.proofs.Counts.take.Goals as goal

pub returns-then-n-eq0 : goal.returns-then-n-eq0
returns-then-n-eq0 c =
    let a = c.args in
    let s = whole a.self a.waiting.now in
    let known = c.requires.0 in (
      none_state s a.buf.now a.out.now a.n known c.if-n-eq0.true,
      none_room s a.buf.now a.out.now a.n known c.if-n-eq0.true,
      none_out s a.buf.now a.out.now a.n known c.if-n-eq0.true,
    )

pub returns : goal.returns
returns c =
    let a = c.args in
    let s = whole a.self a.waiting.now in
    let known = c.requires.0 in
    let left : a.n + (s.ready - a.n) + a.held - a.n ≡ s.ready - a.n + bytes_in (table_of s) = omega (arith, c.requires.1.is) in (
      sym (taken_state s a.buf.now a.out.now a.n known),
      c.copy_within.ensures.after ∙ ap (λ (m : ℕ). paste a.buf.now 0 (drop a.n a.buf.now) m) left ∙ sym (taken_room s a.buf.now a.out.now a.n known),
      ap (λ (l : List ℕ). l ++ drop a.n a.out.now) c.copy.ensures
          ∙ ap (λ (m : ℕ). take a.n a.buf.now ++ drop m a.out.now) (sym (zero-add a.n))
          ∙ sym (taken_out s a.buf.now a.out.now a.n known),
    )
