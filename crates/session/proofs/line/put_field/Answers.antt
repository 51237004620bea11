-- One character right behind the digits, of which there are at most 20.
use Rattle.std.proofs.Common.{[], ◌∷◌, arith, length-append}
use Rattle.session.specs.Lines.{decimal}
use Rattle.session.specs.Laws.Decimal.{decimal_short, put_behind}
use Rattle.session.proofs.line.put_field.Goals as goal

pub put_decimal-place-requires : goal.put_decimal-place-requires
put_decimal-place-requires c = omega (arith, decimal_short c.args.n c.ranges.n.fits)

pub bounds-room-place : goal.bounds-room-place
bounds-room-place c = omega (arith, decimal_short c.args.n c.ranges.n.fits)

pub overflow_add-result : goal.overflow_add-result
overflow_add-result c = omega (arith, decimal_short c.args.n c.ranges.n.fits)

pub returns : goal.returns
returns c =
    let a = c.args in
    let p = c.put_decimal-place in
    let short = decimal_short a.n c.ranges.n.fits in
    let long = length-append (decimal a.n) (a.end ∷ []) in (
      omega (arith, p.ensures.0, long),
      omega (arith, short, p.ensures.0),
      put_behind a.room.now (decimal a.n) p.new.room a.at p.result a.end (omega (arith, c.requires, short)) p.ensures.0 p.ensures.1,
    )
