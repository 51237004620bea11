-- The digits before the last are those of a tenth of the number, and the last stands right behind them.
use Rattle.std.proofs.Common.{arith, refl}
use Rattle.session.specs.Laws.Decimal.{small_length, large_length, put_small, put_large}
use Rattle.session.proofs.line.+put_decimal.Goals as goal

pub bounds-room-at : goal.bounds-room-at
bounds-room-at t c = omega (arith, small_length c.args.n c.if-n-lt10.true)

pub returns-then-n-lt10 : goal.returns-then-n-lt10
returns-then-n-lt10 t c =
    let a = c.args in
    (omega (arith, small_length a.n c.if-n-lt10.true), put_small a.room.now a.at a.n _ c.if-n-lt10.true c.requires refl)

pub put_decimal-place-requires : goal.put_decimal-place-requires
put_decimal-place-requires t c =
    (omega arith, omega (arith, large_length c.args.n c.if-n-lt10.false))

pub bounds-room-place : goal.bounds-room-place
bounds-room-place t c = omega (arith, large_length c.args.n c.if-n-lt10.false)

pub overflow_add-result-2 : goal.overflow_add-result-2
overflow_add-result-2 t c = omega (arith, large_length c.args.n c.if-n-lt10.false)

pub returns : goal.returns
returns t c =
    let a = c.args in
    let p = c.put_decimal-place in
    (omega (arith, large_length a.n c.if-n-lt10.false), put_large a.room.now p.new.room a.at a.n p.result _ c.if-n-lt10.false c.requires p.ensures.0 p.ensures.1 refl)
