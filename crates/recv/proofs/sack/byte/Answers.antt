-- The bits from here up are worth less than 256 with the one here, the lowest.
use Rattle.std.proofs.Common.{◌≡◌, ◌+◌, ◌-◌, ◌*◌, ◌<◌, ℕ, List, ap, arith}
use Rattle.recv.specs.Laws.Sack.{upper_of, upper_lt, upper_more}
use Rattle.recv.proofs.sack.byte.Goals as goal

fits : (t : List ℕ) (k j value bit : ℕ) → 0 < j → j < 9 → bit < 2 → value ≡ upper_of t k j → 2 * value + bit < 256
fits t k j value bit some most small e =
    let next : j - 1 + 1 ≡ j = omega arith in
    omega (arith, upper_lt t k (j - 1), upper_more t k (j - 1) (omega arith), ap (upper_of t k) next)

pub overflow_mul-value : goal.overflow_mul-value
overflow_mul-value c =
    omega (arith, fits c.args.table.now c.args.k c.loop-j.j c.loop-j.value 0 c.loop-j-test.true (omega arith) (omega arith) c.loop-j.invariant)

pub overflow_add-value : goal.overflow_add-value
overflow_add-value c =
    omega (arith, fits c.args.table.now c.args.k c.loop-j.j c.loop-j.value c.bit.result c.loop-j-test.true (omega arith) (omega (arith, c.bit.ensures.1)) c.loop-j.invariant)
