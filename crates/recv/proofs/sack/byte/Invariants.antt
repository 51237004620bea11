-- The bits go in from the highest to the lowest: the value is that of the bits from `j` up (`upper_of`).
use Rattle.std.proofs.Common.{◌≡◌}
use Rattle.recv.specs.Laws.Sack.{upper_of}
use Rattle.recv.proofs.sack.byte.Given as goal

abbrev pub invariant-loop-j : goal.invariant-loop-j
invariant-loop-j l = l.value ≡ upper_of l.table l.k l.j
