-- `gain_in_range` meets its contract: the two comparisons are the definition's, at the numbers that the literals stand for.
use Rattle.std.proofs.Common.{refl}
use Rattle.std.specs.Float.Ieee.{le, of_bits}
use Rattle.congestion.proofs.settings.gain_in_range.Goals as goal

pub returns : goal.returns
unfolding le of_bits
returns c = refl
