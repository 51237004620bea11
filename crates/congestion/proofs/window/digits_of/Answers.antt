-- `digits_of` meets its contract: std proves what the same mask, shift and test give of a float from 1 up to 2^64.
use Rattle.std.proofs.Common.{T, sym, subst}
use Rattle.std.specs.Float.Ieee.{binary64, fits}
use Rattle.std.proofs.num.Truncating.{down_by, up_by, cut_down, cut_up}
use Rattle.congestion.proofs.window.digits_of.Goals as goal
use Rattle.congestion.proofs.window.digits_of.Goals.{Start}

-- a float that the program holds is one of the format's
held : (c : goal.Start) → T (fits binary64 c.args.x)
held c = subst T (sym c.well_formed.0.1) tt

pub overflow_shr-result : goal.overflow_shr-result
overflow_shr-result c = down_by c.args.x (held (goal.at.overflow_shr-result c).Start) c.requires.at_least_one c.requires.below_two_to_64

pub overflow_shl-result : goal.overflow_shl-result
overflow_shl-result c = up_by c.args.x (held (goal.at.overflow_shl-result c).Start) c.requires.at_least_one c.requires.below_two_to_64

pub returns-then-exponent-le1075 : goal.returns-then-exponent-le1075
returns-then-exponent-le1075 c =
    cut_down c.args.x (held (goal.at.returns-then-exponent-le1075 c).Start) c.requires.at_least_one c.requires.below_two_to_64 c.if-exponent-le1075.true

pub returns-else-exponent-le1075 : goal.returns-else-exponent-le1075
returns-else-exponent-le1075 c =
    cut_up c.args.x (held (goal.at.returns-else-exponent-le1075 c).Start) c.requires.at_least_one c.requires.below_two_to_64 c.if-exponent-le1075.false
