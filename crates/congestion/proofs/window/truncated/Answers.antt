-- `truncated` meets its contract: within the range by std's account of the cast, past either end by `Ends`, and 0 where no test holds.
-- The literals compute to the numbers that they stand for once `of_bits` and `neg` are unfolded.
use Rattle.std.proofs.Common.{◌≡◌, ℕ, ◌^◌, ◌<◌, ◌≤◌, Bool, true, false, not, T, pos, neg_ℤ, sym, ap, ◌∙◌, subst, w64}
use Rattle.std.specs.Float.Ieee.{of_bits, neg}
use Rattle.std.proofs.lemmas.Int.{to_z_pos}
use Rattle.std.proofs.num.Truncating as tr
use Rattle.congestion.proofs.Ends.{negated_from_one, past_top, past_bottom}
use Rattle.congestion.proofs.window.truncated.Goals as goal
use Rattle.congestion.proofs.window.truncated.Goals.{Then-x-2, Then-x-4, After-digits_of, After-digits_of-then-x-4}

yes : {b : Bool} → b ≡ true → T b
yes e = subst T (sym e) tt

no : {b : Bool} → b ≡ false → T (not b)
no e = subst (λ (b : Bool). T (not b)) (sym e) tt

-- from 1 up to 2 ^ 63
above : (c : Then-x-2) → tr.Above c.args.x
unfolding of_bits
above c = tr.above c.args.x (tr.at_least_one c.args.x c.if-x.true) (yes c.if-x-2.true)

-- from -2 ^ 63 up to -1
below : (c : Then-x-4) → tr.Below c.args.x
unfolding of_bits neg
below c = tr.below c.args.x (tr.at_most_minus_one c.args.x c.if-x-3.true) (yes c.if-x-4.true)

pub digits_of-requires-clause-below_two_to_64 : goal.digits_of-requires-clause-below_two_to_64
digits_of-requires-clause-below_two_to_64 c = (above (goal.at.digits_of-requires-clause-below_two_to_64 c).Then-x-2).1

pub overflow_cast-result : goal.overflow_cast-result
overflow_cast-result c =
    record { sfits = subst (λ (n : ℕ). n < 2 ^ 63) (sym c.digits_of.ensures) (above (goal.at.overflow_cast-result c).Then-x-2).2 }

pub digits_of-requires-then-x-4-clause-at_least_one :
    goal.digits_of-requires-then-x-4-clause-at_least_one
digits_of-requires-then-x-4-clause-at_least_one c = negated_from_one c.args.x (tr.at_most_minus_one c.args.x c.if-x-3.true)

pub digits_of-requires-then-x-4-clause-below_two_to_64 :
    goal.digits_of-requires-then-x-4-clause-below_two_to_64
digits_of-requires-then-x-4-clause-below_two_to_64 c = (below (goal.at.digits_of-requires-then-x-4-clause-below_two_to_64 c).Then-x-4).1

from_one : (c : After-digits_of-then-x-4) → 1 ≤ c.digits_of-then-x-4.result
from_one c = subst (λ (n : ℕ). 1 ≤ n) (sym c.digits_of-then-x-4.ensures) (below (goal.at.After-digits_of-then-x-4 c).Then-x-4).2

to_top : (c : After-digits_of-then-x-4) → c.digits_of-then-x-4.result ≤ 2 ^ 63
to_top c = subst (λ (n : ℕ). n ≤ 2 ^ 63) (sym c.digits_of-then-x-4.ensures) (below (goal.at.After-digits_of-then-x-4 c).Then-x-4).3

pub overflow_sub-result : goal.overflow_sub-result
overflow_sub-result c = from_one (goal.at.overflow_sub-result c).After-digits_of-then-x-4

pub overflow_cast-result-then-x-4 : goal.overflow_cast-result-then-x-4
overflow_cast-result-then-x-4 c =
    let d = (goal.at.overflow_cast-result-then-x-4 c).After-digits_of-then-x-4 in
    tr.one_less_fits c.digits_of-then-x-4.result (from_one d) (to_top d)

pub returns-then-x-2 : goal.returns-then-x-2
returns-then-x-2 c =
    to_z_pos w64 c.digits_of.result (overflow_cast-result c).sfits
    ∙ ap pos c.digits_of.ensures
    ∙ (above (goal.at.returns-then-x-2 c).Then-x-2).3

pub returns-else-x-2 : goal.returns-else-x-2
unfolding of_bits
returns-else-x-2 c = past_top c.args.x (tr.at_least_one c.args.x c.if-x.true) (no c.if-x-2.false)

pub returns-then-x-4 : goal.returns-then-x-4
returns-then-x-4 c =
    let d = (goal.at.returns-then-x-4 c).After-digits_of-then-x-4 in
    tr.negated c.digits_of-then-x-4.result (from_one d) (to_top d)
    ∙ ap (λ (n : ℕ). neg_ℤ (pos n)) c.digits_of-then-x-4.ensures
    ∙ (below (goal.at.returns-then-x-4 c).Then-x-4).4

pub returns-else-x-4 : goal.returns-else-x-4
unfolding of_bits neg
returns-else-x-4 c = past_bottom c.args.x (tr.at_most_minus_one c.args.x c.if-x-3.true) (no c.if-x-4.false)

pub returns-else-x-3 : goal.returns-else-x-3
returns-else-x-3 c = tr.between_ones c.args.x (tr.under_one c.args.x c.if-x.false) (tr.over_minus_one c.args.x c.if-x-3.false)
