-- What was found so far, and what is still to be found from here on, make all of it: each event so far is known.
use Rattle.std.proofs.Common.{◌+◌, ◌*◌, ◌-◌, ◌≤◌, ◌≡◌, drop}
use Rattle.session.specs.Format.{events_of, all_known, sack_total}
use Rattle.session.proofs.check.walked.Given as goal

abbrev pub invariant-loop-i : goal.invariant-loop-i
invariant-loop-i l =
    (l.i ≤ l.count)
    × (l.total ≤ 4294967295 * l.i)
    × (all_known (events_of l.count (drop 72 l.file)) ≡ all_known (events_of (l.count - l.i) (drop (72 + 24 * l.i) l.file)))
    × (sack_total (events_of l.count (drop 72 l.file)) ≡ l.total + sack_total (events_of (l.count - l.i) (drop (72 + 24 * l.i) l.file)))
