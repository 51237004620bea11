-- `timed` meets its contract: the moves are the definition's, both by the old round trip; no sum overflows, since neither move passes 2^50.
use Rattle.std.proofs.Common.{ℕ, ◌^◌, ◌≤◌, unsigned_abs, arith}
use Rattle.std.proofs.Math.Path.{subst⁻¹}
use Rattle.std.proofs.Math.IntN.{sub_ℕ}
use Rattle.congestion.specs.Numbers.{timed_of}
use Rattle.congestion.specs.Laws.Trip.{moved_at_most, apart_at_most}
use Rattle.congestion.specs.Laws.Numbers.{sound_facts}
use Rattle.congestion.proofs.numbers.Numbers.timed.Goals as goal
use Rattle.congestion.proofs.numbers.Numbers.timed.Goals.{After-next_variance-variance}

pub returns : goal.returns
unfolding timed_of
returns c = simp (c.max.ensures, c.next_variance-variance.ensures, c.next_trip-moved.ensures)

trip_to : (c : After-next_variance-variance) → c.next_trip-moved.result ≤ 2 ^ 50
trip_to c =
    let s = sound_facts c.args.self c.requires.0 in
    subst⁻¹ (λ (k : ℕ). k ≤ 2 ^ 50) c.next_trip-moved.ensures
    (moved_at_most 8 c.args.self.trip c.args.trip (2 ^ 50) s.running.trip_to c.requires.1)

variance_to : (c : After-next_variance-variance) → c.next_variance-variance.result ≤ 2 ^ 50
variance_to c =
    let n = c.args.self in
    let s = sound_facts n c.requires.0 in
    subst⁻¹ (λ (k : ℕ). k ≤ 2 ^ 50) c.next_variance-variance.ensures
    (moved_at_most 4 n.variance (unsigned_abs (sub_ℕ n.trip c.args.trip)) (2 ^ 50) s.running.variance_to
    (apart_at_most n.trip c.args.trip (2 ^ 50) s.running.trip_to c.requires.1))

pub overflow_mul-variance : goal.overflow_mul-variance
overflow_mul-variance c = let h = variance_to c in omega arith

pub overflow_add-moved : goal.overflow_add-moved
overflow_add-moved c = let h = variance_to c in let k = trip_to c in omega arith
