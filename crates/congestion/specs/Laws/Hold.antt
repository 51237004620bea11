-- Document 02, No. 9: the hold at 0 is never used, and taking it out changes no answer. The definition with the hold is kept in this file alone, for
-- the comparison.
use Rattle.std.specs.Prelude.{◌≡◌, ℕ, T, ℤ, pos, negsuc, ◌+ℤ◌, int_div, unsigned_abs, refl}
use Rattle.std.proofs.Math.IntN.{sub_ℕ}
use Rattle.std.specs.Int.Signed.{non_neg}
use Rattle.congestion.specs.declared.numbers.Numbers.{Numbers}
use Rattle.congestion.specs.Trip.{move_of, moved_of, timeout_of}
use Rattle.congestion.specs.Numbers.{with_trip, timed_of}
use Rattle.congestion.specs.Laws.Trip.{move_from_zero}

-- A result below 0 is held at 0.
abbrev held_at_zero : ℤ → ℕ
held_at_zero (pos n) = n
held_at_zero (negsuc n) = 0

abbrev held_move_of : ℕ → ℕ → ℕ → ℕ
held_move_of share old to = held_at_zero (pos old +ℤ int_div (sub_ℕ to old) (pos share))

-- Round trip, variance and timeout after a packet's round trip p, with both moves held.
abbrev held_timed_of : Numbers → ℕ → Numbers
held_timed_of n p =
    let v = held_move_of 4 n.variance (unsigned_abs (sub_ℕ n.trip p)) in
    let r = held_move_of 8 n.trip p in
    with_trip n r v (timeout_of n.minimum_timeout r v)

held_from_zero : (z : ℤ) → T (non_neg z) → held_at_zero z ≡ unsigned_abs z
held_from_zero (pos n) h = refl
held_from_zero (negsuc n) h = absurd h

-- With the hold and without it, a move gives the same number, for any numbers at all.
pub held_move_same : (share old to : ℕ) → held_move_of share old to ≡ moved_of share old to
unfolding moved_of
held_move_same share old to = held_from_zero (move_of share old to) (move_from_zero share old to)

-- So it is in every state, sound or not, of what a packet's round trip leaves (`timed_of`), the only definition in which something moves: every promise
-- above means what it meant.
pub held_timed_same : (n : Numbers) (p : ℕ) → held_timed_of n p ≡ timed_of n p
unfolding timed_of
held_timed_same n p = simp (held_move_same 4 n.variance (unsigned_abs (sub_ℕ n.trip p)), held_move_same 8 n.trip p)
