-- Round trip, variance and timeout (document 01, "A newly acknowledged packet", 5; BEP 29 facts, section 5). Definitions only.
use Rattle.std.specs.Prelude.{ℕ, ◌+◌, ◌*◌, max, ℤ, pos, ◌+ℤ◌, int_div, unsigned_abs}
use Rattle.std.proofs.Math.IntN.{sub_ℕ}

-- old moves by (to - old) / share: a signed whole number, the quotient truncated toward zero.
abbrev pub move_of : ℕ → ℕ → ℕ → ℤ
move_of share old to = pos old +ℤ int_div (sub_ℕ to old) (pos share)

-- The same as a number from 0 up. No move goes below 0 (Laws/Trip, `moved_exact`), so that its size is the move itself and nothing is held.
unfoldable pub moved_of : ℕ → ℕ → ℕ → ℕ
moved_of share old to = unsigned_abs (move_of share old to)

-- With r, v the old round trip and variance and p the packet's own: v moves by (|r - p| - v) / 4,
abbrev pub variance_of : ℕ → ℕ → ℕ → ℕ
variance_of r v p = moved_of 4 v (unsigned_abs (sub_ℕ r p))

-- and r by (p - r) / 8.
abbrev pub trip_of : ℕ → ℕ → ℕ
trip_of r p = moved_of 8 r p

-- Timeout = the larger of r + 4 v and the minimum timeout.
abbrev pub timeout_of : ℕ → ℕ → ℕ → ℕ
timeout_of least r v = max (r + 4 * v) least
