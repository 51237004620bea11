-- The f64 work of the Rust on round trip and variance (congestion.rs), for comparison. Definitions only.
use Rattle.std.specs.Prelude.{ℕ, ℤ, pos}
use Rattle.std.specs.Float.{binary64}
use Rattle.std.specs.Float.Ieee.{sub, div, of_int, to_signed}

-- ((to as f64 - old as f64) / share as f64) as i64
unfoldable pub rust_move_of : ℕ → ℕ → ℕ → ℤ
rust_move_of share old to = to_signed 63 (div binary64 (sub binary64 (of_int binary64 (pos to)) (of_int binary64 (pos old))) (of_int binary64 (pos share)))
