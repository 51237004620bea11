-- The state whose table is lent to a call beside its counts, put together again. Definitions only.
use Rattle.std.specs.Prelude.{ℕ, ◌<◌, ◌^◌, List, ◌≡◌}
use Rattle.recv.specs.State.{table_of}
use Rattle.recv.specs.Table.{bytes_in}
use Rattle.recv.specs.declared.Answered.{Answered}
use Rattle.recv.specs.declared.Counts.{Counts}
use Rattle.recv.specs.declared.ReceiveBuffer.{ReceiveBuffer}

abbrev pub whole : Counts → List ℕ → ReceiveBuffer
whole c table = record { initial = c.initial; length = c.length; count = c.count; ready = c.ready; span = c.span; waiting = table }

abbrev pub counts_of : ReceiveBuffer → Counts
counts_of s = record { initial = s.initial; length = s.length; count = s.count; ready = s.ready; span = s.span }

-- what a write or a read in place answers
abbrev pub whole_answered : {A : Type 0} → Answered A Counts → List ℕ → Answered A ReceiveBuffer
whole_answered r table = record { answer = r.answer; state = whole r.state table }

-- how many bytes wait, in a number that a sum with the ready bytes does not overflow
pub record Held (s : ReceiveBuffer) (held : ℕ) : Type 0 where
  pub is : held ≡ bytes_in (table_of s)
  pub small : held < 2 ^ 40
