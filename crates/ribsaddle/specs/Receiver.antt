-- The receiver behind a pointer. Definitions only.
use Rattle.std.specs.Prelude.{ℕ, List, length}
use Rattle.common.specs.Answer.{Answer, done, refused}
use Rattle.recv.specs.Numbers.{number_of as refusal_number}
use Rattle.recv.specs.State.{created_of}
use Rattle.recv.specs.Calls.{written_of, taken_of, acked_of}
use Rattle.recv.specs.declared.Answered.{Answered}
use Rattle.recv.specs.declared.Creation.{Creation}
use Rattle.recv.specs.declared.Creation.TheVariants.{Made, Refused as creation-refused}
use Rattle.recv.specs.declared.ReceiveBuffer.{ReceiveBuffer}
use Rattle.recv.specs.declared.Told.{Told}
use Rattle.recv.specs.declared.Told.TheVariants.{Is, Refused as told-refused}
use Rattle.recv.specs.declared.Writing.{Writing}
use Rattle.recv.specs.declared.Writing.TheVariants.{Stored, AlreadyThere, Refused as writing-refused}
use Rattle.ribsaddle.specs.Answer.{number_of}

-- ---- each answer by its number

abbrev pub told_answer : {A : Type 0} → Told A → Answer A
told_answer (Is a) = done a
told_answer (told-refused why) = refused (refusal_number why)

-- "Already there" counts as done.
abbrev pub writing_number : Writing → ℕ
writing_number Stored = 0
writing_number AlreadyThere = 0
writing_number (writing-refused why) = refusal_number why

-- ---- what a call answers, and the state after it

pub record Receiving : Type 0 where
  pub answer : ℕ
  pub state : ReceiveBuffer

-- A new receiver is stored where the length is in range; else what stood there stays.
abbrev pub created_as : ReceiveBuffer → Creation → ReceiveBuffer → Receiving
created_as old Made state = record { answer = 0; state = state }
created_as old (creation-refused why) state = record { answer = refusal_number why; state = old }

unfoldable pub new_of : ReceiveBuffer → ℕ → ℕ → Receiving
new_of old initial length = created_as old (created_of (record { 0 = initial }) length).answer (created_of (record { 0 = initial }) length).state

abbrev pub written_as : Answered Writing ReceiveBuffer → Receiving
written_as w = record { answer = writing_number w.answer; state = w.state }

unfoldable pub write_of : ReceiveBuffer → List ℕ → ℕ → List ℕ → Receiving
write_of s buf number payload = written_as (written_of s buf (record { 0 = number }) payload)

abbrev pub taken_as : Answered (Told ℕ) ReceiveBuffer → Receiving
taken_as t = record { answer = number_of (told_answer t.answer); state = t.state }

unfoldable pub read_of : ReceiveBuffer → List ℕ → List ℕ → Receiving
read_of s buf out = taken_as (taken_of s buf out)

unfoldable pub taken_count_of : ReceiveBuffer → List ℕ → List ℕ → Answer ℕ
taken_count_of s buf out = told_answer (taken_of s buf out).answer

unfoldable pub sack_answer : ReceiveBuffer → List ℕ → Answer ℕ
sack_answer s room = told_answer (acked_of s (length room))
