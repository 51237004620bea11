-- The marked cases R1 and R2 of document 01, "Receiving": what the definitions give beside what the document says. A row is a list of numbers.
use Rattle.std.specs.Prelude.{ℕ, List, [], ◌∷◌, ◌≡◌, refl, replicate}
use Rattle.recv.specs.Table.{there_of, sack_of}
use Rattle.recv.specs.State.{sound_of, table_of, ack_of, fresh_of}
use Rattle.recv.specs.Receiver.{rule_of, stored_of}
use Rattle.recv.specs.Calls.{answer_of, written_of, written_room_of}
use Rattle.recv.specs.declared.ReceiveBuffer.{ReceiveBuffer}

-- a state beside its buffer
record Held : Type 0 where
  state : ReceiveBuffer
  bytes : List ℕ

-- a one-byte payload arrives
arrives : Held → ℕ → Held
arrives h n = record {
  state = (written_of h.state h.bytes (record { 0 = n }) (n ∷ [])).state;
  bytes = written_room_of h.state h.bytes (record { 0 = n }) (n ∷ []);
}

-- initial 65,533
start : Held
start = record { state = fresh_of (record { 0 = 65533 }) 8; bytes = replicate 8 0 }

-- numbers 65,535 and 0 waiting
both_wait : Held
both_wait = arrives (arrives start 65535) 0

-- (R1) the SACK; (R2) then 65,534 arrives: the ack number
pub found : List (List ℕ)
found = sack_of (table_of both_wait.state) ∷ ((ack_of (arrives both_wait 65534).state).0 ∷ []) ∷ []

pub written : List (List ℕ)
written = (3 ∷ 0 ∷ 0 ∷ 0 ∷ []) ∷ (0 ∷ []) ∷ []

pub marked : found ≡ written
unfolding found written start arrives both_wait sound_of there_of sack_of rule_of stored_of answer_of
marked = refl
