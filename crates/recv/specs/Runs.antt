-- What any calls from a fresh receiver come to: what each stores, and what each reads. Definitions only.
use Rattle.std.specs.Prelude.{ℕ, ◌+◌, ◌-◌, cond, List, [], ◌∷◌, ◌++◌, eqb, length, take, get_or}
use Rattle.std.proofs.Math.Option.{Option, none, some}
use Rattle.seq.specs.Seq.{offset_of}
use Rattle.seq.specs.declared.SeqNum.{SeqNum}
use Rattle.recv.specs.State.{fresh_of}
use Rattle.recv.specs.Receiver.{Receiver, changed}
use Rattle.recv.specs.Calls.{answer_of, written_of, written_room_of, taken_of, taken_room_of, taken_out_of}
use Rattle.recv.specs.declared.ReceiveBuffer.{ReceiveBuffer}
use Rattle.recv.specs.declared.Told.{Told}
use Rattle.recv.specs.declared.Told.TheVariants.{Is, Refused}

-- a call that can change something: a payload under its number, or output to read into
pub data Call : Type 0 where
  write : SeqNum → List ℕ → Call
  read : List ℕ → Call

-- a payload that was stored, with its offset
pub record Entry : Type 0 where
  pub offset : ℕ
  pub payload : List ℕ

-- how far the calls have come: the state, the bytes of the buffer that is lent to every call, what was stored, the newest first, and all that was read
pub record Run : Type 0 where
  pub state : ReceiveBuffer
  pub bytes : List ℕ
  pub stored : List Entry
  pub read : List ℕ

abbrev pub or_else : Option (List ℕ) → Option (List ℕ) → Option (List ℕ)
or_else none other = other
or_else (some p) other = some p

-- the payload first stored under an offset
abbrev pub first_stored : List Entry → ℕ → Option (List ℕ)
first_stored [] o = none
first_stored (e ∷ log) o = or_else (first_stored log o) (cond (eqb e.offset o) (some e.payload) none)

-- what waits under an offset past those in order
abbrev pub waiting_under : Receiver → ℕ → Option (List ℕ)
waiting_under r o = get_or r.waiting (o - (r.count + 1)) none

-- what a read put into its output
abbrev pub output_of : Told ℕ → List ℕ → List ℕ
output_of (Is n) out = take n out
output_of (Refused why) out = []

abbrev pub step_of : Run → Call → Run
step_of r (write number payload) =
    record {
      state = (written_of r.state r.bytes number payload).state;
      bytes = written_room_of r.state r.bytes number payload;
      stored =
          changed (answer_of r.state (length r.bytes) number (length payload))
          (record { offset = (offset_of number r.state.initial).0; payload = payload } ∷ r.stored)
          r.stored;
      read = r.read;
    }
step_of r (read out) =
    record {
      state = (taken_of r.state r.bytes out).state;
      bytes = taken_room_of r.state r.bytes out;
      stored = r.stored;
      read = r.read ++ output_of (taken_of r.state r.bytes out).answer (taken_out_of r.state r.bytes out);
    }

-- one call after the other
abbrev pub run_of : Run → List Call → Run
run_of r [] = r
run_of r (c ∷ cs) = run_of (step_of r c) cs

-- a fresh receiver over a buffer
abbrev pub fresh_run : SeqNum → List ℕ → Run
fresh_run initial buf = record { state = fresh_of initial (length buf); bytes = buf; stored = []; read = [] }
