-- What each call that lends memory answers, and what stands in that memory on return, for any state and any memory. Definitions only.
use Rattle.std.specs.Prelude.{ℕ, zero, suc, min, Bool, cond, ◌&&◌, List, [], ◌∷◌, ◌++◌, leb, eqb, length, take, drop}
use Rattle.std.proofs.Math.Option.{Option, none, some}
use Rattle.seq.specs.Seq.{offset_of}
use Rattle.seq.specs.declared.SeqNum.{SeqNum}
use Rattle.recv.specs.Table.{sack_of}
use Rattle.recv.specs.State.{table_of, sound_of}
use Rattle.recv.specs.Receiver.{Receiver, joined, lengths_of, rule_of, stored_of, changed, read_of}
use Rattle.recv.specs.declared.Answered.{Answered}
use Rattle.recv.specs.declared.ReceiveBuffer.{ReceiveBuffer}
use Rattle.recv.specs.declared.Refusal.TheVariants.{NoRoom, OtherLength, NotSound}
use Rattle.recv.specs.declared.Told.{Told}
use Rattle.recv.specs.declared.Told.TheVariants.{Is, Refused}
use Rattle.recv.specs.declared.Writing.{Writing}
use Rattle.recv.specs.declared.Writing.TheVariants.{Refused as write-refused}

-- ---- what a state and the bytes of its buffer stand for: the ready bytes, then the waiting payloads by offset, end to end, then spare bytes

-- the payloads of a table of lengths, cut off one after the other
abbrev pub payloads_of : List ℕ → List ℕ → List (Option (List ℕ))
payloads_of [] bytes = []
payloads_of (zero ∷ t) bytes = none ∷ payloads_of t bytes
payloads_of (suc n ∷ t) bytes = some (take n bytes) ∷ payloads_of t (drop n bytes)

abbrev pub receiver_of : ReceiveBuffer → List ℕ → Receiver
receiver_of s buf =
    record {
      initial = s.initial;
      length = s.length;
      count = s.count;
      ready = take s.ready buf;
      waiting = payloads_of (table_of s) (drop s.ready buf);
    }

-- a list written over the front of an old one, the rest of which stays as it was
abbrev pub over : List ℕ → List ℕ → List ℕ
over new old = new ++ drop (length new) old

-- the state of a receiver, its table over the old one, and its bytes over the old buffer
abbrev pub state_of : List ℕ → Receiver → ReceiveBuffer
state_of old r =
    record {
      initial = r.initial;
      length = r.length;
      count = r.count;
      ready = length r.ready;
      span = length r.waiting;
      waiting = over (lengths_of r.waiting) old;
    }

abbrev pub room_of : List ℕ → Receiver → List ℕ
room_of old r = over (r.ready ++ joined r.waiting) old

-- ---- a write: 19, then 18, then the rule; the state and the buffer change where the payload is stored

unfoldable pub answer_of : ReceiveBuffer → ℕ → SeqNum → ℕ → Writing
answer_of s size number n =
    cond (sound_of s)
    (cond (eqb size s.length)
    (rule_of s.length s.count s.ready (table_of s) (offset_of number s.initial).0 n)
    (write-refused OtherLength))
    (write-refused NotSound)

-- the receiver after a payload was stored under a number
abbrev pub after_write : ReceiveBuffer → List ℕ → SeqNum → List ℕ → Receiver
after_write s buf number payload = stored_of (receiver_of s buf) (offset_of number s.initial).0 payload

abbrev pub written_of : ReceiveBuffer → List ℕ → SeqNum → List ℕ → Answered Writing ReceiveBuffer
written_of s buf number payload =
    let answer = answer_of s (length buf) number (length payload) in
    record { answer = answer; state = changed answer (state_of s.waiting (after_write s buf number payload)) s }

abbrev pub written_room_of : ReceiveBuffer → List ℕ → SeqNum → List ℕ → List ℕ
written_room_of s buf number payload = changed (answer_of s (length buf) number (length payload)) (room_of buf (after_write s buf number payload)) buf

-- ---- a read: 19, then 18; otherwise the smaller of output length and ready bytes, oldest first; output past them is untouched

abbrev pub ready_for : ReceiveBuffer → ℕ → Bool
ready_for s size = sound_of s && eqb size s.length

-- why a call on a state and a buffer is refused
abbrev pub why_not : ReceiveBuffer → Told ℕ
why_not s = cond (sound_of s) (Refused OtherLength) (Refused NotSound)

abbrev pub taken_of : ReceiveBuffer → List ℕ → List ℕ → Answered (Told ℕ) ReceiveBuffer
taken_of s buf out =
    let n = min (length out) s.ready in
    cond (ready_for s (length buf))
    (record { answer = Is n; state = state_of s.waiting (read_of (receiver_of s buf) n) })
    (record { answer = why_not s; state = s })

abbrev pub taken_room_of : ReceiveBuffer → List ℕ → List ℕ → List ℕ
taken_room_of s buf out = cond (ready_for s (length buf)) (room_of buf (read_of (receiver_of s buf) (min (length out) s.ready))) buf

abbrev pub taken_out_of : ReceiveBuffer → List ℕ → List ℕ → List ℕ
taken_out_of s buf out = cond (ready_for s (length buf)) (over (take (min (length out) s.ready) (receiver_of s buf).ready) out) out

-- ---- the selective ACK written to lent room: 19; too little room gives 9; bytes past it are untouched

abbrev pub acked_of : ReceiveBuffer → ℕ → Told ℕ
acked_of s room =
    cond (sound_of s)
    (cond (leb (length (sack_of (table_of s))) room)
    (Is (length (sack_of (table_of s))))
    (Refused NoRoom))
    (Refused NotSound)

abbrev pub acked_room_of : ReceiveBuffer → List ℕ → List ℕ
acked_room_of s room = cond (sound_of s && leb (length (sack_of (table_of s))) (length room)) (over (sack_of (table_of s)) room) room
