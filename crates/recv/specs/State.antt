-- The receiver's state, its soundness test (docs/STATE.md), and what is answered of it. Definitions only.
use Rattle.std.specs.Prelude.{ℕ, ◌+◌, Bool, true, cond, not, ◌&&◌, List, leb, eqb, take, get_or, replicate}
use Rattle.seq.specs.Seq.{plus_of, offset_of}
use Rattle.seq.specs.declared.SeqNum.{SeqNum}
use Rattle.recv.specs.Table.{waits, bytes_in, how_many, last_waits, largest_length, limit, ahead, there_of}
use Rattle.recv.specs.declared.Answered.{Answered}
use Rattle.recv.specs.declared.Creation.{Creation}
use Rattle.recv.specs.declared.Creation.TheVariants.{Made, Refused as creation-refused}
use Rattle.recv.specs.declared.ReceiveBuffer.{ReceiveBuffer}
use Rattle.recv.specs.declared.Refusal.TheVariants.{BadSetting, NotSound}
use Rattle.recv.specs.declared.Told.{Told}
use Rattle.recv.specs.declared.Told.TheVariants.{Is, Refused}

-- what stands in the table for the offsets past those in order, up to the furthest that waits
abbrev pub table_of : ReceiveBuffer → List ℕ
table_of s = take s.span s.waiting

-- The soundness test: the length is one that a receiver may be created with; the table has at most 256 places and reaches no offset above the limit;
-- the offset next in order does not wait, and the last place does; ready and waiting bytes fit the length.
unfoldable pub sound_of : ReceiveBuffer → Bool
sound_of s =
    leb 1 s.length
    && leb s.length largest_length
    && leb s.span ahead
    && leb (s.count + s.span) limit
    && not (waits (get_or (table_of s) 0 0))
    && last_waits true (table_of s)
    && leb (s.ready + bytes_in (table_of s)) s.length

-- ---- a new receiver

-- nothing in order, nothing ready, nothing waiting
abbrev pub fresh_of : SeqNum → ℕ → ReceiveBuffer
fresh_of initial size = record { initial = initial; length = size; count = 0; ready = 0; span = 0; waiting = replicate 256 0 }

-- with a refusal stands a state of length 0, which no call takes
abbrev pub no_receiver_of : SeqNum → Answered Creation ReceiveBuffer
no_receiver_of initial = record { answer = creation-refused BadSetting; state = fresh_of initial 0 }

-- Document 01, "Receiving": buffer length 1 to 65,536, else 10.
abbrev pub created_of : SeqNum → ℕ → Answered Creation ReceiveBuffer
created_of initial size =
    cond (leb 1 size && leb size largest_length)
    (record { answer = Made; state = fresh_of initial size })
    (no_receiver_of initial)

-- ---- what is answered of a state: 19 where it is not sound

abbrev pub told_of : {A : Type 0} → ReceiveBuffer → A → Told A
told_of s a = cond (sound_of s) (Is a) (Refused NotSound)

-- the receiver's ack number is the initial number plus c, modulo 65,536
abbrev pub ack_of : ReceiveBuffer → SeqNum
ack_of s = plus_of s.initial s.count

-- Is this number already there: at most c past the initial one, or waiting?
abbrev pub written_before : ReceiveBuffer → SeqNum → Bool
written_before s number = there_of s.count (table_of s) (offset_of number s.initial).0

-- empty: no byte is ready and nothing waits
abbrev pub empty_of : ReceiveBuffer → Bool
empty_of s = eqb s.ready 0 && eqb (how_many (table_of s)) 0
