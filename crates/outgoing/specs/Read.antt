-- What is read of a tracker (document 01, "Sent packets" and "Settings and time"). Definitions only.
use Rattle.std.specs.Prelude.{ℕ, ◌+◌, Bool, true, false, cond, List, [], ◌∷◌, eqb, ltb, length}
use Rattle.common.specs.Answer.{Answer, done, refused}
use Rattle.seq.specs.declared.SeqNum.{SeqNum}
use Rattle.seq.specs.declared.CircularRangeInclusive.{CircularRangeInclusive}
use Rattle.seq.specs.Seq.{plus_of}
use Rattle.congestion.specs.Numbers.{free_of}
use Rattle.outgoing.specs.declared.kept.Packet.{Packet}
use Rattle.outgoing.specs.Loss.{is_unacked}
use Rattle.outgoing.specs.Lost.{lost_list_of}
use Rattle.outgoing.specs.Tracker.{Tracker, gone_of}

abbrev pub timeout_in : Tracker → ℕ
timeout_in t = t.numbers.timeout

-- The free window is maximum less in flight, or 0.
abbrev pub window_in : Tracker → ℕ
window_in t = free_of t.numbers

abbrev pub in_flight_in : Tracker → ℕ
in_flight_in t = t.numbers.in_flight

abbrev pub maximum_in : Tracker → ℕ
maximum_in t = t.numbers.maximum

-- The last of the acknowledged run, or 0 if none.
abbrev pub last_acked_of : SeqNum → ℕ → SeqNum
last_acked_of initial gone = cond (eqb gone 0) (record { 0 = 0 }) (plus_of initial gone)

abbrev pub ack_num_in : Tracker → SeqNum
ack_num_in t = last_acked_of t.initial (gone_of t)

abbrev pub next_seq_num_in : Tracker → SeqNum
next_seq_num_in t = plus_of t.initial (t.sent + 1)

-- From the initial number to the last sent.
abbrev pub seq_num_range_in : Tracker → CircularRangeInclusive
seq_num_range_in t = record { start = t.initial; end = plus_of t.initial t.sent; exhausted = false }

-- Is one of them not acknowledged?
unfoldable pub some_unacked : List Packet → Bool
some_unacked [] = false
some_unacked (p ∷ l) = cond (is_unacked p) true (some_unacked l)

abbrev pub has_unacked_in : Tracker → Bool
has_unacked_in t = some_unacked t.packets

-- The count of the lost list.
abbrev pub lost_count_in : Tracker → ℕ
lost_count_in t = length (lost_list_of t)

abbrev pub has_lost_in : Tracker → Bool
has_lost_in t = ltb 0 (lost_count_in t)

-- What a question is answered: 19 where the state is not sound.
abbrev pub told_of : {A : Type 0} → Bool → A → Answer A
told_of sound a = cond sound (done a) (refused 19)

-- Whether there is one, where it was told how many.
abbrev pub any_of : Answer ℕ → Answer Bool
any_of (done n) = done (ltb 0 n)
any_of (refused n) = refused n
