-- What is printed for a recorded session (document 02, No. 3): one line an event, or one line `bad`. Definitions only, over the tracker of document 01.
use Rattle.std.specs.Prelude.{ℕ, suc, zero, ◌+◌, ◌/◌, ◌%◌, Bool, true, false, cond, List, [], ◌∷◌, ◌++◌, ltb, take, drop}
use Rattle.common.specs.Answer.{Answer, done, refused}
use Rattle.seq.specs.declared.SeqNum.{SeqNum}
use Rattle.packet.specs.Kind.{type_of}
use Rattle.congestion.specs.declared.settings.Settings.{Settings}
use Rattle.congestion.specs.Settings.{in_range_of}
use Rattle.congestion.specs.Numbers.{start_of}
use Rattle.controller.specs.Delays.{no_delays}
use Rattle.outgoing.specs.Tracker.{Tracker}
use Rattle.outgoing.specs.Transmit.{transmit_of}
use Rattle.outgoing.specs.Ack.{ack_of}
use Rattle.outgoing.specs.Sound.{timeout_of}
use Rattle.outgoing.specs.Read.{in_flight_in, maximum_in, timeout_in, lost_count_in}
use Rattle.session.specs.declared.event.Event.{Event}
use Rattle.session.specs.declared.line.Line.{Line}
use Rattle.session.specs.Format.{session_of, is_transmit, is_ack, sack_size, ◌into◌}

-- ---- text

-- The decimal digits of a number; `below` says whether it is below 10, and `left` how many may still come.
unfoldable pub digits_of : ℕ → Bool → ℕ → List ℕ
digits_of zero below n = []
digits_of (suc left) true n = (48 + n) ∷ []
digits_of (suc left) false n = digits_of left (ltb (n / 10) 10) (n / 10) ++ ((48 + n % 10) ∷ [])

-- A number has no more digits than it is large, and 0 has one.
unfoldable pub decimal : ℕ → List ℕ
decimal n = digits_of (suc n) (ltb n 10) n

abbrev pub space : ℕ
space = 32

abbrev pub newline : ℕ
newline = 10

-- Single spaces, and a newline at the end.
abbrev pub text_of : List ℕ → List ℕ
text_of [] = newline ∷ []
text_of (n ∷ []) = decimal n ++ (newline ∷ [])
text_of (n ∷ m ∷ ns) = decimal n ++ (space ∷ text_of (m ∷ ns))

-- Index, answer, in flight, maximum, timeout, lost count.
unfoldable pub line_text : Line → List ℕ
line_text l = text_of (l.index ∷ l.answer ∷ l.in_flight ∷ l.maximum ∷ l.timeout ∷ l.lost ∷ [])

-- `bad` and the number.
unfoldable pub bad_text : ℕ → List ℕ
bad_text n = 98 ∷ 97 ∷ 100 ∷ space ∷ text_of (n ∷ [])

-- ---- events

abbrev pub seq : ℕ → SeqNum
seq n = record { 0 = n }

-- The tag is the event's index. A transmit ignores delay, an ack its type, a timeout all but its kind.
abbrev pub event_answer : Tracker → ℕ → Event → List ℕ → Answer Tracker
event_answer t index e sack =
    cond (is_transmit e) (transmit_of t (seq e.number) (type_of e.packet_type) index e.size e.clock)
    (cond (is_ack e) (ack_of t (seq e.number) sack e.delay e.clock) (done (timeout_of t)))

-- A refusal leaves the tracker as it was.
abbrev pub tracker_after : Tracker → Answer Tracker → Tracker
tracker_after t (done u) = u
tracker_after t (refused n) = t

-- 0 is done.
abbrev pub number_of : {A : Type 0} → Answer A → ℕ
number_of (done a) = 0
number_of (refused n) = n

abbrev pub line_of : ℕ → ℕ → Tracker → Line
line_of index answer t =
    record {
      index = index;
      answer = answer;
      in_flight = in_flight_in t;
      maximum = maximum_in t;
      timeout = timeout_in t;
      lost = lost_count_in t;
    }

-- SACK bytes are used up in event order, by a refused ack too.
unfoldable pub lines_from : ℕ → Tracker → List Event → List ℕ → List Line
lines_from index t [] sack = []
lines_from index t (e ∷ es) sack =
    let a = event_answer t index e (take (sack_size e) sack) in
    line_of index (number_of a) (tracker_after t a) ∷ lines_from (index + 1) (tracker_after t a) es (drop (sack_size e) sack)

-- ---- a session

-- A fresh tracker. 10: a setting is out of range.
unfoldable pub fresh_of : ℕ → Settings → Answer Tracker
fresh_of initial settings =
    cond (in_range_of settings)
    (done (record { initial = seq initial; sent = 0; packets = []; numbers = start_of settings; delays = no_delays }))
    (refused 10)

-- The lines of a file, or 20, then 10.
unfoldable pub lines_of : List ℕ → Answer (List Line)
lines_of file = session_of file into λ s. fresh_of s.initial s.settings into λ t. done (lines_from 0 t s.events s.sack)

unfoldable pub lines_text : List Line → List ℕ
lines_text [] = []
lines_text (l ∷ ls) = line_text l ++ lines_text ls

abbrev pub text_of_answer : Answer (List Line) → List ℕ
text_of_answer (done ls) = lines_text ls
text_of_answer (refused n) = bad_text n

-- All that is printed for a file.
unfoldable pub printed : List ℕ → List ℕ
printed file = text_of_answer (lines_of file)
