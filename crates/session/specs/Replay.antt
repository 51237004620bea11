-- A replay as the library's functions give it: what a file answers, and what a step makes of any replay, a forged one among them. Laws.Printed shows that the steps from a
-- file's start print what the document says. Definitions only.
use Rattle.std.specs.Prelude.{ℕ, zero, suc, ◌+◌, Bool, true, false, not, ◌&&◌, cond, List, [], ◌∷◌, ◌++◌, leb, eqb, pos, length, take, drop, Option, Some, None, Result, Ok, Err}
use Rattle.std.specs.Float.{fin}
use Rattle.common.specs.Answer.{Answer, done, refused}
use Rattle.common.specs.Laws.Put.{put}
use Rattle.packet.specs.Kind.{type_of}
use Rattle.congestion.specs.declared.settings.Settings.{Settings}
use Rattle.sent.specs.declared.state.SentPackets.{SentPackets}
use Rattle.sent.specs.State.{transmit_answer, ack_answer, timeout_answer, new_answer, read_of, tracker_of}
use Rattle.outgoing.specs.Read.{in_flight_in, maximum_in, timeout_in, lost_count_in}
use Rattle.session.specs.declared.event.Event.{Event}
use Rattle.session.specs.declared.line.Line.{Line}
use Rattle.session.specs.declared.replay.Replay.{Replay}
use Rattle.session.specs.declared.replay.Started.{Started}
use Rattle.session.specs.declared.replay.StepReason.{StepReason}
use Rattle.session.specs.declared.replay.Stepped.{Stepped}
use Rattle.session.specs.declared.replay.Filled.{Filled}
use Rattle.session.specs.declared.line.Bad.{Bad}
use Rattle.session.specs.Format.{event_size, event_of, is_transmit, is_ack, is_known, sack_size, Session, session_of}
use Rattle.session.specs.declared.check.Layout.{Layout}
use Rattle.session.specs.Check.{event_place, layout_in}
use Rattle.session.specs.Lines.{seq, number_of, line_text, bad_text}
use Rattle.session.specs.Answers.{bad_number, longest, step_number}

-- ---- the start

abbrev pub start_told : Result (Unit {0}) Bad → Answer (Unit {0})
start_told (Ok t) = done t
start_told (Err b) = refused (bad_number b)

abbrev pub started : Started → Answer (Unit {0}) × Replay
started s = (start_told s.answer, s.replay)

-- 20 goes before 10.
abbrev pub verdict_of : Bool → Bool → Answer (Unit {0})
verdict_of session in_range = cond session (cond in_range (done tt) (refused 10)) (refused 20)

abbrev pub no_settings : Settings
no_settings =
    record {
      target_delay = 0;
      first_timeout = 0;
      minimum_timeout = 0;
      largest_packet = 0;
      increase = 0;
      gain = fin false 0 (pos 0);
      delay_window = 0;
    }

-- What is handed back for a file that is no session: no event, and a tracker that is not sound.
abbrev pub no_replay : Replay
no_replay = record { index = 0; count = 0; sack_at = 0; state = (new_answer (seq 0) no_settings).1 }

-- The replay of a session before its first event.
abbrev pub began_at : Layout → SentPackets → Replay
began_at l s = record { index = 0; count = l.count; sack_at = l.sack_at; state = s }

abbrev pub began_of : List ℕ → Session → Replay
began_of file s = began_at (layout_in file s) (new_answer (seq s.initial) s.settings).1

abbrev pub start_of : List ℕ → Answer Session → Answer (Unit {0}) × Replay
start_of file (done s) = ((new_answer (seq s.initial) s.settings).0, began_of file s)
start_of file (refused n) = (refused n, no_replay)

unfoldable pub start_answer : List ℕ → Answer (Unit {0}) × Replay
start_answer file = start_of file (session_of file)

-- ---- a step

abbrev pub told_of : Result (Option Line) StepReason → Answer (List Line)
told_of (Ok (Some l)) = done (l ∷ [])
told_of (Ok None) = done []
told_of (Err r) = refused (step_number r)

abbrev pub stepped : Stepped → Answer (List Line) × Replay
stepped s = (told_of s.told, s.replay)

abbrev pub found : Option Event → Answer Event
found (Some e) = done e
found None = refused 20

-- The event of an index, if it is in the file and known.
unfoldable pub event_at : List ℕ → ℕ → Answer Event
event_at file index =
    let e = event_of (drop (event_place index) file) in
    cond (leb (event_place index + event_size) (length file) && is_known e) (done e) (refused 20)

-- What the tracker in the state answers to an event.
abbrev pub event_state : SentPackets → ℕ → Event → List ℕ → Answer (Unit {0}) × SentPackets
event_state s index e sack =
    cond (is_transmit e) (transmit_answer s (seq e.number) (type_of e.packet_type) index e.size e.clock)
    (cond (is_ack e) (ack_answer s (seq e.number) sack e.delay e.clock) (timeout_answer s))

abbrev pub value_or : ℕ → Answer ℕ → ℕ
value_or n (done m) = m
value_or n (refused k) = n

abbrev pub shown_of : ℕ → ℕ → SentPackets → Line
shown_of index answer s =
    record {
      index = index;
      answer = answer;
      in_flight = in_flight_in (tracker_of s);
      maximum = maximum_in (tracker_of s);
      timeout = timeout_in (tracker_of s);
      lost = value_or 0 (read_of s lost_count_in);
    }

-- The replay behind an event.
abbrev pub behind_of : Replay → Event → SentPackets → Replay
behind_of r e s = record { index = r.index + 1; count = r.count; sack_at = r.sack_at + sack_size e; state = s }

-- 19: the tracker is not sound.
abbrev pub after_of : Replay → Event → Answer (Unit {0}) × SentPackets → Answer (List Line) × Replay
after_of r e p =
    cond (eqb (number_of p.0) 19) (refused 19, r) (done (shown_of r.index (number_of p.0) p.1 ∷ []), behind_of r e p.1)

unfoldable pub taken_of : Replay → Event → List ℕ → Answer (List Line) × Replay
taken_of r e sack = after_of r e (event_state r.state r.index e sack)

abbrev pub step_of : List ℕ → Replay → Answer Event → Answer (List Line) × Replay
step_of file r (done e) = cond (leb (r.sack_at + sack_size e) (length file)) (taken_of r e (take (sack_size e) (drop r.sack_at file))) (refused 20, r)
step_of file r (refused n) = (refused n, r)

-- No event is left: done, with no line. 20: the event or its SACK bytes are not in the file, or it is not known.
unfoldable pub step_answer : List ℕ → Replay → Answer (List Line) × Replay
step_answer file r = cond (leb r.count r.index) (done [], r) (step_of file r (event_at file r.index))

-- ---- a page: the lines of the next events, as many as a room holds

-- One turn: the line goes behind what is written, or none is left to write.
unfoldable pub turn_of : List ℕ → ℕ → Answer (List Line) × Replay → Filled × List ℕ
turn_of room used (done (l ∷ ls), r) = (record { used = used + length (line_text l); ended = false; replay = r }, put room used (line_text l))
turn_of room used (done [], r) = (record { used = used; ended = true; replay = r }, room)
turn_of room used (refused n, r) = (record { used = used; ended = true; replay = r }, room)

-- Turns, `left` at most, while there is room for the longest line and an event may be left.
unfoldable pub turns_of : List ℕ → ℕ → Filled × List ℕ → Filled × List ℕ
turns_of file zero p = p
turns_of file (suc left) p =
    cond (leb (p.0.used + longest) (length p.1) && not p.0.ended) (turns_of file left (turn_of p.1 p.0.used (step_answer file p.0.replay))) p

-- The room from its start on.
abbrev pub fill_answer : List ℕ → Replay → List ℕ → Filled × List ℕ
fill_answer file r room = turns_of file (length room) (record { used = 0; ended = false; replay = r }, room)

-- ---- what a caller prints who writes each line that a step tells, and the one line of a refused file

abbrev pub text_then : Answer (List Line) → List ℕ → List ℕ
text_then (done []) rest = []
text_then (done (l ∷ ls)) rest = line_text l ++ rest
text_then (refused n) rest = []

-- At most `left` steps.
unfoldable pub steps_text : List ℕ → ℕ → Replay → List ℕ
steps_text file zero r = []
steps_text file (suc left) r = text_then (step_answer file r).0 (steps_text file left (step_answer file r).1)

-- The lines of the events in one way or another, or the one line of a refused file.
abbrev pub start_text : (Replay → List ℕ) → Answer (Unit {0}) × Replay → List ℕ
start_text lines (done x, r) = lines r
start_text lines (refused n, r) = bad_text n

-- The same of a caller who fills a room again and again and prints what is filled: `calls` at most.
unfoldable pub pages_text : List ℕ → List ℕ → ℕ → Replay → List ℕ
pages_text file room zero r = []
pages_text file room (suc calls) r =
    take (fill_answer file r room).0.used (fill_answer file r room).1
    ++ cond (fill_answer file r room).0.ended [] (pages_text file (fill_answer file r room).1 calls (fill_answer file r room).0.replay)
