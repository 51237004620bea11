-- What is printed for a file by the library's functions, one call after the other, is what the document says: `replay_printed`.
use Rattle.std.specs.Prelude.{ℕ, zero, suc, ◌+◌, ◌*◌, ◌-◌, ◌≤◌, ◌<◌, Bool, true, false, ◌&&◌, ◌≡◌, ltb, length, take, drop}
use Rattle.std.proofs.Common.{arith, ◌∙◌, length-drop, drop-drop, le-leb, ltb-true, ltb-false, ne_eqb}
use Rattle.std.proofs.Math.Bool.{cond}
use mathlib.Core.List.{List, [], ◌∷◌, ◌++◌}
use Rattle.std.proofs.Math.Path.{refl, sym, ap, ap₂, subst}
use Rattle.common.specs.Answer.{Answer, done, refused}
use Rattle.congestion.specs.declared.settings.Settings.{Settings}
use Rattle.congestion.specs.declared.numbers.Numbers.{Numbers}
use Rattle.congestion.specs.Settings.{in_range_of}
use Rattle.congestion.specs.Numbers.{start_of, no_numbers, new_of}
use Rattle.controller.specs.Delays.{no_delays}
use Rattle.congestion.specs.Laws.Numbers.{both}
use Rattle.sent.specs.declared.state.SentPackets.{SentPackets}
use Rattle.outgoing.specs.Tracker.{Tracker}
use Rattle.outgoing.specs.Read.{lost_count_in}
use Rattle.sent.specs.State as State
use Rattle.sent.specs.State.{tracker_of, new_answer}
use Rattle.sent.specs.Laws.Sound.{sound_answered}
use Rattle.sent.specs.Laws.Reached.{Reached, fresh, reached_sound}
use Rattle.session.specs.declared.event.Event.{Event}
use Rattle.session.specs.declared.line.Line.{Line}
use Rattle.session.specs.declared.replay.Replay.{Replay}
use Rattle.session.specs.Format.{◌into◌, event_of, events_of, is_known, all_known, sack_size, sack_total, Session, session_of}
use Rattle.session.specs.Lines.{seq, number_of, tracker_after, event_answer, line_text, line_of, lines_from, fresh_of, lines_of, lines_text, text_of_answer, printed}
use Rattle.session.specs.Replay.{value_or, began_of, start_of as begin_of, start_answer, event_at, event_state, shown_of, behind_of, taken_of, step_answer, text_then, steps_text, start_text}
use Rattle.session.specs.Laws.Event.{events_peel, events_none, events_all, events_length}
use Rattle.session.specs.Laws.Session.{done_one, Whole, count_in, events_in, placed, whole_session, session_whole}
use Rattle.session.specs.Laws.Step.{event_there, step_ended, step_event}
use Rattle.session.specs.Laws.Tracked.{Tracks, event_tracks}

-- ---- a line

-- What is shown of a sound tracker in the state is the document's line.
shown_line : (index answer : ℕ) (s : SentPackets) → Reached s → shown_of index answer s ≡ line_of index answer (tracker_of s)
shown_line index answer s r =
    ap (λ (a : Answer ℕ). record { index = index; answer = answer; in_flight = s.numbers.in_flight; maximum = s.numbers.maximum; timeout = s.numbers.timeout; lost = value_or 0 a })
    (sound_answered s (done (lost_count_in (tracker_of s))) (reached_sound r))

-- ---- an event

-- A known event with its SACK bytes in the file is taken, and its line is the document's.
module _ (file : List ℕ) (r : Replay) (e : Event) (before : r.index < r.count) (there : done e ≡ event_at file r.index) (fits : r.sack_at + sack_size e ≤ length file) (reached : Reached r.state) where
  abbrev pub sack : List ℕ
  sack = take (sack_size e) (drop r.sack_at file)

  abbrev pub answer : Answer Tracker
  answer = event_answer (tracker_of r.state) r.index e sack

  abbrev pub next : SentPackets
  next = (event_state r.state r.index e sack).1

  pub tracks : Tracks (tracker_of r.state) answer (event_state r.state r.index e sack)
  tracks = event_tracks r.state r.index e sack reached

  pub step_is : step_answer file r ≡ (done (line_of r.index (number_of answer) (tracker_after (tracker_of r.state) answer) ∷ []), behind_of r e next)
  unfolding taken_of
  step_is =
      let p = event_state r.state r.index e sack in
      let t = tracks in
      sym (step_event file r before (done e) there)
      ∙ (ap (λ (b : Bool). cond b (taken_of r e sack) (refused 20, r)) (le-leb (r.sack_at + sack_size e) (length file) fits)
      ∙ (ap (λ (b : Bool). cond b (refused 19, r) (done (shown_of r.index (number_of p.0) p.1 ∷ []), behind_of r e p.1))
      (ne_eqb (number_of p.0) 19 (λ q. t.not_19 (sym t.number ∙ q)))
      ∙ (ap (λ (l : Line). (done (l ∷ []), behind_of r e next)) (shown_line r.index (number_of p.0) p.1 t.reached)
      ∙ ap₂ (λ (n : ℕ) (u : Tracker). (done (line_of r.index n u ∷ []), behind_of r e next)) t.number t.tracker)))

-- ---- all the steps

-- A replay that stands at an event of a whole file, or behind the last.
pub record Stands (file : List ℕ) (r : Replay) : Type 0 where
  pub counts : r.count ≡ count_in file
  pub to : r.index ≤ count_in file
  pub reached : Reached r.state
  pub known : all_known (events_of (count_in file - r.index) (drop (72 + 24 * r.index) file)) ≡ true
  pub left : r.sack_at + sack_total (events_of (count_in file - r.index) (drop (72 + 24 * r.index) file)) ≡ length file

-- The lines that the document prints from there on.
abbrev pub lines_at : List ℕ → Replay → List Event → List ℕ
lines_at file r es = lines_text (lines_from r.index (tracker_of r.state) es (drop r.sack_at file))

-- All of them.
abbrev pub rest_of : List ℕ → Replay → List ℕ
rest_of file r = lines_at file r (events_of (count_in file - r.index) (drop (72 + 24 * r.index) file))

pub ended-printed : (file : List ℕ) (r : Replay) → count_in file ≤ r.index → r.index ≤ count_in file → [] ≡ rest_of file r
unfolding lines_from lines_text
ended-printed file r h to =
    let all : count_in file ≡ r.index = omega (arith, h, to) in
    sym (ap (lines_at file r) (events_none (count_in file) r.index (drop (72 + 24 * r.index) file) all))

-- One event is taken, and the rest are printed as the document says.
module _ (file : List ℕ) (long : 76 + 24 * count_in file ≤ length file) (r : Replay) (s : Stands file r) (before : r.index < count_in file) where
  abbrev pub event : Event
  event = event_of (drop (72 + 24 * r.index) file)

  abbrev pub others : List Event
  others = events_of (count_in file - (r.index + 1)) (drop (72 + 24 * (r.index + 1)) file)

  pub peeled : events_of (count_in file - r.index) (drop (72 + 24 * r.index) file) ≡ event ∷ others
  peeled = events_peel (count_in file) r.index file before

  pub knowns : (is_known event && all_known others) ≡ true
  unfolding all_known
  knowns = sym (ap all_known peeled) ∙ s.known

  pub total : r.sack_at + (sack_size event + sack_total others) ≡ length file
  unfolding sack_total
  total = sym (ap (λ (es : List Event). r.sack_at + sack_total es) peeled) ∙ s.left

  pub there : done event ≡ event_at file r.index
  there = event_there file r.index (is_known event) event (omega (arith, long, before)) refl refl (both (is_known event) (all_known others) knowns).0

  abbrev pub after : Replay
  after = behind_of r event (next file r event (omega (arith, before, s.counts)) there (omega (arith, total)) s.reached)

  pub next_stands : Stands file after
  next_stands =
      record {
        counts = s.counts;
        to = omega (arith, before);
        reached = (tracks file r event (omega (arith, before, s.counts)) there (omega (arith, total)) s.reached).reached;
        known = (both (is_known event) (all_known others) knowns).1;
        left = omega (arith, total);
      }

  pub stepped : step_answer file r
      ≡ (
        done (line_of r.index (number_of (answer file r event (omega (arith, before, s.counts)) there (omega (arith, total)) s.reached))
            (tracker_after (tracker_of r.state) (answer file r event (omega (arith, before, s.counts)) there (omega (arith, total)) s.reached)) ∷ []),
        after,
      )
  stepped = step_is file r event (omega (arith, before, s.counts)) there (omega (arith, total)) s.reached

  pub one-printed : (rest : List ℕ) → rest ≡ lines_at file after others → text_then (step_answer file r).0 rest ≡ lines_at file r (events_of (count_in file - r.index) (drop (72 + 24 * r.index) file))
  unfolding lines_from lines_text
  one-printed rest e =
      let a = answer file r event (omega (arith, before, s.counts)) there (omega (arith, total)) s.reached in
      let t = tracks file r event (omega (arith, before, s.counts)) there (omega (arith, total)) s.reached in
      let l = line_of r.index (number_of a) (tracker_after (tracker_of r.state) a) in
      ap (λ (p : Answer (List Line) × Replay). text_then p.0 rest) stepped
      ∙ (ap (λ (x : List ℕ). line_text l ++ x) e
      ∙ (ap₂ (λ (u : Tracker) (x : List ℕ). line_text l ++ lines_text (lines_from (r.index + 1) u others x)) t.tracker (sym (drop-drop (sack_size event) r.sack_at file))
      ∙ sym (ap (lines_at file r) peeled)))

pub steps_printed : (file : List ℕ) → 76 + 24 * count_in file ≤ length file → (steps : ℕ) (r : Replay) → count_in file - r.index ≤ steps → Stands file r
    → steps_text file steps r ≡ rest_of file r
unfolding steps_text
steps_printed file long zero r few s = ended-printed file r (omega (arith, few, s.to)) s.to
steps_printed file long (suc steps) r few s = by_test (λ x few' s'. steps_printed file long steps x few' s') (ltb r.index (count_in file)) refl
  where
    by_test : ((x : Replay) → count_in file - x.index ≤ steps → Stands file x → steps_text file steps x ≡ lines_at file x (events_of (count_in file - x.index) (drop (72 + 24 * x.index) file)))
        → (b : Bool) → ltb r.index (count_in file) ≡ b
        → text_then (step_answer file r).0 (steps_text file steps (step_answer file r).1) ≡ lines_at file r (events_of (count_in file - r.index) (drop (72 + 24 * r.index) file))
    by_test rest true e =
        let h : r.index < count_in file = ltb-true r.index (count_in file) e in
        ap (λ (p : Answer (List Line) × Replay). text_then (step_answer file r).0 (steps_text file steps p.1)) (stepped file long r s h)
        ∙ one-printed file long r s h (steps_text file steps (after file long r s h)) (rest (after file long r s h) (omega (arith, few, h)) (next_stands file long r s h))
    by_test rest false e =
        let h : count_in file ≤ r.index = ltb-false r.index (count_in file) e in
        ap (λ (p : Answer (List Line) × Replay). text_then p.0 (steps_text file steps p.1)) (sym (step_ended file r (omega (arith, h, s.counts)))) ∙ ended-printed file r h s.to

-- ---- from the start

-- A session that is begun stands at its first event.
pub begun_stands : (file : List ℕ) → Whole file → in_range_of (placed file).settings ≡ true → Stands file (began_of file (placed file))
begun_stands file w e =
    let n = count_in file in
    let all = events_all n file in
    record {
      counts = events_length n (drop 72 file);
      to = omega arith;
      reached = fresh (seq (placed file).initial) (placed file).settings e;
      known = ap all_known all ∙ w.known;
      left = omega (arith, ap sack_total all, w.total, w.filled, length-drop (76 + 24 * n) file);
    }

-- The fresh tracker is the document's.
pub fresh_tracker : (initial : ℕ) (settings : Settings) → in_range_of settings ≡ true → fresh_of initial settings ≡ done (tracker_of (State.fresh_of (seq initial) settings))
unfolding fresh_of
fresh_tracker initial settings e =
    let n : new_of settings ≡ start_of settings = ap (λ (t : Bool). cond t (start_of settings) no_numbers) e in
    ap (λ (t : Bool). cond t (done (record { initial = seq initial; sent = 0; packets = []; numbers = start_of settings; delays = no_delays })) (refused 10)) e
    ∙ ap (λ (m : Numbers). done (record { initial = seq initial; sent = 0; packets = []; numbers = m; delays = no_delays })) (sym n)

pub fresh_none : (initial : ℕ) (settings : Settings) → in_range_of settings ≡ false → fresh_of initial settings ≡ refused 10
unfolding fresh_of
fresh_none initial settings e =
    ap (λ (t : Bool). cond t (done (record { initial = seq initial; sent = 0; packets = []; numbers = start_of settings; delays = no_delays })) (refused 10)) e

-- The lines of a session whose settings are known to be in range or not.
abbrev pub session_lines : Session → Answer (List Line)
session_lines s = fresh_of s.initial s.settings into λ t. done (lines_from 0 t s.events s.sack)

-- The lines from the first event on.
begun_printed : (file : List ℕ) (w : Whole file) → in_range_of (placed file).settings ≡ true → rest_of file (began_of file (placed file)) ≡ text_of_answer (session_lines (placed file))
begun_printed file w e =
    let r = began_of file (placed file) in
    let n = count_in file in
    let place : r.sack_at ≡ 76 + 24 * n = omega (arith, w.filled, length-drop (76 + 24 * n) file) in
    ap (lines_at file r) (events_all n file)
    ∙ (ap (λ (p : ℕ). lines_text (lines_from 0 (tracker_of r.state) (events_in file) (drop p file))) place
    ∙ sym (ap (λ (a : Answer Tracker). text_of_answer (a into λ t. done (lines_from 0 t (placed file).events (placed file).sack))) (fresh_tracker (placed file).initial (placed file).settings e)))

-- Whatever prints the lines of a session that is begun prints, over a file's start, all that the document prints.
module _ (file : List ℕ) (lines : Replay → List ℕ) where
  abbrev Prints : Replay → Type 0
  Prints r = 76 + 24 * count_in file ≤ length file → Stands file r → lines r ≡ rest_of file r

  whole-printed : Whole file → Prints (began_of file (placed file))
      → start_text lines ((new_answer (seq (placed file).initial) (placed file).settings).0, began_of file (placed file)) ≡ text_of_answer (session_lines (placed file))
  whole-printed w p = by_range (in_range_of (placed file).settings) refl
    where
      by_range : (b : Bool) → in_range_of (placed file).settings ≡ b
          → start_text lines (cond b (done tt) (refused 10), began_of file (placed file)) ≡ text_of_answer (session_lines (placed file))
      by_range true e = p (omega (arith, w.filled)) (begun_stands file w e) ∙ begun_printed file w e
      by_range false e =
          sym (ap (λ (a : Answer Tracker). text_of_answer (a into λ t. done (lines_from 0 t (placed file).events (placed file).sack))) (fresh_none (placed file).initial (placed file).settings e))

  pub start-printed : (76 + 24 * count_in file ≤ length file → Stands file (start_answer file).1 → lines (start_answer file).1 ≡ rest_of file (start_answer file).1)
      → start_text lines (start_answer file) ≡ printed file
  unfolding start_answer printed lines_of
  start-printed p = by_answer (session_of file) refl p
    where
      by_answer : (a : Answer Session) → session_of file ≡ a → Prints (begin_of file a).1 → start_text lines (begin_of file a) ≡ text_of_answer (a into session_lines)
      by_answer (refused n) q f = refl
      by_answer (done s) q f =
          let w = session_whole file s q in
          let same : placed file ≡ s = done_one (placed file) s (sym (whole_session file w) ∙ q) in
          subst (λ (x : Session). Prints (began_of file x) → start_text lines (begin_of file (done x)) ≡ text_of_answer (session_lines x)) same (λ g. whole-printed w g) f

-- What a caller prints who writes each line that a step tells, and the one line of a refused file, is all that the document prints. As many steps do as there are
-- events; more print nothing more.
pub replay_printed : (file : List ℕ) (steps : ℕ) → (start_answer file).1.count ≤ steps → start_text (steps_text file steps) (start_answer file) ≡ printed file
replay_printed file steps h =
    start-printed file (steps_text file steps) (λ long s. steps_printed file long steps (start_answer file).1 (omega (arith, h, s.counts)) s)
