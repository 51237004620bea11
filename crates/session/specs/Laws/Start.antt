-- The start of a replay.
use Rattle.std.specs.Prelude.{ℕ, Bool, true, false, not, ◌&&◌, cond, List, ◌≡◌, refl, leb, length, take, drop}
use Rattle.std.proofs.Common.{arith, sym, ap, ap₂, ◌∙◌, le-leb}
use Rattle.std.proofs.lemmas.Bool.{true≢false}
use Rattle.common.specs.Answer.{done, refused}
use Rattle.congestion.specs.declared.settings.Settings.{Settings}
use Rattle.congestion.specs.Settings.{in_range_of}
use Rattle.sent.specs.declared.state.SentPackets.{SentPackets}
use Rattle.sent.specs.State.{new_answer}
use Rattle.session.specs.declared.check.Layout.{Layout}
use Rattle.session.specs.Format.{field_at, settings_in}
use Rattle.session.specs.Lines.{seq}
use Rattle.session.specs.Check.{check_of}
use Rattle.session.specs.Replay.{verdict_of, no_replay, began_at, start_of, start_answer}
use Rattle.session.specs.Laws.Session.{whole_session, check_facts, check_none}

-- ---- 20, then 10

pub verdict_setting : (s r : Bool) → (s && not r) ≡ true → refused 10 ≡ verdict_of s r
verdict_setting true true e = absurd (true≢false (sym e))
verdict_setting true false e = refl
verdict_setting false r e = absurd (true≢false (sym e))

pub verdict_none : (s r : Bool) → s ≡ false → refused 20 ≡ verdict_of s r
verdict_none s r e = sym (ap (λ (b : Bool). cond b (cond r (done tt) (refused 10)) (refused 20)) e)

pub verdict_ready : (s r : Bool) → (s && not r) ≡ false → s ≡ true → done tt ≡ verdict_of s r
verdict_ready true true e h = refl
verdict_ready true false e h = absurd (true≢false e)
verdict_ready false r e h = absurd (true≢false (sym h))

-- ---- all of it

-- 20.
pub start_none : (file : List ℕ) → refused 20 ≡ check_of file → (refused 20, no_replay) ≡ start_answer file
unfolding start_answer
start_none file e = ap (start_of file) (sym (check_none file e))

-- A session, with its settings' verdict.
pub start_there : (file : List ℕ) (l : Layout) (in_range : Bool) → done l ≡ check_of file → in_range ≡ (leb 68 (length file) && in_range_of (settings_in (take 64 (drop 4 file))))
    → (verdict_of true in_range, began_at l (new_answer (seq (field_at file 4 8)) (settings_in (take 64 (drop 4 file)))).1) ≡ start_answer file
unfolding start_answer
start_there file l in_range e r =
    let f = check_facts file l e in
    let w = f.0 in
    let fits : leb 68 (length file) ≡ true = le-leb 68 (length file) (omega (arith, w.filled)) in
    let range : in_range ≡ in_range_of (settings_in (take 64 (drop 4 file))) = r ∙ ap (λ (b : Bool). b && in_range_of (settings_in (take 64 (drop 4 file)))) fits in
    ap₂ (λ (b : Bool) (x : Layout). (verdict_of true b, began_at x (new_answer (seq (field_at file 4 8)) (settings_in (take 64 (drop 4 file)))).1)) range f.1
    ∙ sym (ap (start_of file) (whole_session file w))

-- A session is answered by its settings, and its replay stands before its first event.
module _ (file : List ℕ) (l : Layout) (settings : Settings) (in_range : Bool) (there : done l ≡ check_of file) (read : settings ≡ settings_in (take 64 (drop 4 file)))
    (range : in_range ≡ in_range_of settings) where
  in_file : in_range ≡ (leb 68 (length file) && in_range_of (settings_in (take 64 (drop 4 file))))
  in_file =
      let w = (check_facts file l there).0 in
      let fits : leb 68 (length file) ≡ true = le-leb 68 (length file) (omega (arith, w.filled)) in
      range ∙ (ap in_range_of read ∙ sym (ap (λ (b : Bool). b && in_range_of (settings_in (take 64 (drop 4 file)))) fits))

  pub start_with : (b : Bool) (initial : ℕ) (state : SentPackets) → in_range ≡ b → initial ≡ field_at file 4 8 → state ≡ (new_answer (seq initial) settings).1
      → (verdict_of true b, began_at l state) ≡ start_answer file
  start_with b initial state e i s =
      ap (λ (x : SentPackets). (verdict_of true b, began_at l x)) (s ∙ ap₂ (λ (n : ℕ) (x : Settings). (new_answer (seq n) x).1) i read)
      ∙ start_there file l b there (sym e ∙ in_file)
