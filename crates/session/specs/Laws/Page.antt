-- Filling a room: the cases of a turn.
use Rattle.std.specs.Prelude.{ℕ, zero, suc, ◌+◌, ◌-◌, ◌≤◌, ◌<◌, Bool, true, false, not, ◌&&◌, cond, ◌≡◌, refl, leb, length, Option, Some, None, Result, Ok, Err}
use Rattle.std.proofs.Common.{arith, sym, ◌∙◌}
use Rattle.std.specs.Option.{option_flatten}
use Rattle.std.specs.Result.{result_ok}
use Rattle.std.proofs.lemmas.Option.{none-some}
use mathlib.Core.List.{List}
use Rattle.std.proofs.Math.Path.{ap, ap₂}
use Rattle.std.proofs.Math.Bool.{and-false}
use Rattle.common.specs.Answer.{Answer}
use Rattle.common.specs.Laws.Put.{put}
use Rattle.session.specs.declared.line.Line.{Line}
use Rattle.session.specs.declared.replay.Replay.{Replay}
use Rattle.session.specs.declared.replay.StepReason.{StepReason}
use Rattle.session.specs.declared.replay.Filled.{Filled}
use Rattle.session.specs.Lines.{line_text}
use Rattle.session.specs.Replay.{told_of, step_answer, turn_of, turns_of}

told_line : (told : Result (Option Line) StepReason) (line : Line) → option_flatten (result_ok told) ≡ Some line → told ≡ Ok (Some line)
told_line (Ok o) line e = ap (λ (x : Option Line). Ok x) e
told_line (Err reason) line e = absurd (none-some line e)

module _ (room : List ℕ) (used : ℕ) (told : Result (Option Line) StepReason) (next : Replay) (p : Answer (List Line) × Replay) (is : (told_of told, next) ≡ p) where
  pub turn_line : (line : Line) (u : ℕ) (r : List ℕ) → told ≡ Ok (Some line) → u ≡ used + length (line_text line) → r ≡ put room used (line_text line)
      → (record { used = u; ended = false; replay = next }, r) ≡ turn_of room used p
  unfolding turn_of
  turn_line line u r t e h =
      ap₂ (λ (n : ℕ) (l : List ℕ). (record { used = n; ended = false; replay = next }, l)) e h
      ∙ (ap (λ (x : Result (Option Line) StepReason). turn_of room used (told_of x, next)) (sym t) ∙ ap (turn_of room used) is)

  pub turn_ended : told ≡ Ok None → (record { used = used; ended = true; replay = next }, room) ≡ turn_of room used p
  unfolding turn_of
  turn_ended t = ap (λ (x : Result (Option Line) StepReason). turn_of room used (told_of x, next)) (sym t) ∙ ap (turn_of room used) is

  pub turn_refused : (reason : StepReason) → told ≡ Err reason → (record { used = used; ended = true; replay = next }, room) ≡ turn_of room used p
  unfolding turn_of
  turn_refused reason t = ap (λ (x : Result (Option Line) StepReason). turn_of room used (told_of x, next)) (sym t) ∙ ap (turn_of room used) is

  -- By the line alone: none is told at the end, and none with a refusal.
  pub turn_some : (line : Line) (u : ℕ) (r : List ℕ) → option_flatten (result_ok told) ≡ Some line → u ≡ used + length (line_text line) → r ≡ put room used (line_text line)
      → (record { used = u; ended = false; replay = next }, r) ≡ turn_of room used p
  turn_some line u r t e h = turn_line line u r (told_line told line t) e h

  pub turn_none : option_flatten (result_ok told) ≡ None → (record { used = used; ended = true; replay = next }, room) ≡ turn_of room used p
  turn_none t = by_told told refl
    where
      by_told : (x : Result (Option Line) StepReason) → told ≡ x → (record { used = used; ended = true; replay = next }, room) ≡ turn_of room used p
      by_told (Ok None) q = turn_ended q
      by_told (Ok (Some line)) q = absurd (none-some line (sym t ∙ ap (λ (x : Result (Option Line) StepReason). option_flatten (result_ok x)) q))
      by_told (Err reason) q = turn_refused reason q

-- ---- turns one after another

abbrev pub goes_on : Filled × List ℕ → Bool
goes_on p = leb (p.0.used + 126) (length p.1) && not p.0.ended

pub stops_ended : (p : Filled × List ℕ) → p.0.ended ≡ true → goes_on p ≡ false
stops_ended p e = ap (λ (b : Bool). leb (p.0.used + 126) (length p.1) && not b) e ∙ and-false (leb (p.0.used + 126) (length p.1))

pub stops_full : (p : Filled × List ℕ) → leb (p.0.used + 126) (length p.1) ≡ false → goes_on p ≡ false
stops_full p e = ap (λ (b : Bool). b && not p.0.ended) e

pub goes : (p : Filled × List ℕ) → leb (p.0.used + 126) (length p.1) ≡ true → p.0.ended ≡ false → goes_on p ≡ true
goes p e f = ap₂ (λ (a b : Bool). a && not b) e f

pub turns_all : (file : List ℕ) (n : ℕ) (p : Filled × List ℕ) → turns_of file n p ≡ turns_of file (n - 0) p
turns_all file n p = let all : n ≡ n - 0 = omega arith in ap (λ (k : ℕ). turns_of file k p) all

pub turns_stop : (file : List ℕ) (k : ℕ) (p : Filled × List ℕ) → goes_on p ≡ false → turns_of file k p ≡ p
unfolding turns_of
turns_stop file zero p e = refl
turns_stop file (suc k) p e = ap (λ (b : Bool). cond b (turns_of file k (turn_of p.1 p.0.used (step_answer file p.0.replay))) p) e

pub turns_none : (file : List ℕ) (n i : ℕ) (p : Filled × List ℕ) → n ≤ i → turns_of file (n - i) p ≡ p
unfolding turns_of
turns_none file n i p h = let none : n - i ≡ 0 = omega arith in ap (λ (k : ℕ). turns_of file k p) none

pub turns_next : (file : List ℕ) (n i : ℕ) (p q : Filled × List ℕ) → i < n → goes_on p ≡ true → q ≡ turn_of p.1 p.0.used (step_answer file p.0.replay)
    → turns_of file (n - i) p ≡ turns_of file (n - (i + 1)) q
unfolding turns_of
turns_next file n i p q h e t =
    let one : n - i ≡ suc (n - (i + 1)) = omega arith in
    ap (λ (k : ℕ). turns_of file k p) one
    ∙ (ap (λ (b : Bool). cond b (turns_of file (n - (i + 1)) (turn_of p.1 p.0.used (step_answer file p.0.replay))) p) e ∙ ap (turns_of file (n - (i + 1))) (sym t))
