-- No two answers have the same number and values.
use Rattle.std.specs.Prelude.{ℕ, List, [], ◌∷◌, ◌≡◌, refl, Option, Some, None, Result, Ok, Err}
use Rattle.std.proofs.Common.{arith, sym, ap, ap₂}
use Rattle.common.specs.Answer.{Answer, done, refused}
use Rattle.session.specs.declared.line.Line.{Line}
use Rattle.session.specs.declared.line.Bad.TheVariants.{BadSession, BadSetting}
use Rattle.session.specs.declared.line.Bad.{Bad}
use Rattle.session.specs.declared.line.NoRoom.{NoRoom}
use Rattle.session.specs.declared.replay.Replay.{Replay}
use Rattle.session.specs.declared.replay.Started.{Started}
use Rattle.session.specs.declared.replay.StepReason.{StepReason}
use Rattle.session.specs.declared.replay.StepReason.TheVariants.{BadSession as StepBad, NotSound}
use Rattle.session.specs.declared.replay.Stepped.{Stepped}
use Rattle.session.specs.Answers.{written}
use Rattle.session.specs.Laws.Session.{done_one}
use Rattle.session.specs.Replay.{start_told, started, told_of, stepped}

-- ---- done is not refused, and no number is another

differ : {A B : Type 0} (v : A) (n : ℕ) → ◌≡◌ {A = Answer A} (done v) (refused n) → B
differ v n e = let z : ◌≡◌ {A = ℕ} 0 1 = cc in absurd (omega arith)

number_one : {A : Type 0} (n m : ℕ) → ◌≡◌ {A = Answer A} (refused n) (refused m) → n ≡ m
number_one n m e = cc

-- ---- writing

written_one : (x y : Result ℕ NoRoom) → written x ≡ written y → x ≡ y
written_one (Ok a) (Ok b) e = ap Ok (done_one a b e)
written_one (Ok a) (Err q) e = differ a 9 e
written_one (Err p) (Ok b) e = differ b 9 (sym e)
written_one (Err p) (Err q) e = refl

-- The answer beside the room.
pub wrote_one : (x y : Result ℕ NoRoom × List ℕ) → ◌≡◌ {A = Answer ℕ × List ℕ} (written x.0, x.1) (written y.0, y.1) → x ≡ y
wrote_one x y e =
    ap₂ (λ (w : Result ℕ NoRoom) (l : List ℕ). (w, l)) (written_one x.0 y.0 (ap (λ (p : Answer ℕ × List ℕ). p.0) e)) (ap (λ (p : Answer ℕ × List ℕ). p.1) e)

-- ---- the start

start_one : (x y : Result (Unit {0}) Bad) → start_told x ≡ start_told y → x ≡ y
start_one (Ok s) (Ok t) e = ap Ok (done_one s t e)
start_one (Ok s) (Err BadSession) e = differ s 20 e
start_one (Ok s) (Err BadSetting) e = differ s 10 e
start_one (Err BadSession) (Ok t) e = differ t 20 (sym e)
start_one (Err BadSetting) (Ok t) e = differ t 10 (sym e)
start_one (Err BadSession) (Err BadSession) e = refl
start_one (Err BadSetting) (Err BadSetting) e = refl
start_one (Err BadSession) (Err BadSetting) e = let n = number_one {A = Unit {0}} 20 10 e in absurd (omega (arith, n))
start_one (Err BadSetting) (Err BadSession) e = let n = number_one {A = Unit {0}} 10 20 e in absurd (omega (arith, n))

pub started-one : (x y : Started) → started x ≡ started y → x ≡ y
started-one x y e =
    ap₂ (λ (a : Result (Unit {0}) Bad) (r : Replay). record { answer = a; replay = r }) (start_one x.answer y.answer (ap (λ (p : Answer (Unit {0}) × Replay). p.0) e))
    (ap (λ (p : Answer (Unit {0}) × Replay). p.1) e)

-- ---- a step

cons_one : (x y : Line) → ◌≡◌ {A = List Line} (x ∷ []) (y ∷ []) → x ≡ y
cons_one x y e = cc

never_empty : {B : Type 0} (x : Line) → ◌≡◌ {A = List Line} (x ∷ []) [] → B
never_empty x e = let z : ◌≡◌ {A = ℕ} 0 1 = cc in absurd (omega arith)

told_one : (x y : Result (Option Line) StepReason) → told_of x ≡ told_of y → x ≡ y
told_one (Ok (Some l)) (Ok (Some m)) e = ap (λ (k : Line). Ok (Some k)) (cons_one l m (done_one (l ∷ []) (m ∷ []) e))
told_one (Ok (Some l)) (Ok None) e = never_empty l (done_one (l ∷ []) [] e)
told_one (Ok (Some l)) (Err StepBad) e = differ (l ∷ []) 20 e
told_one (Ok (Some l)) (Err NotSound) e = differ (l ∷ []) 19 e
told_one (Ok None) (Ok (Some m)) e = never_empty m (sym (done_one [] (m ∷ []) e))
told_one (Ok None) (Ok None) e = refl
told_one (Ok None) (Err StepBad) e = differ [] 20 e
told_one (Ok None) (Err NotSound) e = differ [] 19 e
told_one (Err StepBad) (Ok (Some m)) e = differ (m ∷ []) 20 (sym e)
told_one (Err NotSound) (Ok (Some m)) e = differ (m ∷ []) 19 (sym e)
told_one (Err StepBad) (Ok None) e = differ [] 20 (sym e)
told_one (Err NotSound) (Ok None) e = differ [] 19 (sym e)
told_one (Err StepBad) (Err StepBad) e = refl
told_one (Err NotSound) (Err NotSound) e = refl
told_one (Err StepBad) (Err NotSound) e = let n = number_one 20 19 e in absurd (omega (arith, n))
told_one (Err NotSound) (Err StepBad) e = let n = number_one 19 20 e in absurd (omega (arith, n))

pub stepped-one : (x y : Stepped) → stepped x ≡ stepped y → x ≡ y
stepped-one x y e =
    ap₂ (λ (t : Result (Option Line) StepReason) (r : Replay). record { told = t; replay = r }) (told_one x.told y.told (ap (λ (p : Answer (List Line) × Replay). p.0) e))
    (ap (λ (p : Answer (List Line) × Replay). p.1) e)
