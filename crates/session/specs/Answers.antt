-- Each case of each answer by its number, with its values. The promises use these; Laws.OneToOne shows that no two answers have the same number and values.
-- Definitions only.
use Rattle.std.specs.Prelude.{ℕ, ◌+◌, cond, List, [], ◌∷◌, ◌++◌, leb, length, Result, Ok, Err}
use Rattle.common.specs.Answer.{Answer, done, refused}
use Rattle.common.specs.Laws.Put.{put}
use Rattle.session.specs.declared.line.Bad.{Bad}
use Rattle.session.specs.declared.line.Bad.TheVariants.{BadSession, BadSetting}
use Rattle.session.specs.declared.replay.StepReason.{StepReason}
use Rattle.session.specs.declared.replay.StepReason.TheVariants.{BadSession as StepBad, NotSound}
use Rattle.session.specs.declared.line.NoRoom.{NoRoom}
use Rattle.session.specs.Lines.{decimal, space}

-- ---- writing text

abbrev pub written : Result ℕ NoRoom → Answer ℕ
written (Ok at) = done at
written (Err e) = refused 9

-- The longest line: six numbers of 20 digits, with a character behind each.
abbrev pub longest : ℕ
longest = 126

-- Two numbers with a space between them and a character behind them, for the function that writes a part of a line.
unfoldable pub pair_text : ℕ → ℕ → ℕ → List ℕ
pair_text n m end = decimal n ++ (space ∷ (decimal m ++ (end ∷ [])))

-- A text goes into the room from a place on, and all the rest of the room is left as it was. 9: there is not room for the longest line.
unfoldable pub wrote_of : List ℕ → ℕ → List ℕ → Answer ℕ × List ℕ
wrote_of room at text = cond (leb (at + longest) (length room)) (done (at + length text), put room at text) (refused 9, room)

-- ---- a refused file

abbrev pub bad_number : Bad → ℕ
bad_number BadSession = 20
bad_number BadSetting = 10

-- ---- a refused step

abbrev pub step_number : StepReason → ℕ
step_number StepBad = 20
step_number NotSound = 19
