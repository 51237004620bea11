-- An answer as document 01 gives it: done, with what is handed over, or refused with its number ("Answer numbers"). Each crate maps the cases of its own enums
-- to this, and its promises speak of the result through that map.
use Rattle.std.specs.Prelude.{ℕ, Result, Ok, Err}

pub data Answer (A : Type 0) : Type 0 where
  done : A → Answer A
  refused : ℕ → Answer A

-- A result, by the numbers of its errors.
abbrev pub answered : {A E : Type 0} → (E → ℕ) → Result A E → Answer A
answered number (Ok a) = done a
answered number (Err e) = refused (number e)

infixr 30 ◌then◌
-- The checks of an order, one after another: the first refusal counts, and where there is none the last answer.
abbrev pub ◌then◌ : {A B : Type 0} → Answer A → Answer B → Answer B
done a then b = b
refused n then b = refused n
