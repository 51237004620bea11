-- What a C function makes of an answer: its number is what is returned, and a value goes to the caller's memory, which a refusal leaves as it was. Definitions only.
use Rattle.std.specs.Prelude.{ℕ, Bool, cond}
use Rattle.common.specs.Answer.{Answer, done, refused}

-- 0 is done.
abbrev pub number_of : {A : Type 0} → Answer A → ℕ
number_of (done a) = 0
number_of (refused n) = n

-- One number of what is handed over, or what stood there.
abbrev pub part_or : {A : Type 0} → (A → ℕ) → ℕ → Answer A → ℕ
part_or f old (done a) = f a
part_or f old (refused n) = old

abbrev pub value_or : ℕ → Answer ℕ → ℕ
value_or = part_or (λ n. n)

-- A truth is 1 or 0.
abbrev pub bit_of : Bool → ℕ
bit_of b = cond b 1 0
