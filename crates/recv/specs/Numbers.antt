-- Document 01's number and values for each answer of the receiver: the answer number, then the values that come with it ("Answer numbers"). Definitions only.
use Rattle.std.specs.Prelude.{ℕ, Bool, cond, List, [], ◌∷◌}
use Rattle.seq.specs.declared.SeqNum.{SeqNum}
use Rattle.recv.specs.declared.Creation.{Creation}
use Rattle.recv.specs.declared.Creation.TheVariants.{Made, Refused as creation-refused}
use Rattle.recv.specs.declared.Refusal.{Refusal}
use Rattle.recv.specs.declared.Refusal.TheVariants.{NoRoom, BadSetting, TooMany, TooFarAhead, PayloadTooLong, OtherLength, NotSound}
use Rattle.recv.specs.declared.Told.{Told}
use Rattle.recv.specs.declared.Told.TheVariants.{Is, Refused as told-refused}
use Rattle.recv.specs.declared.Writing.{Writing}
use Rattle.recv.specs.declared.Writing.TheVariants.{Stored, AlreadyThere, Refused as writing-refused}

-- why a call is refused
abbrev pub number_of : Refusal → ℕ
number_of NoRoom = 9
number_of BadSetting = 10
number_of TooMany = 15
number_of TooFarAhead = 16
number_of PayloadTooLong = 17
number_of OtherLength = 18
number_of NotSound = 19

abbrev pub of_creation : Creation → List ℕ
of_creation Made = 0 ∷ []
of_creation (creation-refused why) = number_of why ∷ []

-- "Already there" counts as done with no change: 0 as for a payload that was stored, with how many were stored beside it
abbrev pub of_writing : Writing → List ℕ
of_writing Stored = 0 ∷ 1 ∷ []
of_writing AlreadyThere = 0 ∷ 0 ∷ []
of_writing (writing-refused why) = number_of why ∷ []

-- what is told, by the number that stands for it
abbrev pub of_told : {A : Type 0} → (A → ℕ) → Told A → List ℕ
of_told value (Is a) = 0 ∷ value a ∷ []
of_told value (told-refused why) = number_of why ∷ []

abbrev pub of_count : Told ℕ → List ℕ
of_count = of_told (λ n. n)

abbrev pub of_truth : Told Bool → List ℕ
of_truth = of_told (λ b. cond b 1 0)

abbrev pub of_number : Told SeqNum → List ℕ
of_number = of_told (λ n. n.0)
