-- Equal numbers and values mean equal answers: each answer is read back from them.
use Rattle.std.specs.Prelude.{ℕ, Bool, true, false, cond, List, [], ◌∷◌, ◌≡◌, eqb}
use Rattle.std.proofs.Math.Path.{refl}
use Rattle.std.proofs.Common.{ap, sym, ◌∙◌}
use Rattle.seq.specs.declared.SeqNum.{SeqNum}
use Rattle.recv.specs.Numbers.{number_of, of_creation, of_writing, of_told, of_count, of_truth, of_number}
use Rattle.recv.specs.declared.Creation.{Creation}
use Rattle.recv.specs.declared.Creation.TheVariants.{Made, Refused as creation-refused}
use Rattle.recv.specs.declared.Refusal.{Refusal}
use Rattle.recv.specs.declared.Refusal.TheVariants.{NoRoom, BadSetting, TooMany, TooFarAhead, PayloadTooLong, OtherLength, NotSound}
use Rattle.recv.specs.declared.Told.{Told}
use Rattle.recv.specs.declared.Told.TheVariants.{Is, Refused as told-refused}
use Rattle.recv.specs.declared.Writing.{Writing}
use Rattle.recv.specs.declared.Writing.TheVariants.{Stored, AlreadyThere, Refused as writing-refused}

-- what can be read back is one-to-one
module _ {A B : Type 0} (f : A → B) (back : B → A) (reads : (a : A) → back (f a) ≡ a) where
  one_to_one : (a a' : A) → f a ≡ f a' → a ≡ a'
  one_to_one a a' e = sym (reads a) ∙ ap back e ∙ reads a'

refusal : ℕ → Refusal
refusal n =
    cond (eqb n 9) NoRoom
    (cond (eqb n 10) BadSetting
    (cond (eqb n 15) TooMany
    (cond (eqb n 16) TooFarAhead
    (cond (eqb n 17) PayloadTooLong
    (cond (eqb n 18) OtherLength NotSound)))))

refusal_back : (why : Refusal) → refusal (number_of why) ≡ why
unfolding refusal
refusal_back NoRoom = refl
refusal_back BadSetting = refl
refusal_back TooMany = refl
refusal_back TooFarAhead = refl
refusal_back PayloadTooLong = refl
refusal_back OtherLength = refl
refusal_back NotSound = refl

pub number_of_one_to_one : (a b : Refusal) → number_of a ≡ number_of b → a ≡ b
number_of_one_to_one = one_to_one number_of refusal refusal_back

-- an answer from its number and values: `done` where a value comes with it, else a refusal
module _ {A : Type 0} (done : ℕ → A) (none : A) (refused : Refusal → A) where
  answer : List ℕ → A
  answer [] = none
  answer (n ∷ []) = cond (eqb n 0) none (refused (refusal n))
  answer (n ∷ v ∷ vs) = done v

  refused_back : (why : Refusal) → answer (number_of why ∷ []) ≡ refused why
  unfolding answer refusal
  refused_back NoRoom = refl
  refused_back BadSetting = refl
  refused_back TooMany = refl
  refused_back TooFarAhead = refl
  refused_back PayloadTooLong = refl
  refused_back OtherLength = refl
  refused_back NotSound = refl

pub of_creation_one_to_one : (a b : Creation) → of_creation a ≡ of_creation b → a ≡ b
unfolding answer
of_creation_one_to_one = one_to_one of_creation (answer (λ v. Made) Made creation-refused) back
  where
    back : (a : Creation) → answer (λ v. Made) Made creation-refused (of_creation a) ≡ a
    back Made = refl
    back (creation-refused why) = refused_back (λ v. Made) Made creation-refused why

pub of_writing_one_to_one : (a b : Writing) → of_writing a ≡ of_writing b → a ≡ b
unfolding answer
of_writing_one_to_one = one_to_one of_writing (answer pick Stored writing-refused) back
  where
    pick : ℕ → Writing
    pick v = cond (eqb v 1) Stored AlreadyThere

    back : (a : Writing) → answer pick Stored writing-refused (of_writing a) ≡ a
    back Stored = refl
    back AlreadyThere = refl
    back (writing-refused why) = refused_back pick Stored writing-refused why

-- of any type, where each value is read back from its number
module _ {A : Type 0} (value : A → ℕ) (from : ℕ → A) (reads : (a : A) → from (value a) ≡ a) where
  pub of_told_one_to_one : (a b : Told A) → of_told value a ≡ of_told value b → a ≡ b
  unfolding answer
  of_told_one_to_one = one_to_one (of_told value) (answer (λ v. Is (from v)) (Is (from 0)) told-refused) back
    where
      back : (a : Told A) → answer (λ v. Is (from v)) (Is (from 0)) told-refused (of_told value a) ≡ a
      back (Is a) = ap Is (reads a)
      back (told-refused why) = refused_back (λ v. Is (from v)) (Is (from 0)) told-refused why

pub of_count_one_to_one : (a b : Told ℕ) → of_count a ≡ of_count b → a ≡ b
of_count_one_to_one = of_told_one_to_one (λ n. n) (λ v. v) (λ n. refl)

pub of_truth_one_to_one : (a b : Told Bool) → of_truth a ≡ of_truth b → a ≡ b
of_truth_one_to_one = of_told_one_to_one (λ b. cond b 1 0) (λ v. eqb v 1) reads
  where
    reads : (b : Bool) → eqb (cond b 1 0) 1 ≡ b
    reads true = refl
    reads false = refl

pub of_number_one_to_one : (a b : Told SeqNum) → of_number a ≡ of_number b → a ≡ b
of_number_one_to_one = of_told_one_to_one (λ n. n.0) (λ v. record { 0 = v }) (λ n. refl)
