-- Checks in an order: what a passed one says.
use Rattle.std.specs.Prelude.{◌≡◌, refl, Bool, true, false, cond, ℕ}
use Rattle.std.proofs.Common.{arith}
use Rattle.common.specs.Answer.{Answer, done, refused, ◌then◌}

-- A refusal is not done.
pub never : {A : Type 0} (n : ℕ) (v : A) {B : Type 0} → ◌≡◌ {A = Answer A} (refused n) (done v) → B
never n v e = let z : ◌≡◌ {A = ℕ} 0 1 = cc in absurd (omega arith)

pub then_done : {A B : Type 0} (a : Answer A) (b : Answer B) (v : B) → (a then b) ≡ done v → b ≡ done v
then_done (done x) b v e = e
then_done (refused n) b v e = never n v e

-- a test that has to hold, and one that must not
pub held : {A : Type 0} (t : Bool) (a : Answer A) (n : ℕ) (v : A) → cond t a (refused n) ≡ done v → (t ≡ true) × (a ≡ done v)
held true a n v e = (refl, e)
held false a n v e = never n v e

pub not_held : {A : Type 0} (t : Bool) (a : Answer A) (n : ℕ) (v : A) → cond t (refused n) a ≡ done v → (t ≡ false) × (a ≡ done v)
not_held true a n v e = never n v e
not_held false a n v e = (refl, e)
