-- What a type's number tells.
use Rattle.std.specs.Prelude.{ℕ, zero, suc, ◌≤◌, Bool, true, false, cond, ◌≡◌, refl, ltb}
use Rattle.std.proofs.Common.{arith}
use Rattle.common.specs.Answer.{done, refused}
use Rattle.packet.specs.Kind.{type_number, type_of, type_answer}
use Rattle.packet.specs.declared.kind.PacketType.{PacketType}
use Rattle.packet.specs.declared.kind.PacketType.TheVariants.{Data, Fin, State, Reset, Syn}

-- What reading a type's number tells.
pub type_unknown : (n : ℕ) → refused 2 ≡ type_answer n → ltb 4 n ≡ true
type_unknown n = go (ltb 4 n)
  where
    go : (b : Bool) → refused 2 ≡ cond b (refused 2) (done (type_of n)) → b ≡ true
    go true e = refl
    go false e = let z : ◌≡◌ {A = ℕ} 0 1 = cc in absurd (omega arith)

pub type_known : (n : ℕ) (t : PacketType) → done t ≡ type_answer n → (ltb 4 n ≡ false) × (t ≡ type_of n)
type_known n t = go (ltb 4 n)
  where
    go : (b : Bool) → done t ≡ cond b (refused 2) (done (type_of n)) → (b ≡ false) × (t ≡ type_of n)
    go true e = let z : ◌≡◌ {A = ℕ} 0 1 = cc in absurd (omega arith)
    go false e = (refl, cc)

pub type_small : (t : PacketType) → type_number t ≤ 4
type_small Data = omega arith
type_small Fin = omega arith
type_small State = omega arith
type_small Reset = omega arith
type_small Syn = omega arith

-- A type has one number, and a number up to 4 one type.
pub type_back : (t : PacketType) → type_of (type_number t) ≡ t
type_back Data = refl
type_back Fin = refl
type_back State = refl
type_back Reset = refl
type_back Syn = refl

pub number_back : (n : ℕ) → n ≤ 4 → type_number (type_of n) ≡ n
number_back zero h = refl
number_back (suc zero) h = refl
number_back (suc (suc zero)) h = refl
number_back (suc (suc (suc zero))) h = refl
number_back (suc (suc (suc (suc zero)))) h = refl
number_back (suc (suc (suc (suc (suc n))))) h = absurd (omega arith)
