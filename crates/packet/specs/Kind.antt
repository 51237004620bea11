-- The types of packets (document 01, "Packets on the wire"; BEP 29 facts, section 1). Definitions only.
use Rattle.std.specs.Prelude.{ℕ, suc, zero, cond, ltb}
use Rattle.common.specs.Answer.{Answer, done, refused}
use Rattle.packet.specs.declared.kind.PacketType.{PacketType}
use Rattle.packet.specs.declared.kind.PacketType.TheVariants.{Data, Fin, State, Reset, Syn}

-- Types: Data 0, Fin 1, State 2, Reset 3, Syn 4.
abbrev pub type_number : PacketType → ℕ
type_number Data = 0
type_number Fin = 1
type_number State = 2
type_number Reset = 3
type_number Syn = 4

-- The type of a number up to 4.
abbrev pub type_of : ℕ → PacketType
type_of zero = Data
type_of (suc zero) = Fin
type_of (suc (suc zero)) = State
type_of (suc (suc (suc zero))) = Reset
type_of (suc (suc (suc (suc n)))) = Syn

-- 2: a packet type above 4.
abbrev pub type_answer : ℕ → Answer PacketType
type_answer n = cond (ltb 4 n) (refused 2) (done (type_of n))
