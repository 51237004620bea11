-- The chain of extensions (document 01, "Packets on the wire"; BEP 29 facts, section 2). Definitions only.
use Rattle.std.specs.Prelude.{ℕ, zero, suc, ◌+◌, cond, List, [], ◌∷◌, length, get_or, leb, eqb}
use Rattle.common.specs.Answer.{Answer, done, refused}
use Rattle.packet.specs.declared.extension.Cursor.{Cursor}
use Rattle.packet.specs.declared.extension.Extension.{Extension}
use Rattle.packet.specs.declared.extension.Part.{Part}

-- An extension at a place: the next extension's number, the length, then that many bytes.
abbrev pub extension_at : List ℕ → Cursor → Extension
extension_at d c = record { number = c.number; body = record { at = c.at + 2; len = get_or d (c.at + 1) 0 } }

abbrev pub next_at : List ℕ → Cursor → Cursor
next_at d c = record { number = get_or d c.at 0; at = c.at + 2 + get_or d (c.at + 1) 0 }

-- What a step finds: the end of the chain, or an extension and where the next one stands.
pub data Next : Type 0 where
  ends : Next
  onward : Extension → Cursor → Next

-- Where the current extension is 0 the chain ends. 4: a head or a body that runs past the end of the datagram.
abbrev pub step_of : List ℕ → Cursor → Answer Next
step_of d c =
    cond (eqb c.number 0)
    (done ends)
    (cond (leb (c.at + 2) (length d))
    (cond (leb (c.at + 2 + get_or d (c.at + 1) 0) (length d)) (done (onward (extension_at d c) (next_at d c))) (refused 4))
    (refused 4))

-- A chain from a place on: it runs past the end, or it is a list of extensions, each with its number and its body's place and length, and the
-- place behind the last.
pub data Chain : Type 0 where
  past : Chain
  whole : List Extension → ℕ → Chain

abbrev pub before : Extension → Chain → Chain
before e past = past
before e (whole es at) = whole (e ∷ es) at

-- What a step makes of the chain: it ends here, it runs past the end, or the extension found and then the chain from the next place.
abbrev pub go_on : ℕ → Answer Next → (Cursor → Chain) → Chain
go_on at (done ends) rest = whole [] at
go_on at (done (onward e next)) rest = before e (rest next)
go_on at (refused n) rest = past

-- While the current extension is not 0: one step, and then the chain from there. Each step goes forward by two bytes or more, so one step more than there are
-- bytes is never used up (`chain_step` of Laws.Chain says this with no count of steps).
abbrev pub chain_by : ℕ → List ℕ → Cursor → Chain
chain_by zero d c = past
chain_by (suc steps) d c = go_on c.at (step_of d c) (λ next. chain_by steps d next)

unfoldable pub chain_from : List ℕ → Cursor → Chain
chain_from d c = chain_by (suc (length d)) d c

-- The body of the first extension that is a SACK (number 1); no SACK is a part of no bytes. Unknown ones are stepped over, later SACKs ignored.
abbrev pub none : Part
none = record { at = 0; len = 0 }

pub data Sacked : Type 0 where
  nowhere : Sacked
  inside : Part → Sacked

abbrev pub first_sack : List Extension → Sacked
first_sack [] = nowhere
first_sack (e ∷ es) = cond (eqb e.number 1) (inside e.body) (first_sack es)

-- What is kept of a chain: where it ends, and with it the body of the first SACK where there is one. 4: it runs past the end.
abbrev pub end_of : Chain → Answer ℕ
end_of past = refused 4
end_of (whole es at) = done at

abbrev pub read_of : Chain → Answer (Sacked × ℕ)
read_of past = refused 4
read_of (whole es at) = done (first_sack es, at)
