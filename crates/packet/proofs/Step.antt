-- What a step found, as the definition has it.
use Rattle.std.proofs.Common.{◌≡◌, ℕ, List, Option, Ok, ◌∙◌, sym, ap}
use Rattle.packet.specs.Answers.{stepped}
use Rattle.packet.specs.Chain.{step_of}
use Rattle.packet.specs.declared.extension.Cursor.{Cursor}
use Rattle.packet.specs.declared.extension.Extension.{Extension}

pub found : (d : List ℕ) (c : Cursor) (o o' : Option (Extension × Cursor)) → o ≡ o' → stepped (Ok o) ≡ step_of d c → step_of d c ≡ stepped (Ok o')
found d c o o' e f = sym f ∙ ap (λ (p : Option (Extension × Cursor)). stepped (Ok p)) e
