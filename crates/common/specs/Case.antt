-- A marked case of document 01: what the definitions compute for its input, and what the document writes, each as a list of numbers.
use Rattle.std.specs.Prelude.{ℕ, List, [], ◌∷◌, ◌++◌, ◌≡◌}
use Prim.Native.String.{String}

pub record Case : Type 0 where
  pub mark : String
  pub found : List ℕ
  pub written : List ℕ

-- Every case of a list comes out as the document writes it.
abbrev pub AllHold : List Case → Type 0
AllHold [] = Unit {0}
AllHold (c ∷ cs) = (c.found ≡ c.written) × AllHold cs

pub all_append : (a b : List Case) → AllHold a → AllHold b → AllHold (a ++ b)
all_append [] b h k = k
all_append (c ∷ a) b h k = (h.0, all_append a b h.1 k)
