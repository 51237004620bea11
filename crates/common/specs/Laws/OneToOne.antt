-- A map that can be undone is one-to-one.
use Rattle.std.specs.Prelude.{◌≡◌}
use Rattle.std.proofs.Common.{◌∙◌, ap, sym}

pub by_inverse : {A B : Type 0} (f : A → B) (g : B → A) → ((a : A) → g (f a) ≡ a) → (a b : A) → f a ≡ f b → a ≡ b
by_inverse f g undone a b e = sym (undone a) ∙ (ap g e ∙ undone b)
