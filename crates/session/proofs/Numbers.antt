-- What `from_be_bytes` reads, in the words of Format: the number at a place, for the width that only a session has. Two bytes and four are in `packet`.
use Rattle.std.specs.Prelude.{ℕ, ◌+◌, ◌≤◌, ◌≡◌, List, [], ◌∷◌, length, take, drop}
use Rattle.std.proofs.Common.{arith, ap, ◌∙◌}
use Rattle.std.specs.Int.{w64, from_be_bytes}
use Rattle.packet.specs.Layout.{big}
use Rattle.packet.specs.Laws.Number.{size_there}
use Rattle.session.specs.Format.{field_at}

eight : (l : List ℕ) → length l ≡ 8 → from_be_bytes w64 l ≡ big l
eight [] e = absurd (omega arith)
eight (a ∷ []) e = absurd (omega arith)
eight (a ∷ b ∷ []) e = absurd (omega arith)
eight (a ∷ b ∷ c ∷ []) e = absurd (omega arith)
eight (a ∷ b ∷ c ∷ d ∷ []) e = absurd (omega arith)
eight (a ∷ b ∷ c ∷ d ∷ f ∷ []) e = absurd (omega arith)
eight (a ∷ b ∷ c ∷ d ∷ f ∷ g ∷ []) e = absurd (omega arith)
eight (a ∷ b ∷ c ∷ d ∷ f ∷ g ∷ h ∷ []) e = absurd (omega arith)
eight (a ∷ b ∷ c ∷ d ∷ f ∷ g ∷ h ∷ i ∷ []) e = omega arith
eight (a ∷ b ∷ c ∷ d ∷ f ∷ g ∷ h ∷ i ∷ x ∷ l) e = absurd (omega arith)

module _ (l : List ℕ) (at n : ℕ) (bs : List ℕ) where
  pub eight_read : at + 8 ≤ length l → n ≡ from_be_bytes w64 bs → bs ≡ take 8 (drop at l) → n ≡ field_at l at 8
  eight_read h e f = e ∙ (ap (from_be_bytes w64) f ∙ eight (take 8 (drop at l)) (size_there l at 8 h))
