-- What `to_be_bytes` writes, in the words of Layout: at a place of a list, for the two widths that a header has beside the byte.
use Rattle.std.specs.Prelude.{ℕ, ◌+◌, ◌*◌, ◌/◌, ◌%◌, ◌≤◌, ◌<◌, ◌≡◌, List, [], ◌∷◌, length, take, drop}
use Rattle.std.proofs.Common.{arith, div-one, length-take-le, length-drop, ap, sym, ◌∙◌}
use Rattle.std.specs.Int.{w16, w32, from_be_bytes, to_be_bytes}
use Rattle.common.specs.Laws.Put.{put}
use Rattle.packet.specs.Layout.{big, bytes}
use Rattle.packet.specs.Laws.Number.{bytes-two}

module _ (r l : List ℕ) (at n : ℕ) (bs : List ℕ) (written : r ≡ put l at bs) where
  pub two_written : bs ≡ to_be_bytes w16 n → r ≡ put l at (bytes 2 n)
  two_written e = written ∙ ap (put l at) (e ∙ simp div-one)

  pub four_written : bs ≡ to_be_bytes w32 n → r ≡ put l at (bytes 4 n)
  four_written e = written ∙ ap (put l at) (e ∙ simp div-one)

-- The first two bytes of a header, as one number: the type with version 1, and the first extension.
pub front_written : (r l : List ℕ) (t t' e : ℕ) → r ≡ put l 0 ((16 * t' + 1) ∷ e ∷ []) → t' ≡ t → t ≤ 4 → e < 256 → r ≡ put l 0 (bytes 2 ((16 * t + 1) * 256 + e))
front_written r l t t' e written same h k =
    let high : ((16 * t + 1) * 256 + e) / 256 ≡ 16 * t + 1 = omega arith in
    let low : ((16 * t + 1) * 256 + e) % 256 ≡ e = omega arith in
    let front : bytes 2 ((16 * t + 1) * 256 + e) ≡ (16 * t + 1) ∷ e ∷ [] = bytes-two ((16 * t + 1) * 256 + e) (omega arith) ∙ simp (high, low) in
    written ∙ (ap (λ (v : ℕ). put l 0 ((16 * v + 1) ∷ e ∷ [])) same ∙ ap (put l 0) (sym front))
