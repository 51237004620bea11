-- Numbers in a file: eight bytes are twice four, and one is itself.
use Rattle.std.specs.Prelude.{ℕ, zero, suc, ◌+◌, ◌*◌, ◌-◌, ◌≤◌, ◌<◌, ◌≡◌, refl, List, [], ◌∷◌, ◌++◌, length, take, drop, get_or}
use Rattle.std.proofs.Common.{arith, ◌∙◌, sym, ap, length-take, length-drop, drop-cons, take-take, take-add, drop-drop}
use Rattle.std.proofs.Math.Seq.{take-nil}
use Rattle.packet.specs.Layout.{big}
use Rattle.packet.specs.Laws.Number.{big-append}
use Rattle.session.specs.Format.{field_at, setting_at}

pub field_one : (l : List ℕ) (at : ℕ) → at + 1 ≤ length l → get_or l at 0 ≡ field_at l at 1
field_one l at h =
    let first : drop at l ≡ get_or l at 0 ∷ drop (suc at) l = drop-cons l at 0 (omega arith) in
    simp first (omega arith)

pub field_eight : (l : List ℕ) (at : ℕ) → at + 8 ≤ length l → field_at l at 8 ≡ field_at l at 4 * 4294967296 + field_at l (at + 4) 4
field_eight l at h =
    let pieces : take 8 (drop at l) ≡ take 4 (drop at l) ++ take 4 (drop (at + 4) l) =
    take-add 4 4 (drop at l) ∙ ap (λ (t : List ℕ). take 4 (drop at l) ++ take 4 t) (drop-drop 4 at l) in
    let four : length (take 4 (drop (at + 4) l)) ≡ 4 = simp (length-take, length-drop) (omega arith) in
    rw (pieces, big-append, four) refl

-- A field of what stands from a place on.
pub field_from : (l : List ℕ) (at k w : ℕ) → field_at (drop at l) k w ≡ field_at l (at + k) w
field_from l at k w = ap (λ (t : List ℕ). big (take w t)) (drop-drop k at l)

-- A field within a part.
take_within : (k m w : ℕ) (l : List ℕ) → k + w ≤ m → take w (drop k (take m l)) ≡ take w (drop k l)
take_within zero m w l h = take-take w m l (omega arith)
take_within (suc k) zero w l h = absurd (omega arith)
take_within (suc k) (suc m) w [] h = refl
take_within (suc k) (suc m) w (x ∷ l) h = take_within k m w l (omega arith)

-- What follows a front of a part.
pub drop_within : (k m : ℕ) (l : List ℕ) → k ≤ m → drop k (take m l) ≡ take (m - k) (drop k l)
drop_within zero m l h = let all : m ≡ m - 0 = omega arith in ap (λ (n : ℕ). take n l) all
drop_within (suc k) zero l h = absurd (omega arith)
drop_within (suc k) (suc m) [] h = sym (take-nil (suc m - suc k))
drop_within (suc k) (suc m) (x ∷ l) h = let less : m - k ≡ suc m - suc k = omega arith in drop_within k m l (omega arith) ∙ ap (λ (n : ℕ). take n (drop k l)) less

pub field_within : (l : List ℕ) (m k w : ℕ) → k + w ≤ m → field_at (take m l) k w ≡ field_at l k w
field_within l m k w h = ap big (take_within k m w l h)

-- The setting at a position: they stand behind their count.
pub setting_read : (l : List ℕ) (i : ℕ) → i < 8 → setting_at (take 64 (drop 4 l)) i ≡ field_at l (4 + 8 * i) 8
setting_read l i h = field_within (drop 4 l) 64 (8 * i) 8 (omega arith) ∙ field_from l 4 (8 * i) 8
