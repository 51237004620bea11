-- Laws of sequence numbers and offsets: numbers from an initial one and offsets are one-to-one, and a range is its walk.
use Rattle.std.specs.Prelude.{◌≡◌, ℕ, zero, suc, ◌+◌, ◌^◌, ◌<◌, ◌≤◌, Bool, true, false, cond, [], ◌∷◌, ◌==◌, slice_index_or, refl}
use Rattle.std.proofs.Common.{arith, ◌∙◌, ap, sym, leb-true, le-leb, eqb-true}
use Rattle.std.proofs.lemmas.Bool.{eqb-false}
use Rattle.seq.specs.Seq.{plus_of, offset_of, contains_of, next_of, walk, walk_of}
use Rattle.seq.specs.declared.SeqNum.{SeqNum}
use Rattle.seq.specs.declared.CircularRangeInclusive.{CircularRangeInclusive}
use Rattle.seq.specs.declared.Step.TheVariants.{Item, Done}

abbrev wire : ℕ → SeqNum
wire n = record { 0 = n }

-- Steps add up.
pub plus_plus : (s : SeqNum) (m n : ℕ) → plus_of (plus_of s m) n ≡ plus_of s (m + n)
plus_plus s m n = ap on_wire (omega arith)
  where
    on_wire : ℕ → SeqNum
    on_wire k = record { 0 = k }

-- The offset of the number n past the initial one is n, for n below 65,536, and the number at the offset of s is s.
pub offset_of_plus : (initial : SeqNum) (n : ℕ) → initial.0 < 2 ^ 16 → n < 2 ^ 16 → (offset_of (plus_of initial n) initial).0 ≡ n
offset_of_plus initial n h k = omega arith

pub plus_of_offset : (s initial : SeqNum) → s.0 < 2 ^ 16 → initial.0 < 2 ^ 16 → plus_of initial (offset_of s initial).0 ≡ s
plus_of_offset s initial h k = ap wire (omega arith)

-- So two numbers with one offset are one number.
pub offset_one_to_one : (s t initial : SeqNum) → s.0 < 2 ^ 16 → t.0 < 2 ^ 16 → initial.0 < 2 ^ 16 → (offset_of s initial).0 ≡ (offset_of t initial).0 → s ≡ t
offset_one_to_one s t initial h k i e = sym (plus_of_offset s initial h i) ∙ (ap (plus_of initial) e ∙ plus_of_offset t initial k i)

-- ---- the walk

-- Step i of the walk is the number i past the start.
pub walk_at : (s : SeqNum) (more i : ℕ) (d : SeqNum) → s.0 < 2 ^ 16 → i ≤ more → slice_index_or (walk s more) i d ≡ plus_of s i
walk_at s zero zero d h k = ap wire (omega arith)
walk_at s zero (suc i) d h k = absurd (omega arith)
walk_at s (suc more) zero d h k = ap wire (omega arith)
walk_at s (suc more) (suc i) d h k = walk_at (plus_of s 1) more i d (omega arith) (omega arith) ∙ ap wire (omega arith)

-- A step hands out the first number of the walk and leaves the rest of it; at the end nothing is left.
pub next_item : (r : CircularRangeInclusive) (s : SeqNum) (rest : CircularRangeInclusive) → r.start.0 < 2 ^ 16 → r.end.0 < 2 ^ 16 → next_of r ≡ Item s rest → walk_of r ≡ s ∷ walk_of rest
next_item r s rest h k = go r.exhausted (r.start.0 == r.end.0) refl
  where
    last : CircularRangeInclusive
    last = record { start = r.start; end = r.end; exhausted = true }

    onward : CircularRangeInclusive
    onward = record { start = plus_of r.start 1; end = r.end; exhausted = false }

    go :
        (b₁ b₂ : Bool) → (r.start.0 == r.end.0) ≡ b₂ → cond b₁ Done (cond b₂ (Item r.end last) (Item r.start onward)) ≡ Item s rest
        → cond b₁ [] (walk r.start (offset_of r.end r.start).0) ≡ s ∷ walk_of rest
    go true b₂ t f = let z : ◌≡◌ {A = ℕ} 0 1 = cc in absurd (omega arith)
    go false true t f =
        let same : r.start.0 ≡ r.end.0 = eqb-true _ _ t in
        let none : (offset_of r.end r.start).0 ≡ 0 = omega arith in
        let here : s ≡ r.end = cc in
        let left : rest ≡ last = cc in
        rw (none, here, left) (ap (λ (n : ℕ). wire n ∷ []) same)
    go false false t f =
        let apart : r.start.0 ≡ r.end.0 → ⊥ = eqb-false _ _ t in
        let more : (offset_of r.end r.start).0 ≡ suc (offset_of r.end (plus_of r.start 1)).0 = omega (arith, apart) in
        let here : s ≡ r.start = cc in
        let left : rest ≡ onward = cc in
        rw (more, here, left)

pub next_done : (r : CircularRangeInclusive) → next_of r ≡ Done → walk_of r ≡ []
next_done r = go r.exhausted (r.start.0 == r.end.0)
  where
    last : CircularRangeInclusive
    last = record { start = r.start; end = r.end; exhausted = true }

    onward : CircularRangeInclusive
    onward = record { start = plus_of r.start 1; end = r.end; exhausted = false }

    go :
        (b₁ b₂ : Bool) → cond b₁ Done (cond b₂ (Item r.end last) (Item r.start onward)) ≡ Done
        → cond b₁ [] (walk r.start (offset_of r.end r.start).0) ≡ []
    go true b₂ f = refl
    go false true f = let z : ◌≡◌ {A = ℕ} 0 1 = cc in absurd (omega arith)
    go false false f = let z : ◌≡◌ {A = ℕ} 0 1 = cc in absurd (omega arith)

-- A number is in a range exactly if the walk from its start comes by it.
pub contains_walked : (start end : SeqNum) (i : ℕ) → start.0 < 2 ^ 16 → i ≤ (offset_of end start).0 → contains_of start end (plus_of start i) ≡ true
contains_walked start end i h l = le-leb _ _ (near h l)
  where
    near : start.0 < 2 ^ 16 → i ≤ (offset_of end start).0 → (offset_of (plus_of start i) start).0 ≤ (offset_of end start).0
    near h l = omega arith

pub walked_contains : (start end item : SeqNum) → start.0 < 2 ^ 16 → item.0 < 2 ^ 16 → contains_of start end item ≡ true → (i : ℕ) × (i ≤ (offset_of end start).0) × (plus_of start i ≡ item)
walked_contains start end item h k e = ((offset_of item start).0, leb-true _ _ e, plus_of_offset item start k h)
