-- Laws of `paste`, a run of elements put over another: what a loop that moves elements one by one adds in a turn. They hold of any list.
use Rattle.std.specs.Prelude.{ℕ, zero, suc, ◌+◌, ◌-◌, ◌≤◌, ◌<◌, List, [], ◌∷◌, ◌++◌, ◌≡◌, refl, length, take, drop, set, get_or}
use Rattle.std.proofs.Common.{append_assoc, ap, sym, ◌∙◌, zero-add, add-one, arith, length-append, length-drop, length-take-le, get_or-append-add, get_or-take, get_or-drop, take-suc-set, drop-cons, take-take, drop_at}
use Rattle.std.proofs.Math.Nat.{sub-zero, zero-sub, suc-sub-suc}
use Rattle.std.proofs.Math.ListN.{get_or-append}
use Rattle.std.proofs.Math.Seq.{paste, paste-suc, length_paste_head, take-set-lt, append_snoc, take-length, take-nil}
use Rattle.std.proofs.lemmas.List.{set-append_left, take-append-le}

-- the same run at equal places
pub paste_at : (d : List ℕ) (at at' from from' n n' : ℕ) → at ≡ at' → from ≡ from' → n ≡ n' → paste d at (drop from d) n ≡ paste d at' (drop from' d) n'
paste_at d at at' from from' n n' p q r = rw (p, q, r)

-- what stands past a run that was put in
pub get_d_paste_past : (d : List ℕ) (at : ℕ) (s : List ℕ) (n k : ℕ) → at ≤ length d → n ≤ length s → at + n ≤ k → get_or (paste d at s n) k 0 ≡ get_or d k 0
get_d_paste_past d at s n k hd hs h =
    let head = take at d ++ take n s in
    let e : k ≡ length head + (k - (at + n)) = rw (length_paste_head d at s n hd hs) (omega arith) in
    let e' : at + n + (k - (at + n)) ≡ k = omega arith in
    ap (λ (i : ℕ). get_or (head ++ drop (at + n) d) i 0) e
    ∙ get_or-append-add head (drop (at + n) d) (k - (at + n)) 0
    ∙ get_or-drop (at + n) d (k - (at + n)) 0
    ∙ ap (λ (i : ℕ). get_or d i 0) e'

-- what stands before it
pub get_d_paste_before : (d : List ℕ) (at : ℕ) (s : List ℕ) (n k : ℕ) → at ≤ length d → k < at → get_or (paste d at s n) k 0 ≡ get_or d k 0
get_d_paste_before d at s n k hd h =
    let in-front : k < length (take at d) = rw (length-take-le at d hd) h in
    let in_head : k < length (take at d ++ take n s) = simp length-append (omega arith) in
    get_or-append (take at d ++ take n s) (drop (at + n) d) 0 k in_head
    ∙ get_or-append (take at d) (take n s) 0 k in-front
    ∙ get_or-take at d k 0 h

-- one more at the end of a run that moves down within its own list
pub paste_down : (d : List ℕ) (from j : ℕ) → from + j < length d
    → set (paste d 0 (drop from d) j) j (get_or (paste d 0 (drop from d) j) (from + j) 0) ≡ paste d 0 (drop from d) (j + 1)
paste_down d from j h =
    let s = drop from d in
    let room : j < length s = rw (length-drop from d) (omega arith) in
    let at-end : 0 + j < length d = omega arith in
    let value : get_or (paste d 0 s j) (from + j) 0 ≡ get_or s j 0 = get_d_paste_past d 0 s j (from + j) (omega arith) (omega arith) (omega arith) ∙ sym (get_or-drop from d j 0) in
    ap (λ (v : ℕ). set (paste d 0 s j) j v) value
    ∙ ap (λ (i : ℕ). set (paste d 0 s j) i (get_or s j 0)) (sym (zero-add j))
    ∙ paste-suc d 0 s j 0 at-end room
    ∙ ap (λ (n : ℕ). paste d 0 s n) (sym (add-one j))

-- one more at the front of a run
paste_front : (d : List ℕ) (p : ℕ) (s : List ℕ) (m v : ℕ) → p < length d → set (paste d (suc p) s m) p v ≡ paste d p (v ∷ s) (suc m)
paste_front d p s m v h =
    let front : p < length (take (suc p) d) = rw (length-take-le (suc p) d h) (omega arith) in
    let head : p < length (take (suc p) d ++ take m s) = simp length-append (omega arith) in
    let e : suc p + m ≡ p + suc m = omega arith in
    set-append_left (take (suc p) d ++ take m s) (drop (suc p + m) d) p v head
    ∙ ap (λ (l : List ℕ). l ++ drop (suc p + m) d)
    (set-append_left (take (suc p) d) (take m s) p v front
    ∙ ap (λ (l : List ℕ). l ++ take m s) (sym (take-set-lt (suc p) d p v (omega arith)) ∙ take-suc-set d p v h)
    ∙ append_snoc (take p d) v (take m s))
    ∙ ap (λ (n : ℕ). (take p d ++ v ∷ take m s) ++ drop n d) e

-- one more at the front of a run that moves up within its own list
pub paste_up : (d : List ℕ) (q p m : ℕ) → q ≤ p → p < length d
    → set (paste d (p + 1) (drop (q + 1) d) m) p (get_or (paste d (p + 1) (drop (q + 1) d) m) q 0) ≡ paste d p (drop q d) (m + 1)
paste_up d q p m le h =
    let s = drop (q + 1) d in
    let value : get_or (paste d (p + 1) s m) q 0 ≡ get_or d q 0 = get_d_paste_before d (p + 1) s m q (omega arith) (omega arith) in
    let whole : get_or d q 0 ∷ s ≡ drop q d = ap (λ (n : ℕ). get_or d q 0 ∷ drop n d) (add-one q) ∙ sym (drop-cons d q 0 (omega arith)) in
    ap (λ (v : ℕ). set (paste d (p + 1) s m) p v) value
    ∙ ap (λ (n : ℕ). set (paste d n s m) p (get_or d q 0)) (add-one p)
    ∙ paste_front d p s m (get_or d q 0) h
    ∙ ap (λ (l : List ℕ). paste d p l (suc m)) whole
    ∙ ap (λ (n : ℕ). paste d p (drop q d) n) (sym (add-one m))

-- ---- a run moved up and another put in before it

pub inserted : (d : List ℕ) (at count : ℕ) (p : List ℕ) → at + length p + count ≤ length d
    → paste (paste d (at + length p) (drop at d) count) at p (length p)
    ≡ (take at d ++ p) ++ (take count (drop at d) ++ drop (at + length p + count) d)
inserted d at count p h =
    let n = length p in
    let tail = take count (drop at d) ++ drop (at + n + count) d in
    let moved : paste d (at + n) (drop at d) count ≡ take (at + n) d ++ tail = append_assoc (take (at + n) d) (take count (drop at d)) (drop (at + n + count) d) in
    let front : length (take (at + n) d) ≡ at + n = length-take-le (at + n) d (omega arith) in
    let before : take at (take (at + n) d ++ tail) ≡ take at d = take-append-le at (take (at + n) d) tail (omega arith) ∙ take-take at (at + n) d (omega arith) in
    let behind : drop (at + n) (take (at + n) d ++ tail) ≡ tail = drop_at (take (at + n) d) tail (at + n) front in
    ap (λ (l : List ℕ). paste l at p n) moved
    ∙ ap (λ (l : List ℕ). (l ++ take n p) ++ drop (at + n) (take (at + n) d ++ tail)) before
    ∙ ap (λ (l : List ℕ). (take at d ++ l) ++ drop (at + n) (take (at + n) d ++ tail)) (take-length p)
    ∙ ap (λ (l : List ℕ). (take at d ++ p) ++ l) behind

-- ---- a list over the front of another

pub over_front : (n : ℕ) (l : List ℕ) → take n l ++ drop (length (take n l)) l ≡ l
over_front zero l = refl
over_front (suc n) [] = refl
over_front (suc n) (x ∷ l) = ap (λ (r : List ℕ). x ∷ r) (over_front n l)

pub drop-take : (k n : ℕ) (l : List ℕ) → drop k (take n l) ≡ take (n - k) (drop k l)
drop-take zero n l = ap (λ (m : ℕ). take m l) (sym (sub-zero n))
drop-take (suc k) zero l = sym (ap (λ (m : ℕ). take m (drop (suc k) l)) (zero-sub (suc k)))
drop-take (suc k) (suc n) [] = sym (take-nil (suc n - suc k))
drop-take (suc k) (suc n) (x ∷ l) = drop-take k n l ∙ ap (λ (m : ℕ). take m (drop k l)) (sym (suc-sub-suc n k))
