-- A part of a list moved down over its front, one place at a time.
use Rattle.std.specs.Prelude.{◌≡◌, List, [], ◌∷◌, ◌++◌, ℕ, suc, ◌+◌, ◌-◌, ◌≤◌, ◌<◌, length, take, drop, get_or, set}
use Rattle.std.proofs.Common.{sym, ap, ◌∙◌, append_assoc, add_comm, add-one, arith, length-take, length-drop, take-suc, drop-cons, get_or-append-add, get_or-drop}
use Rattle.std.proofs.lemmas.List.{set_at}

module _ {A : Type 0} where
  abbrev pub moved_of : List A → ℕ → ℕ → List A
  moved_of l first i = take i (drop first l) ++ drop i l

  moved_read : (l : List A) (first i : ℕ) (d : A) → first + i < length l → get_or (moved_of l first i) (first + i) d ≡ get_or (drop first l) i d
  moved_read l first i d h =
      let len : length (take i (drop first l)) ≡ i = simp (length-take, length-drop) (omega arith) in
      ap (λ (k : ℕ). get_or (take i (drop first l) ++ drop i l) k d) (add_comm first i ∙ ap (λ (k : ℕ). k + first) (sym len))
      ∙ get_or-append-add (take i (drop first l)) (drop i l) first d
      ∙ get_or-drop i l first d
      ∙ ap (λ (k : ℕ). get_or l k d) (add_comm i first)
      ∙ sym (get_or-drop first l i d)

  -- What is read at its old place is stored at its new one.
  pub moved_one : (l : List A) (first i : ℕ) (d : A) → first + i < length l
      → set (moved_of l first i) i (get_or (moved_of l first i) (first + i) d) ≡ moved_of l first (i + 1)
  moved_one l first i d h =
      let s = drop first l in
      let len : length (take i s) ≡ i = simp (length-take, length-drop) (omega arith) in
      let inside : i < length s = simp length-drop (omega arith) in
      ap (set (moved_of l first i) i) (moved_read l first i d h)
      ∙ ap (λ (m : List A). set (take i s ++ m) i (get_or s i d)) (drop-cons l i d (omega arith))
      ∙ set_at (take i s) (get_or l i d) (drop (suc i) l) (get_or s i d) i len
      ∙ sym (append_assoc (take i s) (get_or s i d ∷ []) (drop (suc i) l))
      ∙ ap (λ (m : List A). m ++ drop (suc i) l) (sym (take-suc s i d inside))
      ∙ ap (λ (n : ℕ). moved_of l first n) (sym (add-one i))

  -- The last of a front, and the front without it.
  pub front_last : (l m : List A) (i : ℕ) (d : A) → 0 < i → i ≤ length l → take i l ++ m ≡ take (i - 1) l ++ get_or l (i - 1) d ∷ m
  front_last l m i d h k =
      let e : i ≡ suc (i - 1) = omega arith in
      ap (λ (n : ℕ). take n l ++ m) e
      ∙ ap (λ (f : List A). f ++ m) (take-suc l (i - 1) d (omega arith))
      ∙ append_assoc (take (i - 1) l) (get_or l (i - 1) d ∷ []) m
