-- Bytes written over a list from a place on: the definition that the writers' promises use, and how one writing follows another.
use Rattle.std.specs.Prelude.{ℕ, ◌+◌, ◌≤◌, ◌<◌, ◌≡◌, set, get_or}
use Rattle.std.proofs.Common.{add-zero, zero-add, add_assoc, add-one, arith, ◌∙◌, take-append-drop, length-drop, take-suc, length-take-le}
use Rattle.std.proofs.Math.Path.{ap, sym}
use mathlib.Core.List.{List, [], ◌∷◌, ◌++◌, append_assoc}
use Rattle.std.proofs.Math.ListN.{length, take, drop, length-append, length-take}
use Rattle.std.proofs.Math.Seq.{take_at, drop-append-add, drop-drop, set_split}
use borrow.Rule.Slice.PartMut.{put_mid}

module _ {A : Type 0} where
  -- `s` written over `l` from place `at` on
  unfoldable pub put : List A → ℕ → List A → List A
  put l at s = take at l ++ (s ++ drop (at + length s) l)

  -- What is written right behind what was written before.
  pub put_next : (done l s : List A) (at : ℕ) → length done ≡ at → put (done ++ drop at l) at s ≡ (done ++ s) ++ drop (at + length s) l
  unfolding put
  put_next done l s at e =
      let kept : take at (done ++ drop at l) ≡ done = take_at done (drop at l) at e in
      let past : drop (at + length s) (done ++ drop at l) ≡ drop (at + length s) l =
      ap (λ (n : ℕ). drop (n + length s) (done ++ drop at l)) (sym e) ∙ (drop-append-add done (drop at l) (length s) ∙ drop-drop (length s) at l) in
      simp (kept, past, append_assoc)

  pub length-put : (l s : List A) (at : ℕ) → at + length s ≤ length l → length (put l at s) ≡ length l
  unfolding put
  length-put l s at h = simp (length-append, length-take, length-drop) (omega arith)

  pub put-none : (l : List A) (at : ℕ) → put l at [] ≡ l
  unfolding put
  put-none l at = simp (add-zero) (take-append-drop at l)

  -- So is a copy to the part of the list that begins there.
  pub put_part : (l s part : List A) (at size : ℕ) → part ≡ s → size ≡ length s → put_mid at size l part ≡ put l at s
  unfolding put
  put_part l s part at size e f = rw (e, f) (ap (λ (rest : List A). take at l ++ (s ++ rest)) (drop-drop (length s) at l))

  -- A store is a writing of one.
  pub set-put : (l : List A) (at : ℕ) (a : A) → at < length l → set l at a ≡ put l at (a ∷ [])
  unfolding put
  set-put l at a h = set_split l at a h ∙ ap (λ (n : ℕ). take at l ++ (a ∷ drop n l)) (sym (add-one at))

  -- Two writings, the second right behind the first, are one.
  pub put-put : (l a b : List A) (at : ℕ) → at + length a ≤ length l → put (put l at a) (at + length a) b ≡ put l at (a ++ b)
  unfolding put
  put-put l a b at h =
      let front : length (take at l ++ a) ≡ at + length a = simp (length-append, length-take) (omega arith) in
      let first : put l at a ≡ (take at l ++ a) ++ drop (at + length a) l = sym (append_assoc (take at l) a (drop (at + length a) l)) in
      let both : put ((take at l ++ a) ++ drop (at + length a) l) (at + length a) b ≡ ((take at l ++ a) ++ b) ++ drop (at + length a + length b) l =
      put_next (take at l ++ a) l b (at + length a) front in
      ap (λ (t : List A). put t (at + length a) b) first ∙ (both ∙ simp (append_assoc, length-append, add_assoc))

  -- One more of a list that is being written.
  pub put_more : (l s : List A) (at i : ℕ) (d : A) → at + length s ≤ length l → i < length s → set (put l at (take i s)) (at + i) (get_or s i d) ≡ put l at (take (i + 1) s)
  put_more l s at i d h k =
      let taken : length (take i s) ≡ i = length-take-le i s (omega arith) in
      let room : length (put l at (take i s)) ≡ length l = length-put l (take i s) at (omega arith) in
      let stored : set (put l at (take i s)) (at + i) (get_or s i d) ≡ put (put l at (take i s)) (at + i) (get_or s i d ∷ []) =
      set-put (put l at (take i s)) (at + i) (get_or s i d) (omega arith) in
      let behind : put (put l at (take i s)) (at + length (take i s)) (get_or s i d ∷ []) ≡ put l at (take i s ++ (get_or s i d ∷ [])) =
      put-put l (take i s) (get_or s i d ∷ []) at (omega arith) in
      stored
      ∙ (ap (λ (n : ℕ). put (put l at (take i s)) (at + n) (get_or s i d ∷ [])) (sym taken)
      ∙ (behind ∙ ap (put l at) (sym (take-suc s i d k) ∙ ap (λ (n : ℕ). take n s) (sym (add-one i)))))

  -- Two stores, one behind the other.
  pub set-two : (l : List A) (at : ℕ) (a b : A) → at + 2 ≤ length l → set (set l at a) (at + 1) b ≡ put l at (a ∷ b ∷ [])
  set-two l at a b h =
      let first : set l at a ≡ put l at (a ∷ []) = set-put l at a (omega arith) in
      let room : length (put l at (a ∷ [])) ≡ length l = length-put l (a ∷ []) at (omega arith) in
      let second : set (put l at (a ∷ [])) (at + 1) b ≡ put (put l at (a ∷ [])) (at + 1) (b ∷ []) = set-put (put l at (a ∷ [])) (at + 1) b (omega arith) in
      ap (λ (t : List A). set t (at + 1) b) first ∙ (second ∙ put-put l (a ∷ []) (b ∷ []) at (omega arith))

  -- What is written to the front of `l` grows by a writing right behind it.
  pub put_on : (l a b r r' : List A) (at : ℕ) → r ≡ put l 0 a → r' ≡ put r at b → length a ≡ at → at ≤ length l → r' ≡ put l 0 (a ++ b)
  put_on l a b r r' at e e' k h =
      let zero-on : 0 + length a ≡ at = zero-add (length a) ∙ k in
      e' ∙ (ap (λ (t : List A). put t at b) e ∙ (ap (λ (n : ℕ). put (put l 0 a) n b) (sym zero-on) ∙ put-put l a b 0 (omega arith)))
