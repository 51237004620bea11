-- Payloads by offset beside their table of lengths and beside their bytes, end to end.
use Rattle.std.specs.Prelude.{ℕ, zero, suc, ◌+◌, ◌-◌, ◌≤◌, false, List, [], ◌∷◌, ◌++◌, ◌≡◌, refl, length, take, drop, get_or}
use Rattle.std.proofs.Common.{append_assoc, ap, sym, ◌∙◌, arith, length-append, length-drop, take-add, length-take-le}
use Rattle.std.proofs.Math.Option.{Option, none, some}
use Rattle.std.proofs.Math.Seq.{take-nil, drop-nil}
use Rattle.recv.specs.Table.{waits, bytes_in}
use Rattle.recv.specs.Receiver.{joined, entry_of, lengths_of, put_at}
use Rattle.recv.specs.Calls.{payloads_of}

-- ---- the table of lengths

pub lengths_take : (i : ℕ) (w : List (Option (List ℕ))) → lengths_of (take i w) ≡ take i (lengths_of w)
lengths_take zero w = refl
lengths_take (suc i) [] = refl
lengths_take (suc i) (x ∷ w) = ap (λ (t : List ℕ). entry_of x ∷ t) (lengths_take i w)

pub lengths_drop : (i : ℕ) (w : List (Option (List ℕ))) → lengths_of (drop i w) ≡ drop i (lengths_of w)
lengths_drop zero w = refl
lengths_drop (suc i) [] = refl
lengths_drop (suc i) (x ∷ w) = lengths_drop i w

pub lengths_put : (w : List (Option (List ℕ))) (i : ℕ) (p : List ℕ) → lengths_of (put_at none w i (some p)) ≡ put_at 0 (lengths_of w) i (suc (length p))
lengths_put [] zero p = refl
lengths_put [] (suc i) p = ap (λ (t : List ℕ). 0 ∷ t) (lengths_put [] i p)
lengths_put (x ∷ w) zero p = refl
lengths_put (x ∷ w) (suc i) p = ap (λ (t : List ℕ). entry_of x ∷ t) (lengths_put w i p)

pub entry_none : (x : Option (List ℕ)) → entry_of x ≡ 0 → x ≡ none
entry_none none e = refl
entry_none (some p) e = absurd (omega arith)

-- ---- end to end

pub joined-append : (a b : List (Option (List ℕ))) → joined (a ++ b) ≡ joined a ++ joined b
joined-append [] b = refl
joined-append (none ∷ a) b = joined-append a b
joined-append (some p ∷ a) b = ap (λ (l : List ℕ). p ++ l) (joined-append a b) ∙ sym (append_assoc p (joined a) (joined b))

pub length-joined : (w : List (Option (List ℕ))) → length (joined w) ≡ bytes_in (lengths_of w)
length-joined [] = refl
length-joined (none ∷ w) = length-joined w ∙ omega arith
length-joined (some p ∷ w) = length-append p (joined w) ∙ rw (length-joined w) (omega arith)

-- a payload put where none waits stands behind those before it and before those behind it
pub joined-put : (w : List (Option (List ℕ))) (i : ℕ) (p : List ℕ) → get_or w i none ≡ none
    → joined (put_at none w i (some p)) ≡ (joined (take i w) ++ p) ++ joined (drop i w)
joined-put [] zero p e = refl
joined-put [] (suc i) p e = joined-put [] i p e ∙ ap (λ (l : List (Option (List ℕ))). (joined l ++ p) ++ joined (drop i [])) (take-nil i) ∙ ap (λ (l : List (Option (List ℕ))). p ++ joined l) (drop-nil i)
joined-put (none ∷ w) zero p e = refl
joined-put (some q ∷ w) zero p e = absurd (let z : ◌≡◌ {A = ℕ} 0 1 = cc in omega arith)
joined-put (none ∷ w) (suc i) p e = joined-put w i p e
joined-put (some q ∷ w) (suc i) p e = ap (λ (l : List ℕ). q ++ l) (joined-put w i p e) ∙ simp append_assoc

-- ---- payloads cut off by a table of lengths

pub lengths_payloads : (t bytes : List ℕ) → bytes_in t ≤ length bytes → lengths_of (payloads_of t bytes) ≡ t
lengths_payloads [] bytes h = refl
lengths_payloads (zero ∷ t) bytes h = ap (λ (l : List ℕ). 0 ∷ l) (lengths_payloads t bytes (omega arith))
lengths_payloads (suc n ∷ t) bytes h =
    let rest : bytes_in t ≤ length (drop n bytes) = rw (length-drop n bytes) (omega arith) in
    ap (λ (k : ℕ). suc k ∷ lengths_of (payloads_of t (drop n bytes))) (length-take-le n bytes (omega arith))
    ∙ ap (λ (l : List ℕ). suc n ∷ l) (lengths_payloads t (drop n bytes) rest)

pub joined-payloads : (t bytes : List ℕ) → joined (payloads_of t bytes) ≡ take (bytes_in t) bytes
joined-payloads [] bytes = refl
joined-payloads (zero ∷ t) bytes = joined-payloads t bytes ∙ ap (λ (n : ℕ). take n bytes) (less (bytes_in t))
  where
    less : (n : ℕ) → n ≡ (0 - 1) + n
    less n = omega arith
joined-payloads (suc n ∷ t) bytes =
    ap (λ (l : List ℕ). take n bytes ++ l) (joined-payloads t (drop n bytes))
    ∙ sym (take-add n (bytes_in t) bytes)
    ∙ ap (λ (m : ℕ). take m bytes) (less (bytes_in t))
  where
    less : (m : ℕ) → n + m ≡ (suc n - 1) + m
    less m = omega arith

pub take-payloads : (i : ℕ) (t bytes : List ℕ) → take i (payloads_of t bytes) ≡ payloads_of (take i t) bytes
take-payloads zero t bytes = refl
take-payloads (suc i) [] bytes = refl
take-payloads (suc i) (zero ∷ t) bytes = ap (λ (l : List (Option (List ℕ))). none ∷ l) (take-payloads i t bytes)
take-payloads (suc i) (suc n ∷ t) bytes = ap (λ (l : List (Option (List ℕ))). some (take n bytes) ∷ l) (take-payloads i t (drop n bytes))

pub length-payloads : (t bytes : List ℕ) → length (payloads_of t bytes) ≡ length t
length-payloads [] bytes = refl
length-payloads (zero ∷ t) bytes = ap suc (length-payloads t bytes)
length-payloads (suc n ∷ t) bytes = ap suc (length-payloads t (drop n bytes))

pub none-payloads : (t bytes : List ℕ) (i : ℕ) → waits (get_or t i 0) ≡ false → get_or (payloads_of t bytes) i none ≡ none
none-payloads [] bytes i h = refl
none-payloads (zero ∷ t) bytes zero h = refl
none-payloads (suc n ∷ t) bytes zero h = absurd (let z : ◌≡◌ {A = ℕ} 0 1 = cc in omega arith)
none-payloads (zero ∷ t) bytes (suc i) h = none-payloads t bytes i h
none-payloads (suc n ∷ t) bytes (suc i) h = none-payloads t (drop n bytes) i h
