-- Laws of the table of waiting lengths.
use Rattle.std.specs.Prelude.{ℕ, zero, suc, ◌+◌, ◌-◌, ◌≤◌, ◌<◌, Bool, true, false, cond, not, ◌||◌, List, [], ◌∷◌, ◌≡◌, refl, leb, eqb, length, take, drop, get_or}
use Rattle.std.proofs.Common.{one-add, zero-le, ap, sym, ◌∙◌, add_assoc, not-suc-le-zero, le_of_suc-le-suc, arith, le-leb, leb-false, lt-ltb, le-ltb, ne_eqb, length-take, drop_of_length-le, get_or-take}
use Rattle.std.proofs.lemmas.Bool.{lt-leb}
use Rattle.std.proofs.Math.ListN.{get_or-eq_default}
use Rattle.std.proofs.Math.Seq.{drop-nil}
use Rattle.std.specs.List.{sum_by, count_by, prefix_len}
use Rattle.std.proofs.lemmas.List.Recursion.{is_sum_by}
use Rattle.recv.specs.Table.{waits, bytes_in, how_many, last_waits, run_of, waits_at, there_of}

-- the sum and the count of std
pub bytes_in_sum : (l : List ℕ) → bytes_in l ≡ sum_by (λ x. x - 1) l
bytes_in_sum = is_sum_by bytes_in (λ x. x - 1) refl (λ x xs. refl)

pub how_many_count : (l : List ℕ) → how_many l ≡ count_by waits l
how_many_count = is_sum_by how_many (λ x. cond (waits x) 1 0) refl (λ x xs. refl)

pub how_many_sum : (l : List ℕ) → how_many l ≡ sum_by (λ x. cond (waits x) 1 0) l
how_many_sum = is_sum_by how_many (λ x. cond (waits x) 1 0) refl (λ x xs. refl)

pub bytes_in_take_suc : (l : List ℕ) (i : ℕ) → bytes_in (take (suc i) l) ≡ bytes_in (take i l) + (get_or l i 0 - 1)
bytes_in_take_suc [] zero = refl
bytes_in_take_suc [] (suc i) = refl
bytes_in_take_suc (x ∷ xs) zero = omega arith
bytes_in_take_suc (x ∷ xs) (suc i) = ap (λ (n : ℕ). (x - 1) + n) (bytes_in_take_suc xs i) ∙ sym (add_assoc (x - 1) (bytes_in (take i xs)) (get_or xs i 0 - 1))

pub bytes_in_take_le : (l : List ℕ) (i : ℕ) → bytes_in (take i l) ≤ bytes_in l
bytes_in_take_le l zero = zero-le
bytes_in_take_le [] (suc i) = zero-le
bytes_in_take_le (x ∷ xs) (suc i) = let rest = bytes_in_take_le xs i in omega arith

pub how_many_take_suc : (l : List ℕ) (i : ℕ) → how_many (take (suc i) l) ≡ how_many (take i l) + cond (waits (get_or l i 0)) 1 0
how_many_take_suc [] zero = refl
how_many_take_suc [] (suc i) = refl
how_many_take_suc (x ∷ xs) zero = omega arith
how_many_take_suc (x ∷ xs) (suc i) =
    ap (λ (n : ℕ). cond (waits x) 1 0 + n) (how_many_take_suc xs i)
    ∙ sym (add_assoc (cond (waits x) 1 0) (how_many (take i xs)) (cond (waits (get_or xs i 0)) 1 0))

pub waits_zero : (n : ℕ) → n ≡ 0 → waits n ≡ false
waits_zero zero e = refl
waits_zero (suc n) e = absurd (omega arith)

pub waits_more : (n : ℕ) → (n ≡ 0 → ⊥) → waits n ≡ true
waits_more zero h = absurd (h refl)
waits_more (suc n) h = refl

pub last_waits-take : (b : Bool) (l : List ℕ) (n : ℕ) → 0 < n → n ≤ length l → last_waits b (take n l) ≡ waits (get_or l (n - 1) 0)
last_waits-take b [] n p h = absurd (omega arith)
last_waits-take b (x ∷ l) zero p h = absurd (omega arith)
last_waits-take b (x ∷ l) (suc zero) p h = refl
last_waits-take b (x ∷ l) (suc (suc n)) p h =
    last_waits-take (waits x) l (suc n) (omega arith) (le_of_suc-le-suc h)
    ∙ ap (λ (k : ℕ). waits (get_or l k 0)) (less n)
    ∙ ap (λ (k : ℕ). waits (get_or (x ∷ l) k 0)) (sym (less (suc n)))
  where
    less : (m : ℕ) → suc m - 1 ≡ m
    less m = omega arith

pub no_wait : (n : ℕ) → waits n ≡ false → n ≡ 0
no_wait zero e = refl
no_wait (suc n) e = cc

pub waits_is : (n : ℕ) → waits n ≡ not (eqb n 0)
waits_is zero = refl
waits_is (suc n) = sym (ap not (ne_eqb (suc n) 0 (λ e. omega arith)))

-- ---- does an offset wait?

pub waits_at_behind : (c o : ℕ) (t : List ℕ) → o ≤ c → waits_at c t o ≡ false
waits_at_behind c o t h = rw (le-ltb c o h)

module _ (c o : ℕ) (l : List ℕ) (n : ℕ) (more : c < o) where
  place_is : o - (c + 1) ≡ o - c - 1
  place_is = omega arith

  pub waits_at_place : o - c - 1 < n → waits_at c (take n l) o ≡ not (eqb (get_or l (o - c - 1) 0) 0)
  waits_at_place h = rw (lt-ltb c o more, place_is, get_or-take n l (o - c - 1) 0 h) (waits_is (get_or l (o - c - 1) 0))

  pub waits_at_past : n ≤ o - c - 1 → waits_at c (take n l) o ≡ false
  waits_at_past h = rw (lt-ltb c o more) (waits_zero (get_or (take n l) (o - (c + 1)) 0) (get_or-eq_default (take n l) 0 (simp length-take (omega arith))))

-- ---- already there

pub there_behind : (c o : ℕ) (t : List ℕ) → o ≤ c → there_of c t o ≡ true
unfolding there_of
there_behind c o t h = rw (le-leb o c h)

pub there_ahead : (c o : ℕ) (t : List ℕ) → c < o → there_of c t o ≡ waits_at c t o
unfolding there_of
there_ahead c o t h = rw (lt-leb o c h)

pub there_past : (c o : ℕ) (t : List ℕ) → c < o → there_of c t o ≡ waits (get_or t (o - c - 1) 0)
there_past c o t h = let place : o - (c + 1) ≡ o - c - 1 = omega arith in there_ahead c o t h ∙ rw (lt-ltb c o h, place)

-- ---- the run at the front is the longest that waits

pub run_prefix : (l : List ℕ) → run_of l ≡ prefix_len (λ x. not (eqb x 0)) l
run_prefix [] = refl
run_prefix (zero ∷ l) = refl
run_prefix (suc n ∷ l) = rw (ne_eqb (suc n) 0 (λ e. omega arith)) (ap suc (run_prefix l) ∙ sym (one-add (prefix_len (λ x. not (eqb x 0)) l)))

-- ---- the run at the front of what is left of a table

pub run_zero : (l : List ℕ) (n i : ℕ) → get_or l i 0 ≡ 0 → run_of (drop i (take n l)) ≡ 0
run_zero [] zero i e = ap run_of (drop-nil i)
run_zero [] (suc n) i e = ap run_of (drop-nil i)
run_zero (x ∷ l) zero i e = ap run_of (drop-nil i)
run_zero (x ∷ l) (suc n) zero e = rw e
run_zero (x ∷ l) (suc n) (suc i) e = run_zero l n i e

pub run_more : (l : List ℕ) (n i : ℕ) → i < n → (get_or l i 0 ≡ 0 → ⊥) → run_of (drop i (take n l)) ≡ suc (run_of (drop (suc i) (take n l)))
run_more [] n i h e = absurd (e refl)
run_more (x ∷ l) zero i h e = absurd (not-suc-le-zero h)
run_more (zero ∷ l) (suc n) zero h e = absurd (e refl)
run_more (suc x ∷ l) (suc n) zero h e = refl
run_more (x ∷ l) (suc n) (suc i) h e = run_more l n i (le_of_suc-le-suc h) e

pub run_past : (l : List ℕ) (n i : ℕ) → n ≤ i → run_of (drop i (take n l)) ≡ 0
run_past l n i h = ap run_of (drop_of_length-le (take n l) {i = i} (simp length-take (omega arith)))

neither : (a b : Bool) → a || b ≡ false → (a ≡ false) × (b ≡ false)
neither true b h = (h, cc)
neither false b h = (refl, h)

-- what is not there lies past c, and does not wait
pub not_there : (c o : ℕ) (t : List ℕ) → there_of c t o ≡ false → (c < o) × (waits (get_or t (o - (c + 1)) 0) ≡ false)
unfolding there_of
not_there c o t h =
    let parts = neither (leb o c) (waits_at c t o) h in
    let past : c < o = leb-false o c parts.0 in
    (past, rw (lt-ltb c o past) at parts.1)
