-- The digits of a number, one behind the others.
use Rattle.std.specs.Prelude.{ℕ, zero, suc, ◌+◌, ◌/◌, ◌%◌, ◌^◌, ◌≤◌, ◌<◌, Bool, true, false, List, [], ◌∷◌, ◌++◌, ◌≡◌, refl, ltb, length, set}
use Rattle.std.proofs.Common.{arith, sym, ap, ap₂, ◌∙◌, length-append, lt-ltb, le-ltb, ltb-true, ltb-false}
use Rattle.common.specs.Laws.Put.{put, set-put, put-put, length-put}
use Rattle.session.specs.Lines.{digits_of, decimal}

-- How many may come makes no difference, so long as there are more than the number.
digits_same : (k m n : ℕ) → n < k → n < m → digits_of k (ltb n 10) n ≡ digits_of m (ltb n 10) n
unfolding digits_of
digits_same zero m n h g = absurd (omega arith)
digits_same (suc k) zero n h g = absurd (omega arith)
digits_same (suc k) (suc m) n h g = by_test (λ a b. digits_same k m (n / 10) a b) (ltb n 10) refl
  where
    by_test : (n / 10 < k → n / 10 < m → digits_of k (ltb (n / 10) 10) (n / 10) ≡ digits_of m (ltb (n / 10) 10) (n / 10)) → (b : Bool) → ltb n 10 ≡ b → digits_of (suc k) b n ≡ digits_of (suc m) b n
    by_test next true e = refl
    by_test next false e =
        let large : 10 ≤ n = ltb-false n 10 e in
        ap (λ (l : List ℕ). l ++ ((48 + n % 10) ∷ [])) (next (omega arith) (omega arith))

pub decimal_small : (n : ℕ) → n < 10 → decimal n ≡ (48 + n) ∷ []
unfolding decimal digits_of
decimal_small n h = ap (λ (b : Bool). digits_of (suc n) b n) (lt-ltb n 10 h)

pub decimal_large : (n : ℕ) → 10 ≤ n → decimal n ≡ decimal (n / 10) ++ ((48 + n % 10) ∷ [])
unfolding decimal digits_of
decimal_large n h =
    ap (λ (b : Bool). digits_of (suc n) b n) (le-ltb n 10 h)
    ∙ ap (λ (l : List ℕ). l ++ ((48 + n % 10) ∷ [])) (digits_same n (suc (n / 10)) (n / 10) (omega arith) (omega arith))

-- A number below a power of ten.
decimal_within : (k n : ℕ) → n < 10 ^ suc k → length (decimal n) ≤ suc k
decimal_within zero n h = omega (arith, ap length (decimal_small n (omega arith)))
decimal_within (suc k) n h = by_test (λ cut. decimal_within k (n / 10) cut) (ltb n 10) refl
  where
    by_test : (n / 10 < 10 ^ suc k → length (decimal (n / 10)) ≤ suc k) → (b : Bool) → ltb n 10 ≡ b → length (decimal n) ≤ suc (suc k)
    by_test next true e = omega (arith, ap length (decimal_small n (ltb-true n 10 e)))
    by_test next false e =
        let cut : n / 10 < 10 ^ suc k = omega arith in
        omega (arith, ap length (decimal_large n (ltb-false n 10 e)), length-append (decimal (n / 10)) ((48 + n % 10) ∷ []), next cut)

-- 20 digits hold every number below 2^64.
pub decimal_short : (n : ℕ) → n < 18446744073709551616 → length (decimal n) ≤ 20
decimal_short n h = decimal_within 19 n (omega arith)

pub decimal_some : (n : ℕ) → 1 ≤ length (decimal n)
decimal_some n = by_test (ltb n 10) refl
  where
    by_test : (b : Bool) → ltb n 10 ≡ b → 1 ≤ length (decimal n)
    by_test true e = omega (arith, ap length (decimal_small n (ltb-true n 10 e)))
    by_test false e = omega (arith, ap length (decimal_large n (ltb-false n 10 e)), length-append (decimal (n / 10)) ((48 + n % 10) ∷ []))

pub small_length : (n : ℕ) → n < 10 → length (decimal n) ≡ 1
small_length n h = ap length (decimal_small n h)

pub large_length : (n : ℕ) → 10 ≤ n → length (decimal n) ≡ length (decimal (n / 10)) + 1
large_length n h = ap length (decimal_large n h) ∙ length-append (decimal (n / 10)) ((48 + n % 10) ∷ [])

-- ---- written into a room

pub put_small : (room : List ℕ) (at n d : ℕ) → n < 10 → at + length (decimal n) ≤ length room → d ≡ 48 + n → set room at d ≡ put room at (decimal n)
put_small room at n d h fits e =
    set-put room at d (omega (arith, small_length n h, fits)) ∙ ap (put room at) (ap (λ (x : ℕ). x ∷ []) e ∙ sym (decimal_small n h))

-- One character right behind a text.
pub put_behind : (room text r : List ℕ) (at p d : ℕ) → at + length text < length room → p ≡ at + length text → r ≡ put room at text → set r p d ≡ put room at (text ++ (d ∷ []))
put_behind room text r at p d h e is =
    let long : length (put room at text) ≡ length room = length-put room text at (omega arith) in
    ap₂ (λ (l : List ℕ) (q : ℕ). set l q d) is e
    ∙ (set-put (put room at text) (at + length text) d (omega (arith, long)) ∙ put-put room text (d ∷ []) at (omega arith))

pub put_large : (room room' : List ℕ) (at n place d : ℕ) → 10 ≤ n → at + length (decimal n) ≤ length room → place ≡ at + length (decimal (n / 10)) → room' ≡ put room at (decimal (n / 10))
    → d ≡ 48 + n % 10 → set room' place d ≡ put room at (decimal n)
put_large room room' at n place d h fits p r e =
    put_behind room (decimal (n / 10)) room' at place d (omega (arith, large_length n h, fits)) p r
    ∙ ap (put room at) (ap (λ (x : ℕ). decimal (n / 10) ++ (x ∷ [])) e ∙ sym (decimal_large n h))
