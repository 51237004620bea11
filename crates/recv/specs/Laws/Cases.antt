-- Which case a test picks.
use Rattle.std.specs.Prelude.{ℕ, ◌<◌, ◌≤◌, Bool, true, false, cond, ◌&&◌, ◌⊎◌, ◌≡◌, refl, ltb, eqb}
use Rattle.std.proofs.Common.{inl, inr, arith, ltb-true, ltb-false, eqb-true}
use Rattle.std.proofs.lemmas.Bool.{eqb-false}

module _ {A : Type 0} (x y : A) where
  pub cond_true : (b : Bool) → b ≡ true → cond b x y ≡ x
  cond_true true h = refl
  cond_true false h = absurd (no h)
    where
      no : false ≡ true → ⊥
      no e = let z : ◌≡◌ {A = ℕ} 0 1 = cc in omega arith

  pub cond_false : (b : Bool) → b ≡ false → cond b x y ≡ y
  cond_false false h = refl
  cond_false true h = absurd (no h)
    where
      no : true ≡ false → ⊥
      no e = let z : ◌≡◌ {A = ℕ} 0 1 = cc in omega arith

pub and_true : (a b : Bool) → a ≡ true → a && b ≡ b
and_true a b h = rw h

pub and_false : (a b : Bool) → a ≡ false → a && b ≡ false
and_false a b h = rw h

pub lt_or_ge : (m n : ℕ) → (m < n) ⊎ (n ≤ m)
lt_or_ge m n = by (ltb m n) refl
  where
    by : (b : Bool) → ltb m n ≡ b → (m < n) ⊎ (n ≤ m)
    by true e = inl (ltb-true m n e)
    by false e = inr (ltb-false m n e)

pub eq_or_ne : (m n : ℕ) → (m ≡ n) ⊎ (m ≡ n → ⊥)
eq_or_ne m n = by (eqb m n) refl
  where
    by : (b : Bool) → eqb m n ≡ b → (m ≡ n) ⊎ (m ≡ n → ⊥)
    by true e = inl (eqb-true m n e)
    by false e = inr (eqb-false m n e)
