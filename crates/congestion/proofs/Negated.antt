-- The float of a difference below zero is the negated float of its size, since rounding does not look at the sign.
use Rattle.std.proofs.Common.{◌≡◌, ℕ, zero, suc, ◌-◌, ◌*◌, ◌^◌, ◌<◌, Bool, true, false, cond, ltb, ℤ, pos, sym, refl, ap, ◌∙◌, arith}
use lib.IntN.{sub_ℕ}
use lib.Ieee.{inf, Format, prec, low, odd, units, round, neg, of_int}
use lib.Ieee.Fits.{round_is}
use Rattle.congestion.specs.Laws.Trip.{sub_from_below}

odd_negated : (d q k l : ℕ) → neg (odd d false q k l) ≡ odd d true q k l
unfolding odd neg
odd_negated d zero k l = refl
odd_negated d (suc q) k l = refl

units_negated : (f : Format) (q k : ℕ) → neg (units f false q k) ≡ units f true q k
unfolding units neg
units_negated f q k = either (ltb (q * 2 ^ k) _)
  where
    either : (b : Bool) → neg (cond b (odd (suc (prec f)) false q k (low f)) (inf false)) ≡ cond b (odd (suc (prec f)) true q k (low f)) (inf true)
    either true = odd_negated (suc (prec f)) q k (low f)
    either false = refl

pub round_negated : (f : Format) (a c : ℕ) → neg (round f false a c) ≡ round f true a c
round_negated f a c = ap neg (round_is f false a c) ∙ units_negated f _ _ ∙ sym (round_is f true a c)

pub negated_below : (f : Format) (a b : ℕ) → a < b → neg (of_int f (pos (b - a))) ≡ of_int f (sub_ℕ a b)
unfolding of_int
negated_below f a b h =
    let e : suc (b - suc a) ≡ b - a = omega arith in
    round_negated f (b - a) 1
    ∙ ap (λ (n : ℕ). round f true n 1) (sym e)
    ∙ ap (λ (z : ℤ). of_int f z) (sym (sub_from_below a b h))
