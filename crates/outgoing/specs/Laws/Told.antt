-- What a question is answered, by cases.
use Rattle.std.specs.Prelude.{ℕ, ◌<◌, Bool, true, false, cond, ◌≡◌, refl, ltb}
use Rattle.std.proofs.Common.{arith, ap, eq-eqb, ne_eqb}
use Rattle.common.specs.Answer.{done, refused}
use Rattle.seq.specs.Seq.{plus_of}
use Rattle.seq.specs.declared.SeqNum.{SeqNum}
use Rattle.outgoing.specs.Read.{told_of, any_of, last_acked_of}

pub told_sound : {A : Type 0} (b : Bool) (a : A) → b ≡ true → told_of b a ≡ done a
told_sound b a e = ap (λ (t : Bool). told_of t a) e

pub told_unsound : {A : Type 0} (b : Bool) (a : A) → b ≡ false → told_of b a ≡ refused 19
told_unsound b a e = ap (λ (t : Bool). told_of t a) e

-- What a sound state tells only has to be right where it is sound.
pub told_alike : {A : Type 0} (b : Bool) (a a' : A) → (b ≡ true → a ≡ a') → told_of b a ≡ told_of b a'
told_alike true a a' same = ap done (same refl)
told_alike false a a' same = refl

pub any_told : (b : Bool) (n : ℕ) → any_of (told_of b n) ≡ told_of b (ltb 0 n)
any_told true n = refl
any_told false n = refl

pub none_acked : (initial : SeqNum) (gone : ℕ) → gone ≡ 0 → last_acked_of initial gone ≡ record { 0 = 0 }
none_acked initial gone e = ap (λ (t : Bool). cond t (record { 0 = 0 }) (plus_of initial gone)) (eq-eqb _ _ e)

pub some_acked : (initial : SeqNum) (gone : ℕ) → 0 < gone → last_acked_of initial gone ≡ plus_of initial gone
some_acked initial gone h = ap (λ (t : Bool). cond t (record { 0 = 0 }) (plus_of initial gone)) (ne_eqb gone 0 (λ (e : gone ≡ 0). omega (arith, e, h)))
