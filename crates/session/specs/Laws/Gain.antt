-- The patterns of a NaN are the NaN.
use Rattle.std.specs.Prelude.{ℕ, ◌/◌, ◌%◌, Bool, true, not, cond, ◌≡◌, eqb, leb}
use Rattle.std.proofs.Common.{ap, ◌∙◌, eqb-true}
use Rattle.std.specs.Float.{nan, inf, binary64}
use Rattle.std.specs.Float.Ieee.{top, hid, of_fields, of_bits, nan_bits}
use Rattle.std.proofs.lemmas.Bool.{not-true}
use Rattle.congestion.specs.Laws.Numbers.{both}
use Rattle.session.specs.Format.{gain_of}

pub nan_gain : (bits : ℕ) → nan_bits binary64 bits ≡ true → gain_of bits ≡ nan
unfolding gain_of of_bits nan_bits of_fields
nan_gain bits e =
    let b = both (eqb (bits % top binary64 / hid binary64) 2047) (not (eqb (bits % hid binary64) 0)) e in
    ap (λ (x : ℕ). of_fields binary64 (leb (top binary64) bits) x (bits % hid binary64)) (eqb-true (bits % top binary64 / hid binary64) 2047 b.0)
    ∙ ap (λ (t : Bool). cond t (inf (leb (top binary64) bits)) nan) (not-true (eqb (bits % hid binary64) 0) b.1)
