-- The facts of a selective ACK, for a mask of any length.
use Rattle.std.specs.Prelude.{ℕ, zero, suc, ◌+◌, ◌*◌, ◌/◌, ◌%◌, ◌^◌, ◌≤◌, ◌<◌, Bool, true, false, List, [], ◌∷◌, ◌≡◌, refl, eqb, length, get_or}
use Rattle.std.proofs.Math.Nat.{zero-div, div-div-eq-div-mul, pow-succ'}
use Rattle.std.proofs.Common.{div-one, arith, ◌∙◌, ap, sym, ext_get_or, eqb-true}
use Rattle.std.proofs.Math.ListN.{get_or-eq_default}
use Rattle.std.proofs.lemmas.Bool.{eqb-false}
use Rattle.packet.specs.Sack.{bit_of, meant_by}
use Rattle.seq.specs.Seq.{offset_of}
use Rattle.common.specs.Bytes.{AllBytes}
use Rattle.seq.specs.declared.SeqNum.{SeqNum}

-- Past the end no bit is set.
pub bit_past : (mask : List ℕ) (i : ℕ) → 8 * length mask ≤ i → bit_of mask i ≡ false
bit_past mask i h =
    let past : get_or mask (i / 8) 0 ≡ 0 = get_or-eq_default mask 0 (omega arith) in
    simp (past, zero-div)

-- Bit k of byte j is bit 8 j + k of the mask.
pub bit_of_byte : (mask : List ℕ) (j k : ℕ) → k < 8 → bit_of mask (8 * j + k) ≡ eqb (get_or mask j 0 / 2 ^ k % 2) 1
bit_of_byte mask j k h =
    let byte : (8 * j + k) / 8 ≡ j = omega arith in
    let bit : (8 * j + k) % 8 ≡ k = omega arith in
    simp (byte, bit)

-- Two numbers with the same bits are one number,
bit_is : (a b : ℕ) → eqb (a % 2) 1 ≡ eqb (b % 2) 1 → a % 2 ≡ b % 2
bit_is a b e = go (eqb (a % 2) 1) (eqb (b % 2) 1) refl refl e
  where
    go : (x y : Bool) → eqb (a % 2) 1 ≡ x → eqb (b % 2) 1 ≡ y → x ≡ y → a % 2 ≡ b % 2
    go true true p q f = eqb-true _ _ p ∙ sym (eqb-true _ _ q)
    go true false p q f = let z : ◌≡◌ {A = ℕ} 0 1 = cc in absurd (omega arith)
    go false true p q f = let z : ◌≡◌ {A = ℕ} 0 1 = cc in absurd (omega arith)
    go false false p q f = omega (arith, eqb-false (a % 2) 1 p, eqb-false (b % 2) 1 q)

by_bits : (w a b : ℕ) → a < 2 ^ w → b < 2 ^ w → ((k : ℕ) → k < w → a / 2 ^ k % 2 ≡ b / 2 ^ k % 2) → a ≡ b
by_bits zero a b h k same = omega arith
by_bits (suc w) a b h k same =
    let low : a % 2 ≡ b % 2 = rw (div-one a, div-one b) at (same 0 (omega arith)) in
    let high : a / 2 ≡ b / 2 =
    by_bits w (a / 2) (b / 2) (omega arith) (omega arith) (λ i below. halved a i ∙ (same (suc i) (omega arith) ∙ sym (halved b i))) in
    omega arith
  where
    halved : (n i : ℕ) → n / 2 / 2 ^ i % 2 ≡ n / 2 ^ suc i % 2
    halved n i = ap (λ (m : ℕ). m % 2) (div-div-eq-div-mul n 2 (2 ^ i) ∙ ap (λ (m : ℕ). n / m) (sym (pow-succ' 2 i)))

-- and two masks of one length with the same bits are one mask: the bits are all that a mask says.
pub mask_by_bits : (m n : List ℕ) → AllBytes m → AllBytes n → length m ≡ length n → ((i : ℕ) → bit_of m i ≡ bit_of n i) → m ≡ n
mask_by_bits m n h k e same = ext_get_or 0 m n e (λ j below. by_bits 8 (get_or m j 0) (get_or n j 0) (byte_at m h j) (byte_at n k j) (λ b small. bit_is _ _ (sym (bit_of_byte m j b small) ∙ (same (8 * j + b) ∙ bit_of_byte n j b small))))
  where
    byte_at : (l : List ℕ) → AllBytes l → (j : ℕ) → get_or l j 0 < 256
    byte_at [] a j = omega arith
    byte_at (x ∷ l) a zero = a.0
    byte_at (x ∷ l) a (suc j) = byte_at l a.1 j

-- The number that bit i stands for lies i + 2 past the ack.
pub offset_of_meant : (ack : SeqNum) (i : ℕ) → ack.0 < 2 ^ 16 → i + 2 < 2 ^ 16 → (offset_of (meant_by ack i) ack).0 ≡ i + 2
offset_of_meant ack i h k = omega arith
