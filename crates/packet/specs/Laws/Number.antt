-- Laws of big-endian numbers.
use Rattle.std.specs.Prelude.{ℕ, zero, suc, ◌+◌, ◌*◌, ◌/◌, ◌%◌, ◌^◌, ◌≤◌, ◌<◌, ◌≡◌, refl, List, [], ◌∷◌, ◌++◌, length, take, drop, get_or}
use Rattle.std.proofs.Common.{div-one, add-one, arith, ◌∙◌, ap, length-append, length-take, length-take-le, length-drop, pow-add, drop-cons, take-add, drop-drop}
use Rattle.std.specs.Int.{w16, w32, from_be_bytes}
use Rattle.packet.specs.Layout.{big, bytes}

pub pow_256_pos : (k : ℕ) → 0 < 256 ^ k
pow_256_pos zero = omega arith
pow_256_pos (suc k) = omega (arith, pow_256_pos k)

-- A number of two pieces.
pub big-append : (a b : List ℕ) → big (a ++ b) ≡ big a * 256 ^ length b + big b
big-append [] b = omega arith
big-append (x ∷ a) b = rw (length-append a b, pow-add 256 (length a) (length b), big-append a b) (omega arith)

-- The number in two bytes, and in twice two.
pub big-two : (l : List ℕ) (at : ℕ) → at + 2 ≤ length l → big (take 2 (drop at l)) ≡ get_or l at 0 * 256 + get_or l (at + 1) 0
big-two l at h =
    let first : drop at l ≡ get_or l at 0 ∷ drop (suc at) l = drop-cons l at 0 (omega arith) in
    let second : drop (suc at) l ≡ get_or l (suc at) 0 ∷ drop (suc (suc at)) l = drop-cons l (suc at) 0 (omega arith) in
    simp (add-one, first, second) (omega arith)

pub big_four : (l : List ℕ) (at : ℕ) → at + 4 ≤ length l → big (take 4 (drop at l)) ≡ big (take 2 (drop at l)) * 65536 + big (take 2 (drop (at + 2) l))
big_four l at h =
    let pieces : take 4 (drop at l) ≡ take 2 (drop at l) ++ take 2 (drop (at + 2) l) =
    take-add 2 2 (drop at l) ∙ ap (λ (t : List ℕ). take 2 (drop at l) ++ take 2 t) (drop-drop 2 at l) in
    let two : length (take 2 (drop (at + 2) l)) ≡ 2 = simp (length-take, length-drop) (omega arith) in
    rw (pieces, big-append, two) refl

-- The two bytes of a number, and the four of one.
pub bytes-two : (n : ℕ) → n < 65536 → bytes 2 n ≡ (n / 256) ∷ (n % 256) ∷ []
bytes-two n h =
    let high : n / 256 % 256 ≡ n / 256 = omega arith in
    simp (div-one, high)

pub bytes_four : (n : ℕ) → bytes 4 n ≡ bytes 2 (n / 65536) ++ bytes 2 (n % 65536)
bytes_four n =
    let b3 : n / 16777216 % 256 ≡ n / 65536 / 256 % 256 = omega arith in
    let b1 : n / 256 % 256 ≡ n % 65536 / 256 % 256 = omega arith in
    let b0 : n % 256 ≡ n % 65536 % 256 = omega arith in
    simp (div-one, b3, b1, b0)

-- What `from_be_bytes` reads, in the words of Layout: of two bytes and of four, and at a place of a list.
pub big_of_two : (l : List ℕ) → length l ≡ 2 → from_be_bytes w16 l ≡ big l
big_of_two [] e = absurd (omega arith)
big_of_two (a ∷ []) e = absurd (omega arith)
big_of_two (a ∷ b ∷ []) e = omega arith
big_of_two (a ∷ b ∷ c ∷ l) e = absurd (omega arith)

pub big_of_four : (l : List ℕ) → length l ≡ 4 → from_be_bytes w32 l ≡ big l
big_of_four [] e = absurd (omega arith)
big_of_four (a ∷ []) e = absurd (omega arith)
big_of_four (a ∷ b ∷ []) e = absurd (omega arith)
big_of_four (a ∷ b ∷ c ∷ []) e = absurd (omega arith)
big_of_four (a ∷ b ∷ c ∷ d ∷ []) e = omega arith
big_of_four (a ∷ b ∷ c ∷ d ∷ x ∷ l) e = absurd (omega arith)

pub size_there : (l : List ℕ) (at width : ℕ) → at + width ≤ length l → length (take width (drop at l)) ≡ width
size_there l at width h = length-take-le width (drop at l) (simp length-drop (omega arith))

module _ (l : List ℕ) (at n : ℕ) (bs : List ℕ) where
  pub two_read : at + 2 ≤ length l → n ≡ from_be_bytes w16 bs → bs ≡ take 2 (drop at l) → n ≡ big (take 2 (drop at l))
  two_read h e f = e ∙ (ap (from_be_bytes w16) f ∙ big_of_two (take 2 (drop at l)) (size_there l at 2 h))

  pub four_read : at + 4 ≤ length l → n ≡ from_be_bytes w32 bs → bs ≡ take 4 (drop at l) → n ≡ big (take 4 (drop at l))
  four_read h e f = e ∙ (ap (from_be_bytes w32) f ∙ big_of_four (take 4 (drop at l)) (size_there l at 4 h))
