-- Numbers and their bytes, and fields of any widths and their bytes: each gives the other back.
use Rattle.std.specs.Prelude.{ℕ, zero, suc, ◌+◌, ◌*◌, ◌-◌, ◌/◌, ◌%◌, ◌^◌, ◌≤◌, ◌<◌, List, [], ◌∷◌, ◌++◌, ◌≡◌, refl, length, take, drop}
use Rattle.std.proofs.Math.Nat.{mod-one, mul-add-div_right, mul-add-mod_self_right}
use Rattle.std.proofs.Common.{mod-eq_of_lt, mul_comm, pow-suc, arith, append_assoc, ◌∙◌, ap, ap₂, sym, length-drop, pow-add, take_at, drop_at, take-add, length-take-le}
use Rattle.std.proofs.Math.Arith.{mod-mul, digits_div, digits_lt}
use Rattle.common.specs.Bytes.{AllBytes}
use Rattle.packet.specs.Layout.{big, bytes, fields_of, bytes_of}
use Rattle.packet.specs.Laws.Number.{pow_256_pos}

-- ---- numbers and their bytes

pub length-bytes : (w n : ℕ) → length (bytes w n) ≡ w
length-bytes zero n = refl
length-bytes (suc w) n = ap suc (length-bytes w n)

pub big-bytes : (w n : ℕ) → big (bytes w n) ≡ n % 256 ^ w
big-bytes zero n = sym (mod-one n)
big-bytes (suc w) n =
    rw (length-bytes w n, big-bytes w n, pow-suc 256 w, mul_comm (256 ^ w) 256) (sym (mod-mul n {m = 256} {c = 256 ^ w} (omega arith) (pow_256_pos w)))

pub big_bound : (l : List ℕ) → AllBytes l → big l < 256 ^ length l
big_bound [] h = omega arith
big_bound (b ∷ bs) h = rw (pow-suc 256 (length bs), mul_comm (256 ^ length bs) 256) (digits_lt {c = 256 ^ length bs} h.0 (big_bound bs h.1))

-- The bytes of a number do not turn on what stands above them.
bytes_above : (w k q r : ℕ) → w ≤ k → bytes w (q * 256 ^ k + r) ≡ bytes w r
bytes_above zero k q r h = refl
bytes_above (suc w) k q r h =
    let j = k - suc w in
    let power : 256 ^ k ≡ 256 ^ j * (256 ^ w * 256) = ap (λ (e : ℕ). 256 ^ e) (sum j (omega arith)) ∙ (pow-add 256 j (suc w) ∙ ap (λ (m : ℕ). 256 ^ j * m) (pow-suc 256 w)) in
    let digit : (q * 256 ^ k + r) / 256 ^ w % 256 ≡ r / 256 ^ w % 256 =
    ap (λ (n : ℕ). n / 256 ^ w % 256) (regroup (256 ^ k) (256 ^ j) (256 ^ w) power)
    ∙ (ap (λ (n : ℕ). n % 256) (mul-add-div_right (pow_256_pos w) (q * 256 ^ j * 256) r) ∙ mul-add-mod_self_right (q * 256 ^ j) 256 (r / 256 ^ w)) in
    ap₂ ◌∷◌ digit (bytes_above w k q r (omega arith))
  where
    sum : (j : ℕ) → j + suc w ≡ k → k ≡ j + suc w
    sum j e = sym e

    regroup : (a b c : ℕ) → a ≡ b * (c * 256) → q * a + r ≡ q * b * 256 * c + r
    regroup a b c e = rw e (omega arith)

pub bytes-big : (l : List ℕ) → AllBytes l → bytes (length l) (big l) ≡ l
bytes-big [] h = refl
bytes-big (b ∷ bs) h =
    let bound = big_bound bs h.1 in
    let digit : (b * 256 ^ length bs + big bs) / 256 ^ length bs % 256 ≡ b = ap (λ (n : ℕ). n % 256) (digits_div b bound) ∙ mod-eq_of_lt h.0 in
    ap₂ ◌∷◌ digit (bytes_above (length bs) (length bs) b (big bs) (omega arith) ∙ bytes-big bs h.1)

-- ---- fields and their bytes

-- Each value fits its width.
abbrev pub Fitted : List ℕ → List ℕ → Type 0
Fitted [] [] = Unit {0}
Fitted [] (v ∷ vs) = ⊥
Fitted (w ∷ ws) [] = ⊥
Fitted (w ∷ ws) (v ∷ vs) = (v < 256 ^ w) × Fitted ws vs

pub fields_of-bytes : (ws vs rest : List ℕ) → Fitted ws vs → fields_of ws (bytes_of ws vs ++ rest) ≡ vs
unfolding fields_of bytes_of
fields_of-bytes [] [] rest h = refl
fields_of-bytes [] (v ∷ vs) rest h = absurd h
fields_of-bytes (w ∷ ws) [] rest h = absurd h
fields_of-bytes (w ∷ ws) (v ∷ vs) rest h =
    let l = bytes_of ws vs ++ rest in
    let whole : (bytes w v ++ bytes_of ws vs) ++ rest ≡ bytes w v ++ l = append_assoc (bytes w v) (bytes_of ws vs) rest in
    let front : take w (bytes w v ++ l) ≡ bytes w v = take_at (bytes w v) l w (length-bytes w v) in
    let back : drop w (bytes w v ++ l) ≡ l = drop_at (bytes w v) l w (length-bytes w v) in
    rw (whole, front, back, big-bytes w v, mod-eq_of_lt h.0, fields_of-bytes ws vs rest h.1)

abbrev pub sum_of : List ℕ → ℕ
sum_of [] = 0
sum_of (w ∷ ws) = w + sum_of ws

pub all_bytes_take : (n : ℕ) (l : List ℕ) → AllBytes l → AllBytes (take n l)
all_bytes_take zero l h = tt
all_bytes_take (suc n) [] h = tt
all_bytes_take (suc n) (b ∷ bs) h = (h.0, all_bytes_take n bs h.1)

pub all_bytes_drop : (n : ℕ) (l : List ℕ) → AllBytes l → AllBytes (drop n l)
all_bytes_drop zero l h = h
all_bytes_drop (suc n) [] h = tt
all_bytes_drop (suc n) (b ∷ bs) h = all_bytes_drop n bs h.1

pub bytes_of_fields : (ws l : List ℕ) → AllBytes l → sum_of ws ≤ length l → bytes_of ws (fields_of ws l) ≡ take (sum_of ws) l
unfolding fields_of bytes_of
bytes_of_fields [] l h k = refl
bytes_of_fields (w ∷ ws) l h k =
    let width : length (take w l) ≡ w = length-take-le w l (omega arith) in
    let front : bytes w (big (take w l)) ≡ take w l = ap (λ (n : ℕ). bytes n (big (take w l))) (sym width) ∙ bytes-big (take w l) (all_bytes_take w l h) in
    let left : sum_of ws ≤ length (drop w l) = simp length-drop (omega arith) in
    rw (front, bytes_of_fields ws (drop w l) (all_bytes_drop w l h) left, take-add w (sum_of ws) l)
