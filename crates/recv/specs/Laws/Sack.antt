-- The selective ACK: what each of its bits means and how long it is, once for every length.
use Rattle.std.specs.Prelude.{ℕ, zero, suc, ◌+◌, ◌-◌, ◌*◌, ◌/◌, ◌%◌, ◌^◌, ◌≤◌, ◌<◌, Bool, true, false, cond, List, [], ◌∷◌, ◌++◌, ◌≡◌, refl, leb, ltb, eqb, length, take, drop, get_or}
use Rattle.std.proofs.Common.{⊎_elim, ap, sym, ◌∙◌, add-zero, zero-add, not-suc-le-zero, le_of_suc-le-suc, div-one, add-one, arith, lt-ltb, le-leb, pow_mono, take_all, length-take-le}
use Rattle.std.proofs.Math.Nat.{zero-div, div-div-eq-div-mul}
use Rattle.std.proofs.lemmas.Bool.{lt-leb}
use Rattle.std.proofs.Math.ListN.{get_or-eq_default}
use Rattle.std.proofs.Math.Seq.{paste}
use Rattle.packet.specs.Sack.{bit_of}
use Rattle.recv.specs.Table.{waits, binary_of, tabled, sack_bit_of, sack_byte_of, sack_length_of, sack_of, waits_at}
use Rattle.recv.specs.State.{table_of, sound_of}
use Rattle.recv.specs.Calls.{acked_of, acked_room_of}
use Rattle.recv.specs.Laws.Cases.{cond_true, cond_false, and_true, and_false, lt_or_ge}
use Rattle.recv.specs.declared.ReceiveBuffer.{ReceiveBuffer}
use Rattle.recv.specs.declared.Refusal.TheVariants.{NoRoom, NotSound}
use Rattle.recv.specs.declared.Told.TheVariants.{Is, Refused}

-- ---- a list by its places

pub length-tabled : {A : Type 0} (n : ℕ) (f : ℕ → A) → length (tabled n f) ≡ n
length-tabled zero f = refl
length-tabled (suc n) f = ap suc (length-tabled n (λ k. f (suc k)))

pub get_d_tabled : {A : Type 0} (n : ℕ) (f : ℕ → A) (i : ℕ) (d : A) → i < n → get_or (tabled n f) i d ≡ f i
get_d_tabled zero f i d h = absurd (not-suc-le-zero h)
get_d_tabled (suc n) f zero d h = refl
get_d_tabled (suc n) f (suc i) d h = get_d_tabled n (λ k. f (suc k)) i d (le_of_suc-le-suc h)

tabled_same : {A : Type 0} (n : ℕ) (f g : ℕ → A) → ((k : ℕ) → f k ≡ g k) → tabled n f ≡ tabled n g
tabled_same zero f g h = refl
tabled_same {A} (suc n) f g h =
    ap (λ (x : A). x ∷ tabled n (λ k. f (suc k))) (h 0) ∙ ap (λ (l : List A). g 0 ∷ l) (tabled_same n (λ k. f (suc k)) (λ k. g (suc k)) (λ k. h (suc k)))

-- ---- the number that a row of bits writes

twice : (n : ℕ) → 2 ^ suc n ≡ 2 * 2 ^ n
twice n = omega arith

pub binary_lt : (bs : List Bool) → binary_of bs < 2 ^ length bs
binary_lt [] = omega arith
binary_lt (true ∷ bs) = let rest = binary_lt bs in omega (arith, twice (length bs))
binary_lt (false ∷ bs) = let rest = binary_lt bs in rw (twice (length bs)) (omega arith)

-- one bit more, below
pub binary_more : (f : ℕ → Bool) (i m : ℕ) → binary_of (tabled (m + 1) (λ j. f (i + j))) ≡ cond (f i) 1 0 + 2 * binary_of (tabled m (λ j. f (i + 1 + j)))
binary_more f i m =
    ap (λ (n : ℕ). binary_of (tabled n (λ j. f (i + j)))) (add-one m)
    ∙ ap (λ (k : ℕ). cond (f k) 1 0 + 2 * binary_of (tabled m (λ j. f (i + suc j)))) (add-zero i)
    ∙ ap (λ (l : List Bool). cond (f i) 1 0 + 2 * binary_of l) (tabled_same m (λ j. f (i + suc j)) (λ j. f (i + 1 + j)) (λ j. ap f (next j)))
  where
    next : (j : ℕ) → i + suc j ≡ i + 1 + j
    next j = omega arith

-- a byte's bits from bit `left` up, as the code works them out
abbrev pub upper_of : List ℕ → (k left : ℕ) → ℕ
upper_of t k left = binary_of (tabled (8 - left) (λ j. sack_bit_of t (8 * k + (left + j))))

module _ (t : List ℕ) (k : ℕ) where
  pub upper_lt : (left : ℕ) → upper_of t k left < 256
  upper_lt left =
      let bits = tabled (8 - left) (λ j. sack_bit_of t (8 * k + (left + j))) in
      omega (arith, binary_lt bits, ap (λ (n : ℕ). 2 ^ n) (length-tabled (8 - left) (λ j. sack_bit_of t (8 * k + (left + j)))), pow_mono (less left))
    where
      less : (left : ℕ) → 8 - left ≤ 8
      less left = omega arith

  pub upper_more : (left : ℕ) → left < 8 → upper_of t k left ≡ cond (sack_bit_of t (8 * k + left)) 1 0 + 2 * upper_of t k (left + 1)
  upper_more left h =
      let f : ℕ → Bool = λ j. sack_bit_of t (8 * k + j) in
      let m = 8 - (left + 1) in
      let e : 8 - left ≡ m + 1 = omega arith in
      ap (λ (n : ℕ). binary_of (tabled n (λ j. f (left + j)))) e ∙ binary_more f left m

  pub upper_all : upper_of t k 0 ≡ sack_byte_of t k
  upper_all = ap binary_of (tabled_same 8 (λ j. sack_bit_of t (8 * k + (0 + j))) (λ j. sack_bit_of t (8 * k + j)) (λ j. ap (λ (n : ℕ). sack_bit_of t (8 * k + n)) (zero-add j)))

-- ---- the bytes

pub length-sack : (t : List ℕ) → length (sack_of t) ≡ sack_length_of t
unfolding sack_of
length-sack t = length-tabled (sack_length_of t) (sack_byte_of t)

pub sack_at : (t : List ℕ) (k : ℕ) → k < sack_length_of t → get_or (sack_of t) k 0 ≡ sack_byte_of t k
unfolding sack_of
sack_at t k h = get_d_tabled (sack_length_of t) (sack_byte_of t) k 0 h

-- ---- the answer: 19, 9, then the bytes

module _ (s : ReceiveBuffer) (room : List ℕ) where
  module _ (no : sound_of s ≡ false) where
    pub unsound_acked : Refused NotSound ≡ acked_of s (length room)
    unsound_acked = sym (cond_false _ _ _ no)

    pub unsound_acked_room : room ≡ acked_room_of s room
    unsound_acked_room = sym (cond_false _ _ _ (and_false (sound_of s) _ no))

  module _ (yes : sound_of s ≡ true) where
    module _ (short : length room < length (sack_of (table_of s))) where
      pub small_acked : Refused NoRoom ≡ acked_of s (length room)
      small_acked = sym (cond_true _ _ _ yes ∙ cond_false _ _ _ (lt-leb (length (sack_of (table_of s))) (length room) short))

      pub small_acked_room : room ≡ acked_room_of s room
      small_acked_room = sym (cond_false _ _ _ (and_true (sound_of s) _ yes ∙ lt-leb (length (sack_of (table_of s))) (length room) short))

    module _ (n : ℕ) (e : n ≡ length (sack_of (table_of s))) (fits : n ≤ length room) where
      enough : leb (length (sack_of (table_of s))) (length room) ≡ true
      enough = le-leb (length (sack_of (table_of s))) (length room) (omega arith)

      pub done_acked : Is n ≡ acked_of s (length room)
      done_acked = ap Is e ∙ sym (cond_true _ _ _ yes ∙ cond_true _ _ _ enough)

      pub done_acked_over : sack_of (table_of s) ++ drop n room ≡ acked_room_of s room
      done_acked_over =
          ap (λ (m : ℕ). sack_of (table_of s) ++ drop m room) e
          ∙ sym (cond_true _ _ _ (and_true (sound_of s) _ yes ∙ enough))

      pub done_acked_room : (after : List ℕ) → after ≡ paste room 0 (sack_of (table_of s)) n → after ≡ acked_room_of s room
      done_acked_room after h =
          let sack = sack_of (table_of s) in
          let whole : take n sack ≡ sack = take_all n sack (omega arith) in
          h
          ∙ ap (λ (l : List ℕ). l ++ drop (0 + n) room) whole
          ∙ ap (λ (m : ℕ). sack ++ drop m room) (zero-add n ∙ e)
          ∙ sym (cond_true _ _ _ (and_true (sound_of s) _ yes ∙ enough))

-- the length from the count of places
pub sack_length_is : (s : ReceiveBuffer) → s.span ≤ length s.waiting → (s.span - 1 + 31) / 32 * 4 ≡ sack_length_of (table_of s)
sack_length_is s all = ap (λ (n : ℕ). (n - 1 + 31) / 32 * 4) (sym (length-take-le s.span s.waiting all))

-- ---- what a bit means

-- the lowest bit of a row, and the others one below
lowest : (b : Bool) (v : ℕ) → (cond b 1 0 + 2 * v) % 2 ≡ cond b 1 0
lowest true v = omega arith
lowest false v = omega arith

others : (b : Bool) (v : ℕ) → (cond b 1 0 + 2 * v) / 2 ≡ v
others true v = omega arith
others false v = omega arith

binary_bit : (bs : List Bool) (j : ℕ) → binary_of bs / 2 ^ j % 2 ≡ cond (get_or bs j false) 1 0
binary_bit [] j = ap (λ (n : ℕ). n % 2) (zero-div (2 ^ j))
binary_bit (b ∷ bs) zero = ap (λ (n : ℕ). n % 2) (div-one (cond b 1 0 + 2 * binary_of bs)) ∙ lowest b (binary_of bs)
binary_bit (b ∷ bs) (suc j) =
    let v = cond b 1 0 + 2 * binary_of bs in
    ap (λ (n : ℕ). v / n % 2) (twice j)
    ∙ ap (λ (n : ℕ). n % 2) (sym (div-div-eq-div-mul v 2 (2 ^ j)))
    ∙ ap (λ (n : ℕ). n / 2 ^ j % 2) (others b (binary_of bs))
    ∙ binary_bit bs j

test_bit : (b : Bool) → eqb (cond b 1 0) 1 ≡ b
test_bit true = refl
test_bit false = refl

-- bit i is the table's entry i + 1, within the bytes and past them
pub bit_is : (t : List ℕ) (i : ℕ) → bit_of (sack_of t) i ≡ sack_bit_of t i
bit_is t i = ⊎_elim within past (lt_or_ge (i / 8) (sack_length_of t))
  where
    within : i / 8 < sack_length_of t → bit_of (sack_of t) i ≡ sack_bit_of t i
    within h =
        let f : ℕ → Bool = λ j. sack_bit_of t (8 * (i / 8) + j) in
        let whole : 8 * (i / 8) + i % 8 ≡ i = omega arith in
        let low : i % 8 < 8 = omega arith in
        ap (λ (n : ℕ). eqb (n / 2 ^ (i % 8) % 2) 1) (sack_at t (i / 8) h)
        ∙ ap (λ (n : ℕ). eqb n 1) (binary_bit (tabled 8 f) (i % 8))
        ∙ ap (λ (b : Bool). eqb (cond b 1 0) 1) (get_d_tabled 8 f (i % 8) false low)
        ∙ test_bit (f (i % 8))
        ∙ ap (λ (n : ℕ). sack_bit_of t n) whole

    past : sack_length_of t ≤ i / 8 → bit_of (sack_of t) i ≡ sack_bit_of t i
    past h =
        let none : length (sack_of t) ≤ i / 8 = rw (length-sack t) h in
        let end : length t ≤ i + 1 = omega arith in
        ap (λ (n : ℕ). eqb (n / 2 ^ (i % 8) % 2) 1) (get_or-eq_default (sack_of t) 0 none)
        ∙ ap (λ (n : ℕ). eqb (n % 2) 1) (zero-div (2 ^ (i % 8)))
        ∙ sym (ap waits (get_or-eq_default t 0 end))

-- bit i is set exactly when offset c + 2 + i waits
pub bit_means : (c : ℕ) (t : List ℕ) (i : ℕ) → bit_of (sack_of t) i ≡ waits_at c t (c + 2 + i)
bit_means c t i =
    let past : c < c + 2 + i = omega arith in
    let place : i + 1 ≡ c + 2 + i - (c + 1) = omega arith in
    bit_is t i ∙ ap (λ (n : ℕ). waits (get_or t n 0)) place ∙ sym (and_true (ltb c (c + 2 + i)) _ (lt-ltb c (c + 2 + i) past))

-- ---- how long it is: a multiple of 4, that reaches the furthest, and the least such

pub sack_fours : (t : List ℕ) → length (sack_of t) % 4 ≡ 0
sack_fours t = rw (length-sack t) (omega arith)

pub sack_reaches : (t : List ℕ) → length t - 1 ≤ 8 * length (sack_of t)
sack_reaches t = rw (length-sack t) (omega arith)

pub sack_least : (t : List ℕ) (n : ℕ) → n % 4 ≡ 0 → length t - 1 ≤ 8 * n → length (sack_of t) ≤ n
sack_least t n four reach = rw (length-sack t) (omega arith)

-- none with nothing waiting, and 32 bytes always suffice
pub sack-none : sack_of [] ≡ []
unfolding sack_of
sack-none = refl

pub sack-most : (t : List ℕ) → length t ≤ 256 → length (sack_of t) ≤ 32
sack-most t h = rw (length-sack t) (omega arith)
