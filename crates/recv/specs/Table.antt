-- The table of waiting lengths: one entry for each offset past the c payloads in order, up to the furthest that waits; 0 where nothing waits, else the
-- payload's length plus 1, so that empty payloads count. Document 01's rules that speak of lengths and offsets only. Definitions only.
use Rattle.std.specs.Prelude.{ℕ, zero, suc, ◌+◌, ◌-◌, ◌*◌, ◌/◌, Bool, true, false, cond, ◌&&◌, ◌||◌, List, [], ◌∷◌, leb, ltb, length, get_or}

-- ---- the table

-- does an entry stand for a payload that waits?
abbrev pub waits : ℕ → Bool
waits zero = false
waits (suc n) = true

-- how many bytes the payloads of a table hold
abbrev pub bytes_in : List ℕ → ℕ
bytes_in [] = 0
bytes_in (x ∷ xs) = (x - 1) + bytes_in xs

-- how many payloads of a table wait
abbrev pub how_many : List ℕ → ℕ
how_many [] = 0
how_many (x ∷ xs) = cond (waits x) 1 0 + how_many xs

-- does the last entry wait? b where there is none
abbrev pub last_waits : Bool → List ℕ → Bool
last_waits b [] = b
last_waits b (x ∷ xs) = last_waits (waits x) xs

-- how many entries at the front wait, one behind the other
abbrev pub run_of : List ℕ → ℕ
run_of [] = 0
run_of (zero ∷ xs) = 0
run_of (suc n ∷ xs) = suc (run_of xs)

-- ---- document 01, "Receiving"

-- a buffer has 1 to 65,536 bytes
abbrev pub largest_length : ℕ
largest_length = 65536

-- an offset above 60,000 is refused (15)
abbrev pub limit : ℕ
limit = 60000

-- more than 256 ahead of the c payloads in order is refused (16)
abbrev pub ahead : ℕ
ahead = 256

-- does offset o wait, behind c payloads in order?
abbrev pub waits_at : ℕ → List ℕ → ℕ → Bool
waits_at c table o = ltb c o && waits (get_or table (o - (c + 1)) 0)

-- an offset that is at most c, or waits, is already there
unfoldable pub there_of : ℕ → List ℕ → ℕ → Bool
there_of c table o = leb o c || waits_at c table o

-- the free room is the length less ready less waiting
abbrev pub free_of : ℕ → ℕ → List ℕ → ℕ
free_of size ready table = size - ready - bytes_in table

-- ---- document 01, "Receiving", and BEP 29 facts, section 3: the selective ACK

-- the number that a row of bits writes, the lowest first
abbrev pub binary_of : List Bool → ℕ
binary_of [] = 0
binary_of (b ∷ bs) = cond b 1 0 + 2 * binary_of bs

-- f 0, f 1, .. f (n - 1)
abbrev pub tabled : {A : Type 0} → ℕ → (ℕ → A) → List A
tabled zero f = []
tabled (suc n) f = let rest = tabled n (λ k. f (suc k)) in f 0 ∷ rest

-- bit 0 is c + 2, which stands one place past the first in the table
abbrev pub sack_bit_of : List ℕ → ℕ → Bool
sack_bit_of table i = waits (get_or table (i + 1) 0)

-- byte k has bits 8 k to 8 k + 7, the lowest first
abbrev pub sack_byte_of : List ℕ → ℕ → ℕ
sack_byte_of table k = binary_of (tabled 8 (λ j. sack_bit_of table (8 * k + j)))

-- It runs to the furthest waiting packet, padded to 32 bits. A table of n entries has n - 1 bits; none with nothing waiting.
abbrev pub sack_length_of : List ℕ → ℕ
sack_length_of table = (length table - 1 + 31) / 32 * 4

unfoldable pub sack_of : List ℕ → List ℕ
sack_of table = tabled (sack_length_of table) (sack_byte_of table)
