-- The selective ACK (document 01, "Packets on the wire"; BEP 29 facts, section 3). Definitions only.
use Rattle.std.specs.Prelude.{ℕ, ◌+◌, ◌-◌, ◌*◌, ◌/◌, ◌%◌, ◌^◌, min, Bool, cond, List, eqb, ltb, length, get_or}
use Rattle.common.specs.Answer.{Answer, done, refused}
use Rattle.seq.specs.Seq.{plus_of}
use Rattle.seq.specs.declared.SeqNum.{SeqNum}

-- A mask has 8 bits a byte (held at what a `usize` can say).
abbrev pub bit_count_of : List ℕ → ℕ
bit_count_of mask = min (8 * length mask) (2 ^ 64 - 1)

-- Bit i stands in byte i / 8, and within a byte the order is from the lowest bit: bit 0 is the lowest bit of the first byte. Past the end no bit is set.
abbrev pub bit_of : List ℕ → ℕ → Bool
bit_of mask i = eqb (get_or mask (i / 8) 0 / 2 ^ (i % 8) % 2) 1

-- Bit 0 means ack + 2, since ack + 1 is taken to be the packet that is missing; each further bit means the next number.
abbrev pub meant_by : SeqNum → ℕ → SeqNum
meant_by ack i = plus_of ack (2 + i)

-- A SACK that is there: 0 to 3 bytes give 5; 4 or more, not a multiple of 4, 6.
abbrev pub words_answer : ℕ → Answer ℕ
words_answer n = cond (ltb n 4) (refused 5) (cond (eqb (n % 4) 0) (done n) (refused 6))

-- In writing and in an ack an empty SACK means none. 1 to 3 bytes give 5; 4 or more, not a multiple of 4, 6; above 252 bytes, 8.
abbrev pub mask_answer : ℕ → Answer ℕ
mask_answer n = cond (eqb n 0) (done 0) (cond (ltb n 4) (refused 5) (cond (eqb (n % 4) 0) (cond (ltb 252 n) (refused 8) (done n)) (refused 6)))
