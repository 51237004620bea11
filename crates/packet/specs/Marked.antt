-- The marked cases P1 to P5 of document 01, "Packets on the wire". An accepted datagram is shown as 0, its header's fields and what the case looks at; a refused one
-- as its number.
use Rattle.std.specs.Prelude.{ℕ, zero, suc, ◌+◌, cond, List, [], ◌∷◌, ◌++◌}
use Rattle.common.specs.Answer.{Answer, done, refused}
use Rattle.common.specs.Case.{Case}
use Rattle.packet.specs.Kind.{type_number}
use Rattle.packet.specs.Sack.{bit_of, bit_count_of}
use Rattle.packet.specs.Decode.{decode_of, part_of}
use Rattle.packet.specs.declared.decode.Packet.{Packet}
use Rattle.packet.specs.declared.header.Header.{Header}

abbrev shown_header : Header → List ℕ
shown_header h =
    type_number h.packet_type
    ∷ h.conn_id
    ∷ h.ts_micros
    ∷ h.ts_diff_micros
    ∷ h.window_size
    ∷ h.seq_num.0
    ∷ h.ack_num.0
    ∷ []

-- the bits that are set among n bits from i on
abbrev set_bits : List ℕ → ℕ → ℕ → List ℕ
set_bits mask zero i = []
set_bits mask (suc n) i = cond (bit_of mask i) (i ∷ []) [] ++ set_bits mask n (i + 1)

-- with the payload's bytes
abbrev shown : List ℕ → Answer Packet → List ℕ
shown d (refused n) = n ∷ []
shown d (done p) = 0 ∷ (shown_header p.header ++ part_of p.payload d)

-- with the SACK's bits
abbrev shown_bits : List ℕ → Answer Packet → List ℕ
shown_bits d (refused n) = n ∷ []
shown_bits d (done p) = 0 ∷ set_bits (part_of p.sack d) (bit_count_of (part_of p.sack d)) 0

abbrev p2 : List ℕ
p2 = 0x01 ∷ 0x00 ∷ 0x12 ∷ 0x34 ∷ 0 ∷ 0 ∷ 0 ∷ 1 ∷ 0 ∷ 0 ∷ 0 ∷ 2 ∷ 0 ∷ 0 ∷ 0x10 ∷ 0 ∷ 0 ∷ 5 ∷ 0 ∷ 4 ∷ []

-- a State header that names extension 1
abbrev state : List ℕ
state = 0x21 ∷ 0x01 ∷ 0x12 ∷ 0x34 ∷ 0 ∷ 0 ∷ 0 ∷ 1 ∷ 0 ∷ 0 ∷ 0 ∷ 2 ∷ 0 ∷ 0 ∷ 0x10 ∷ 0 ∷ 0 ∷ 5 ∷ 0 ∷ 4 ∷ []

abbrev p1 : List ℕ
p1 = p2 ++ (0x41 ∷ [])

abbrev p3 : List ℕ
p3 = state ++ (0 ∷ 4 ∷ 0x05 ∷ 0 ∷ 0 ∷ 0x80 ∷ [])

abbrev p4 : List ℕ
p4 = state ++ (0 ∷ 5 ∷ 1 ∷ 2 ∷ 3 ∷ 4 ∷ 5 ∷ [])

abbrev p5 : List ℕ
p5 = state ++ (0 ∷ 4 ∷ 1 ∷ 2 ∷ 3 ∷ [])

unfoldable pub cases : List Case
unfolding decode_of
cases =
    record { mark = "P1"; found = shown p1 (decode_of p1); written = 0 ∷ 0 ∷ 0x1234 ∷ 1 ∷ 2 ∷ 4096 ∷ 5 ∷ 4 ∷ 0x41 ∷ [] }
    ∷ record { mark = "P2"; found = shown p2 (decode_of p2); written = 7 ∷ [] }
    ∷ record { mark = "P3"; found = shown_bits p3 (decode_of p3); written = 0 ∷ 0 ∷ 2 ∷ 31 ∷ [] }
    ∷ record { mark = "P4"; found = shown p4 (decode_of p4); written = 6 ∷ [] }
    ∷ record { mark = "P5"; found = shown p5 (decode_of p5); written = 4 ∷ [] }
    ∷ []
