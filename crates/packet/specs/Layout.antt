-- The layout of a header (document 01, "Packets on the wire"; BEP 29 facts, section 1), said once for the reader and the writer. Definitions only.
use Rattle.std.specs.Prelude.{ℕ, suc, zero, ◌+◌, ◌*◌, ◌/◌, ◌%◌, ◌^◌, List, [], ◌∷◌, ◌++◌, Bool, false, cond, length, take, drop, get_or, eqb}
use Rattle.packet.specs.Kind.{type_number, type_of}
use Rattle.packet.specs.declared.header.Header.{Header}
use Rattle.packet.specs.declared.kind.PacketType.{PacketType}

-- Big-endian: the most significant byte comes first.
abbrev pub big : List ℕ → ℕ
big [] = 0
big (b ∷ bs) = b * 256 ^ length bs + big bs

-- The `width` bytes of a number.
abbrev pub bytes : ℕ → ℕ → List ℕ
bytes zero n = []
bytes (suc width) n = (n / 256 ^ width % 256) ∷ bytes width n

-- What is read from bytes that are laid out in fields of these widths, and what is written for these values.
unfoldable pub fields_of : List ℕ → List ℕ → List ℕ
fields_of [] l = []
fields_of (w ∷ ws) l = big (take w l) ∷ fields_of ws (drop w l)

unfoldable pub bytes_of : List ℕ → List ℕ → List ℕ
bytes_of [] vs = []
bytes_of (w ∷ ws) [] = []
bytes_of (w ∷ ws) (v ∷ vs) = bytes w v ++ bytes_of ws vs

-- 20 bytes: type and version; first extension; connection 2; timestamp 4; timestamp difference 4; window 4; sequence 2; ack 2.
abbrev pub widths : List ℕ
widths = 1 ∷ 1 ∷ 2 ∷ 4 ∷ 4 ∷ 4 ∷ 2 ∷ 2 ∷ []

abbrev pub header_length : ℕ
header_length = 20

-- The type stands in the high four bits of the first byte, the version in the low four; the version is 1.
abbrev pub fields_of_header : Header → ℕ → List ℕ
fields_of_header h extension =
    (16 * type_number h.packet_type + 1)
    ∷ extension
    ∷ h.conn_id
    ∷ h.ts_micros
    ∷ h.ts_diff_micros
    ∷ h.window_size
    ∷ h.seq_num.0
    ∷ h.ack_num.0
    ∷ []

abbrev pub type_field : List ℕ → ℕ
type_field l = get_or (fields_of widths l) 0 0 / 16

abbrev pub version_field : List ℕ → ℕ
version_field l = get_or (fields_of widths l) 0 0 % 16

abbrev pub extension_field : List ℕ → ℕ
extension_field l = get_or (fields_of widths l) 1 0

abbrev pub header_with : PacketType → List ℕ → Header
header_with type l =
    record {
      packet_type = type;
      conn_id = get_or (fields_of widths l) 2 0;
      ts_micros = get_or (fields_of widths l) 3 0;
      ts_diff_micros = get_or (fields_of widths l) 4 0;
      window_size = get_or (fields_of widths l) 5 0;
      seq_num = record { 0 = get_or (fields_of widths l) 6 0 };
      ack_num = record { 0 = get_or (fields_of widths l) 7 0 };
    }

abbrev pub header_of : List ℕ → Header
header_of l = header_with (type_of (type_field l)) l

-- Is this Data with an empty payload?
abbrev pub empty_data : Header → ℕ → Bool
empty_data h size = cond (eqb (type_number h.packet_type) 0) (eqb size 0) false
