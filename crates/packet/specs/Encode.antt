-- What writing a packet answers and leaves in the lent room (document 01, "Packets on the wire", "Writing"). Definitions only.
use Rattle.std.specs.Prelude.{ℕ, ◌+◌, cond, List, [], ◌∷◌, ◌++◌, length, ltb, eqb}
use Rattle.common.specs.Answer.{Answer, done, refused, ◌then◌}
use Rattle.common.specs.Laws.Put.{put}
use Rattle.packet.specs.Layout.{widths, bytes_of, fields_of_header, empty_data}
use Rattle.packet.specs.Sack.{mask_answer}
use Rattle.packet.specs.declared.header.Header.{Header}

-- The extension byte is 1 with a SACK, else 0; an empty SACK means none.
abbrev pub extension_byte : List ℕ → ℕ
extension_byte [] = 0
extension_byte (b ∷ bs) = 1

-- The SACK's next byte is 0; then its length, then its bytes.
abbrev pub extension_bytes : List ℕ → List ℕ
extension_bytes [] = []
extension_bytes (b ∷ bs) = 0 ∷ length (b ∷ bs) ∷ b ∷ bs

abbrev pub packet_bytes : Header → List ℕ → List ℕ → List ℕ
packet_bytes h sack payload = bytes_of widths (fields_of_header h (extension_byte sack)) ++ (extension_bytes sack ++ payload)

-- The size of a packet with a SACK and a payload of so many bytes.
abbrev pub size_of : ℕ → ℕ → ℕ
size_of sack payload = cond (eqb sack 0) (20 + payload) (22 + sack + payload)

-- 7: Data with empty payload.
abbrev pub data_answer : Header → ℕ → Answer ℕ
data_answer h payload = cond (empty_data h payload) (refused 7) (done 0)

-- 9: output room too small. Else as many bytes are written as the packet has.
abbrev pub room_answer : ℕ → ℕ → Answer ℕ
room_answer size room = cond (ltb room size) (refused 9) (done size)

-- Order 5, 6, 8, 7, 9.
unfoldable pub encode_of : Header → List ℕ → List ℕ → ℕ → Answer ℕ
encode_of h sack payload room =
    mask_answer (length sack) then data_answer h (length payload) then room_answer (length (packet_bytes h sack payload)) room

-- Output past the packet is untouched, and all of it where the packet is refused.
abbrev pub written_to : Answer ℕ → List ℕ → List ℕ → List ℕ
written_to (done n) packet room = put room 0 packet
written_to (refused n) packet room = room

abbrev pub room_of : Header → List ℕ → List ℕ → List ℕ → List ℕ
room_of h sack payload room = written_to (encode_of h sack payload (length room)) (packet_bytes h sack payload) room
