-- What decoding a datagram answers (document 01, "Packets on the wire" and "Answer numbers" 1 to 7). Definitions only.
use Rattle.std.specs.Prelude.{ℕ, ◌-◌, ◌%◌, cond, List, [], length, take, drop, ltb, leb, eqb}
use Rattle.common.specs.Answer.{Answer, done, refused, ◌then◌}
use Rattle.packet.specs.Layout.{header_length, empty_data, header_of, type_field, version_field, extension_field}
use Rattle.packet.specs.Chain.{Chain, past, whole, chain_from, Sacked, nowhere, inside, first_sack, none}
use Rattle.packet.specs.declared.header.Header.{Header}
use Rattle.packet.specs.declared.extension.Part.{Part}
use Rattle.packet.specs.declared.decode.Packet.{Packet}

-- 1: a datagram under 20 bytes. 2: a packet type above 4. 3: a version that is not 1.
abbrev pub header_answer : List ℕ → Answer Header
header_answer d =
    cond (ltb (length d) header_length)
    (refused 1)
    (cond (ltb 4 (type_field d)) (refused 2) (cond (eqb (version_field d) 1) (done (header_of d)) (refused 3)))

-- 5: a SACK of 0 to 3 bytes. 6: a SACK of 4 bytes or more, not a multiple of 4.
abbrev pub sack_answer : Sacked → Answer Part
sack_answer nowhere = done none
sack_answer (inside p) = cond (ltb p.len 4) (refused 5) (cond (eqb (p.len % 4) 0) (done p) (refused 6))

-- 7: Data with empty payload. The rest of a datagram of `size` bytes is the payload, shown as its place and length.
abbrev pub payload_answer : Header → ℕ → ℕ → Answer Part
payload_answer h size at = cond (empty_data h (size - at)) (refused 7) (done (record { at = at; len = size - at }))

-- The packet of a header, a SACK and a payload that were all found good.
abbrev pub packet_of : Header → Answer Part → Answer Part → Answer Packet
packet_of h (refused n) payload = refused n
packet_of h (done sack) (refused n) = refused n
packet_of h (done sack) (done payload) = done (record { header = h; sack = sack; payload = payload })

-- 4: an extension head or body runs past the end; the whole chain is looked at before the first SACK.
abbrev pub behind_header : Header → ℕ → Chain → Answer Packet
behind_header h size past = refused 4
behind_header h size (whole es at) = packet_of h (sack_answer (first_sack es)) (payload_answer h size at)

-- The chain begins behind the header, with the extension that the header names.
abbrev pub chain_of : List ℕ → Chain
chain_of d = chain_from d (record { number = extension_field d; at = header_length })

-- Order: 1, 2, 3, the whole chain (4), the first SACK (5, 6), then 7.
unfoldable pub decode_of : List ℕ → Answer Packet
decode_of d = header_answer d then behind_header (header_of d) (length d) (chain_of d)

-- The bytes of a part; nothing where it does not lie within the datagram.
abbrev pub part_of : Part → List ℕ → List ℕ
part_of p d = cond (leb p.at (length d)) (cond (leb p.len (length d - p.at)) (take p.len (drop p.at d)) []) []
