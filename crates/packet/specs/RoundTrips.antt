-- The two round trips of document 01 ("Packets on the wire"), over what the promises of reading and writing say: `decode_of`, `encode_of` and `room_of`. Statements and their words
-- only; Laws.RoundTrips proves them.
use Rattle.std.specs.Prelude.{ℕ, ◌^◌, ◌≤◌, ◌<◌, List, [], ◌∷◌, ◌≡◌, length, take}
use Rattle.common.specs.Answer.{done}
use Rattle.common.specs.Bytes.{AllBytes}
use Rattle.common.specs.Laws.Put.{put}
use Rattle.packet.specs.Layout.{header_length}
use Rattle.packet.specs.Chain.{whole}
use Rattle.packet.specs.Decode.{chain_of, decode_of, part_of}
use Rattle.packet.specs.Encode.{encode_of, room_of}
use Rattle.packet.specs.declared.decode.Packet.{Packet}
use Rattle.packet.specs.declared.extension.Part.{Part}
use Rattle.packet.specs.declared.header.Header.{Header}

-- Each field of a header fits its width, as the field of a struct of such numbers always does.
pub record HeaderFits (h : Header) : Type 0 where
  pub conn_id : h.conn_id < 2 ^ 16
  pub ts : h.ts_micros < 2 ^ 32
  pub ts_diff : h.ts_diff_micros < 2 ^ 32
  pub window : h.window_size < 2 ^ 32
  pub seq : h.seq_num.0 < 2 ^ 16
  pub ack : h.ack_num.0 < 2 ^ 16

-- The chain is empty, or is one SACK.
pub data AtMostOneSack (d : List ℕ) : Type 0 where
  empty : chain_of d ≡ whole [] header_length → AtMostOneSack d
  one-sack : (body : Part) (at : ℕ) → chain_of d ≡ whole (record { number = 1; body = body } ∷ []) at → AtMostOneSack d

-- A datagram is read, and its parts are these.
pub record ReadAs (h : Header) (sack payload d : List ℕ) : Type 0 where
  pub packet : Packet
  pub is_read : decode_of d ≡ done packet
  pub header : packet.header ≡ h
  pub sack-bytes : part_of packet.sack d ≡ sack
  pub payload_bytes : part_of packet.payload d ≡ payload

-- Reading a written packet gives its parts back: what the writer leaves in the room, cut to the size that it answers.
abbrev pub ReadingWritten : Type 0
ReadingWritten =
    (h : Header) (sack payload room : List ℕ) (size : ℕ) → HeaderFits h
    → encode_of h sack payload (length room) ≡ done size
    → ReadAs h sack payload (take size (room_of h sack payload room))

-- A packet read from `d` is written to a room: done, with the datagram's length as its size, and exactly its bytes are put.
pub record WrittenAs (d : List ℕ) (p : Packet) (room : List ℕ) : Type 0 where
  pub was_done : encode_of p.header (part_of p.sack d) (part_of p.payload d) (length room) ≡ done (length d)
  pub bytes : room_of p.header (part_of p.sack d) (part_of p.payload d) room ≡ put room 0 d

-- Writing a read packet gives the same bytes when its chain is empty or is one SACK, into every room that holds it.
abbrev pub WritingRead : Type 0
WritingRead = (d : List ℕ) (p : Packet) (room : List ℕ) → AllBytes d → decode_of d ≡ done p → AtMostOneSack d → length d ≤ length room → WrittenAs d p room
