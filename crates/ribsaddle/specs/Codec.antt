-- The codec over the caller's fields. Definitions only.
use Rattle.std.specs.Prelude.{ℕ, List, length}
use Rattle.common.specs.Answer.{Answer, done, refused}
use Rattle.packet.specs.Kind.{type_number, type_answer}
use Rattle.packet.specs.Decode.{decode_of}
use Rattle.packet.specs.Encode.{encode_of, room_of}
use Rattle.packet.specs.declared.header.Header.{Header}
use Rattle.packet.specs.declared.kind.PacketType.{PacketType}
use Rattle.packet.specs.declared.decode.Packet.{Packet}
use Rattle.ribsaddle.specs.Answer.{value_or}
use Rattle.ribsaddle.specs.declared.codec.HeaderFields.{HeaderFields}
use Rattle.ribsaddle.specs.declared.codec.PacketFields.{PacketFields}

-- ---- fields and headers

abbrev pub fields_of : Header → HeaderFields
fields_of h =
    record {
      packet_type = type_number h.packet_type;
      conn_id = h.conn_id;
      ts_micros = h.ts_micros;
      ts_diff_micros = h.ts_diff_micros;
      window_size = h.window_size;
      seq_num = h.seq_num.0;
      ack_num = h.ack_num.0;
    }

abbrev pub parts_of : Packet → PacketFields
parts_of p =
    record {
      header = fields_of p.header;
      sack_at = p.sack.at;
      sack_len = p.sack.len;
      payload_at = p.payload.at;
      payload_len = p.payload.len;
    }

abbrev pub header_from : PacketType → HeaderFields → Header
header_from type f =
    record {
      packet_type = type;
      conn_id = f.conn_id;
      ts_micros = f.ts_micros;
      ts_diff_micros = f.ts_diff_micros;
      window_size = f.window_size;
      seq_num = record { 0 = f.seq_num };
      ack_num = record { 0 = f.ack_num };
    }

-- ---- reading: the parts of what was decoded, or what stood there

-- The answer's number, and what then stands where the packet goes.
pub record Reading : Type 0 where
  pub answer : ℕ
  pub packet : PacketFields

abbrev pub read_as : PacketFields → Answer Packet → Reading
read_as old (done p) = record { answer = 0; packet = parts_of p }
read_as old (refused n) = record { answer = n; packet = old }

unfoldable pub reading_of : PacketFields → List ℕ → Reading
reading_of old datagram = read_as old (decode_of datagram)

-- ---- writing: 2 for a type above 4, before the checks of the packet

abbrev pub write_as : Answer PacketType → HeaderFields → List ℕ → List ℕ → ℕ → Answer ℕ
write_as (refused n) f sack payload room = refused n
write_as (done type) f sack payload room = encode_of (header_from type f) sack payload room

unfoldable pub writing_of : HeaderFields → List ℕ → List ℕ → List ℕ → Answer ℕ
writing_of f sack payload room = write_as (type_answer f.packet_type) f sack payload (length room)

abbrev pub room_as : Answer PacketType → HeaderFields → List ℕ → List ℕ → List ℕ → List ℕ
room_as (refused n) f sack payload room = room
room_as (done type) f sack payload room = room_of (header_from type f) sack payload room

unfoldable pub writing_room_of : HeaderFields → List ℕ → List ℕ → List ℕ → List ℕ
writing_room_of f sack payload room = room_as (type_answer f.packet_type) f sack payload room

abbrev pub writing_size_of : HeaderFields → List ℕ → List ℕ → List ℕ → ℕ → ℕ
writing_size_of f sack payload room old = value_or old (writing_of f sack payload room)
