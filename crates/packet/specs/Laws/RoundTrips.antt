-- The two round trips of specs/RoundTrips.antt. What was written is read from the front of the room, where the packet's bytes stand; what was read is accepted by the writer's checks
-- one after the other, and its bytes are the datagram's.
use Rattle.std.specs.Prelude.{ℕ, ◌+◌, Bool, true, false, cond, List, ◌≡◌, refl, ltb, length, take, drop}
use Rattle.std.proofs.Common.{arith, ◌∙◌, ap, sym, subst, take_at, le-ltb}
use Rattle.common.specs.Answer.{Answer, done, refused, ◌then◌}
use Rattle.common.specs.Laws.Put.{put}
use Rattle.packet.specs.Sack.{mask_answer}
use Rattle.packet.specs.Decode.{part_of}
use Rattle.packet.specs.Encode.{packet_bytes, data_answer, encode_of, written_to, room_of}
use Rattle.packet.specs.RoundTrips.{ReadAs, ReadingWritten, WritingRead}
use Rattle.packet.specs.Laws.ReadWritten.{place_of_sack, place_of_payload, read_encoded, sack_back, payload_back}
use Rattle.packet.specs.Laws.WriteRead.{again}
use Rattle.packet.specs.declared.header.Header.{Header}

-- ---- reading what was written

-- What the writer answers, if it is done, is the packet's size.
size_is : (h : Header) (sack payload : List ℕ) (room size : ℕ) → encode_of h sack payload room ≡ done size → size ≡ length (packet_bytes h sack payload)
unfolding encode_of
size_is h sack payload room size = by_checks (mask_answer (length sack)) (data_answer h (length payload)) (ltb room (length (packet_bytes h sack payload)))
  where
    by_checks :
        (a b : Answer ℕ) (c : Bool) → (a then b then cond c (refused 9) (done (length (packet_bytes h sack payload)))) ≡ done size → size ≡ length (packet_bytes h sack payload)
    by_checks (done m) (done n) true e = let z : ◌≡◌ {A = ℕ} 0 1 = cc in absurd (omega arith)
    by_checks (done m) (done n) false e = cc
    by_checks (done m) (refused n) c e = let z : ◌≡◌ {A = ℕ} 0 1 = cc in absurd (omega arith)
    by_checks (refused m) b c e = let z : ◌≡◌ {A = ℕ} 0 1 = cc in absurd (omega arith)

-- The packet's bytes stand at the front of the room.
front_is : (h : Header) (sack payload room : List ℕ) (size : ℕ) → encode_of h sack payload (length room) ≡ done size → take size (room_of h sack payload room) ≡ packet_bytes h sack payload
unfolding put
front_is h sack payload room size e =
    let packet = packet_bytes h sack payload in
    ap (λ (a : Answer ℕ). take size (written_to a packet room)) e ∙ take_at packet (drop (0 + length packet) room) size (sym (size_is h sack payload (length room) size e))

pub reading_written : ReadingWritten
reading_written h sack payload room size fits e =
    subst (ReadAs h sack payload) (sym (front_is h sack payload room size e))
    (record {
      packet = record { header = h; sack = place_of_sack sack; payload = place_of_payload sack payload };
      is_read = read_encoded h sack payload (length room) size fits e;
      header = refl;
      sack-bytes = sack_back h sack payload;
      payload_bytes = payload_back h sack payload;
    })

-- ---- writing what was read

pub writing_read : WritingRead
unfolding encode_of
writing_read d p room all accepted chain enough =
    let k = again d p all accepted chain in
    let was_done : encode_of p.header (part_of p.sack d) (part_of p.payload d) (length room) ≡ done (length d) = simp (k.mask, k.payload, k.bytes, le-ltb _ _ enough) in
    record {
      was_done = was_done;
      bytes = ap (λ (a : Answer ℕ). written_to a (packet_bytes p.header (part_of p.sack d) (part_of p.payload d)) room) was_done ∙ ap (put room 0) k.bytes;
    }
