-- The checks come in the order 5, 6, 8, 7, 9. A refusal leaves the room as it was, and where there is none the packet is written to its front.
use Rattle.std.proofs.Common.{ℕ, ◌≡◌, ◌≤◌, ◌<◌, List, [], ◌∷◌, length, arith, ◌∙◌, refl, sym, ap, eqb-true}
use Rattle.std.proofs.lemmas.Result.{err_from_is_err_and}
use Rattle.common.specs.Answer.{Answer, done, refused, ◌then◌}
use Rattle.common.specs.Laws.Put.{put}
use Rattle.packet.specs.Sack.{mask_answer}
use Rattle.packet.specs.Encode.{packet_bytes, size_of, data_answer, encode_of, room_of, written_to}
use Rattle.packet.specs.Laws.Encode.{encode_unfit, encode_no_room, encode_written}
use Rattle.packet.specs.declared.header.Header.{Header}
use Rattle.packet.proofs.encode.write_packet.Goals as goal

nothing : (l : List ℕ) → length l ≡ 0 → l ≡ []
nothing [] e = refl
nothing (x ∷ l) e = absurd (omega arith)

-- A refusal writes nothing, and an answer with a size writes the packet.
module _ (h : Header) (sack payload room : List ℕ) (n : ℕ) where
  unwritten : encode_of h sack payload (length room) ≡ refused n → room ≡ room_of h sack payload room
  unwritten e = sym (ap (λ (r : Answer ℕ). written_to r (packet_bytes h sack payload) room) e)

  in_front : encode_of h sack payload (length room) ≡ done n → put room 0 (packet_bytes h sack payload) ≡ room_of h sack payload room
  in_front e = sym (ap (λ (r : Answer ℕ). written_to r (packet_bytes h sack payload) room) e)

  -- The answer of a packet that was written, whose size is `n`.
  written-answer :
      (k : ℕ) → (mask_answer (length sack) then data_answer h (length payload)) ≡ done k → n ≡ size_of (length sack) (length payload) → n ≤ length room
      → encode_of h sack payload (length room) ≡ done n
  written-answer k fit size fits = encode_written h sack payload (length room) k fit (rw size at fits) ∙ ap done (sym size)

-- The two facts of a refusal, and those of a packet that was written.
module _ (h : Header) (sack payload room : List ℕ) where
  refuses : (n : ℕ) → encode_of h sack payload (length room) ≡ refused n → (refused n ≡ encode_of h sack payload (length room)) × (room ≡ room_of h sack payload room)
  refuses n e = (sym e, unwritten h sack payload room n e)

  writes :
      (n k : ℕ) (room' : List ℕ) → done k ≡ (mask_answer (length sack) then data_answer h (length payload)) → n ≡ size_of (length sack) (length payload) → n ≤ length room
      → room' ≡ put room 0 (packet_bytes h sack payload)
      → (done n ≡ encode_of h sack payload (length room)) × (room' ≡ room_of h sack payload room)
  writes n k room' fit size fits bytes =
      let e = written-answer h sack payload room n k (sym fit) size fits in
      (sym e, bytes ∙ in_front h sack payload room n e)

pub returns-in_err-check_parts : goal.returns-in_err-check_parts
returns-in_err-check_parts c =
    let a = c.args in
    let is = err_from_is_err_and c.from_residual.result c.from_residual.ensures.1 in
    rw (is.1, is.2) (refuses a.header a.sack.now a.payload.now a.room.now _ (encode_unfit a.header a.sack.now a.payload.now (length a.room.now) _ (sym c.in_err-check_parts.ensures)))

pub returns-then-room-size : goal.returns-then-room-size
returns-then-room-size c =
    let a = c.args in
    let small : length a.room.now < size_of (length a.sack.now) (length a.payload.now) = rw c.size_of-size.ensures at c.if-room-size.true in
    refuses a.header a.sack.now a.payload.now a.room.now 9 (encode_no_room a.header a.sack.now a.payload.now (length a.room.now) _ (sym c.in_ok-check_parts.ensures) small)

pub returns-then-is_empty : goal.returns-then-is_empty
returns-then-is_empty c =
    let a = c.args in
    let none = nothing a.sack.now (eqb-true _ _ (sym c.if-is_empty.ensures)) in
    writes a.header a.sack.now a.payload.now a.room.now _ _ _ c.in_ok-check_parts.ensures c.size_of-size.ensures c.if-room-size.false
    (c.put_plain.ensures ∙ ap (λ (s : List ℕ). put a.room.now 0 (packet_bytes a.header s a.payload.now)) (sym none))

pub returns-else-is_empty : goal.returns-else-is_empty
returns-else-is_empty c =
    let a = c.args in
    writes a.header a.sack.now a.payload.now a.room.now _ _ _ c.in_ok-check_parts.ensures c.size_of-size.ensures c.if-room-size.false c.put_sacked.ensures
