-- Every public function of the crate, in the order of the source: nothing is asked of its caller, and no two different outcomes satisfy its promise.
use Prim.Native.Nat.{ℕ}
use mathlib.Core.List.{List}
use mathlib.Core.Path.{◌∙◌, sym}
use Rattle.common.specs.Promise.{Promise, by_value, by_code}
use Rattle.packet.specs.Answers.{type_read, checked, stepped, decoded}
use Rattle.packet.specs.Laws.OneToOne.{type_read_one_to_one, checked_one_to_one, stepped_one_to_one, decoded_one_to_one, encoded_one_to_one}
use Rattle.packet.specs.declared.encode.Encoded.{Encoded}
use Rattle.packet.proofs.kind.PacketType.number.Reads as number
use Rattle.packet.proofs.kind.PacketType.of_number.Reads as of_number
use Rattle.packet.proofs.sack.SackReason.number.Reads as sack-number
use Rattle.packet.proofs.sack.check.Reads as check
use Rattle.packet.proofs.sack.bit_count.Reads as bit-count
use Rattle.packet.proofs.sack.is_set.Reads as is_set
use Rattle.packet.proofs.sack.meant.Reads as meant
use Rattle.packet.proofs.extension.Part.bytes.Reads as bytes
use Rattle.packet.proofs.extension.Cursor.step.Reads as step
use Rattle.packet.proofs.header.HeaderReason.number.Reads as header-number
use Rattle.packet.proofs.decode.Reason.number.Reads as reason-number
use Rattle.packet.proofs.decode.ReasonFromHeaderReason.from.Reads as reason-from-header
use Rattle.packet.proofs.decode.ReasonFromPastEnd.from.Reads as reason-from-past-end
use Rattle.packet.proofs.decode.ReasonFromSackReason.from.Reads as reason-from-sack
use Rattle.packet.proofs.decode.Packet.decode.Reads as decode
use Rattle.packet.proofs.encode.Unwritten.number.Reads as unwritten-number
use Rattle.packet.proofs.encode.UnwrittenFromSackReason.from.Reads as unwritten-from-sack
use Rattle.packet.proofs.decode.Packet.encode.Reads as encode

-- ---- kind

number_promise : Promise number.Pre number.Post (λ κs r s. r)
number_promise = by_value _ (λ κs a. tt) (λ κs a r s p. p)

of_number_promise : Promise of_number.Pre of_number.Post (λ κs r s. r)
of_number_promise = by_code type_read type_read_one_to_one _ (λ κs a. tt) (λ κs a r s p. p)

-- ---- sack

sack_number_promise : Promise sack-number.Pre sack-number.Post (λ κs r s. r)
sack_number_promise = by_value _ (λ κs a. tt) (λ κs a r s p. p)

check_promise : Promise check.Pre check.Post (λ κs r s. r)
check_promise = by_code checked checked_one_to_one _ (λ κs a. tt) (λ κs a r s p. p)

bit_count_promise : Promise bit-count.Pre bit-count.Post (λ κs r s. r)
bit_count_promise = by_value _ (λ κs a. tt) (λ κs a r s p. p)

is_set_promise : Promise is_set.Pre is_set.Post (λ κs r s. r)
is_set_promise = by_value _ (λ κs a. tt) (λ κs a r s p. p)

meant_promise : Promise meant.Pre meant.Post (λ κs r s. r)
meant_promise = by_value _ (λ κs a. tt) (λ κs a r s p. p)

-- ---- extension

-- Of a slice that is handed out its bytes are seen.
bytes_promise : Promise bytes.Pre bytes.Post (λ κs r s. r.now)
bytes_promise = by_value _ (λ κs a. tt) (λ κs a r s p. p)

step_promise : Promise step.Pre step.Post (λ κs r s. r)
step_promise = by_code stepped stepped_one_to_one _ (λ κs a. tt) (λ κs a r s p. p)

-- ---- header, decode and encode

header_number_promise : Promise header-number.Pre header-number.Post (λ κs r s. r)
header_number_promise = by_value _ (λ κs a. tt) (λ κs a r s p. p)

reason_number_promise : Promise reason-number.Pre reason-number.Post (λ κs r s. r)
reason_number_promise = by_value _ (λ κs a. tt) (λ κs a r s p. p)

reason_from_header_promise : Promise reason-from-header.Pre reason-from-header.Post (λ κs r s. r)
reason_from_header_promise = by_value _ (λ κs a. tt) (λ κs a r s p. p)

reason_from_past_end_promise : Promise reason-from-past-end.Pre reason-from-past-end.Post (λ κs r s. r)
reason_from_past_end_promise = by_value _ (λ κs a. tt) (λ κs a r s p. p)

reason_from_sack_promise : Promise reason-from-sack.Pre reason-from-sack.Post (λ κs r s. r)
reason_from_sack_promise = by_value _ (λ κs a. tt) (λ κs a r s p. p)

decode_promise : Promise decode.Pre decode.Post (λ κs r s. r)
decode_promise = by_code decoded decoded_one_to_one _ (λ κs a. tt) (λ κs a r s p. p)

unwritten_number_promise : Promise unwritten-number.Pre unwritten-number.Post (λ κs r s. r)
unwritten_number_promise = by_value _ (λ κs a. tt) (λ κs a r s p. p)

unwritten_from_sack_promise : Promise unwritten-from-sack.Pre unwritten-from-sack.Post (λ κs r s. r)
unwritten_from_sack_promise = by_value _ (λ κs a. tt) (λ κs a r s p. p)

-- The answer, and every byte of the lent room as the writer returns.
encode_promise : Promise {W = Encoded × List ℕ} encode.Pre encode.Post (λ κs r s. (r, s.1.1.1.0.now))
encode_promise =
    record {
      asks_nothing = λ κs a. tt;
      one_outcome = λ κs a r r' s s' p p' i. (encoded_one_to_one r r' (p.0 ∙ sym p'.0) i, (p.1 ∙ sym p'.1) i);
    }
