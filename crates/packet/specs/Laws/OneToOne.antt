-- No two answers have the same number and values: each map of Answers can be undone.
use Rattle.std.specs.Prelude.{ℕ, zero, suc, ◌≡◌, refl, Option, Some, None, Result, Ok, Err}
use Rattle.std.proofs.Common.{ap}
use Rattle.common.specs.Answer.{Answer, done, refused}
use Rattle.common.specs.Laws.OneToOne.{by_inverse}
use Rattle.packet.specs.Chain.{Next, ends, onward}
use Rattle.packet.specs.Answers.{type_read, checked, stepped, reason_number, decoded, unwritten_number, encoded}
use Rattle.packet.specs.declared.kind.PacketType.{PacketType}
use Rattle.packet.specs.declared.kind.TypeRead.{TypeRead}
use Rattle.packet.specs.declared.kind.TypeRead.TheVariants.{Known, UnknownType as TypeUnknown}
use Rattle.packet.specs.declared.sack.SackReason.{SackReason}
use Rattle.packet.specs.declared.header.HeaderReason.TheVariants.{TooShort, UnknownType, UnknownVersion}
use Rattle.packet.specs.declared.sack.SackReason.TheVariants.{SackShort, SackNotWords, SackLong}
use Rattle.packet.specs.declared.extension.Extension.{Extension as Found}
use Rattle.packet.specs.declared.extension.Cursor.{Cursor}
use Rattle.packet.specs.declared.extension.PastEnd.{PastEnd}
use Rattle.packet.specs.declared.decode.Packet.{Packet}
use Rattle.packet.specs.declared.decode.Reason.{Reason}
use Rattle.packet.specs.declared.decode.Reason.TheVariants.{BadHeader, Extension, BadSack, EmptyData}
use Rattle.packet.specs.declared.decode.Decoded.{Decoded}
use Rattle.packet.specs.declared.decode.Decoded.TheVariants.{Accepted, Undecoded}
use Rattle.packet.specs.declared.encode.Unwritten.{Unwritten}
use Rattle.packet.specs.declared.encode.Unwritten.TheVariants.{BadSack as UnwrittenSack, EmptyData as UnwrittenData, NoRoom}
use Rattle.packet.specs.declared.encode.Encoded.{Encoded}
use Rattle.packet.specs.declared.encode.Encoded.TheVariants.{Written, Refused}

-- The SACK's reason of 5, 6, 8.
abbrev sack_reason : ℕ → SackReason
sack_reason (suc (suc (suc (suc (suc zero))))) = SackShort
sack_reason (suc (suc (suc (suc (suc (suc zero)))))) = SackNotWords
sack_reason (suc (suc (suc (suc (suc (suc (suc n))))))) = SackLong
sack_reason zero = SackLong
sack_reason (suc zero) = SackLong
sack_reason (suc (suc zero)) = SackLong
sack_reason (suc (suc (suc zero))) = SackLong
sack_reason (suc (suc (suc (suc zero)))) = SackLong

-- The reason of 1 to 8.
abbrev reason : ℕ → Reason
reason zero = Extension
reason (suc zero) = BadHeader TooShort
reason (suc (suc zero)) = BadHeader UnknownType
reason (suc (suc (suc zero))) = BadHeader UnknownVersion
reason (suc (suc (suc (suc zero)))) = Extension
reason (suc (suc (suc (suc (suc zero))))) = BadSack SackShort
reason (suc (suc (suc (suc (suc (suc zero)))))) = BadSack SackNotWords
reason (suc (suc (suc (suc (suc (suc (suc zero))))))) = EmptyData
reason (suc (suc (suc (suc (suc (suc (suc (suc n)))))))) = BadSack SackLong

-- The reason of 5 to 9.
abbrev unwritten : ℕ → Unwritten
unwritten zero = NoRoom
unwritten (suc zero) = NoRoom
unwritten (suc (suc zero)) = NoRoom
unwritten (suc (suc (suc zero))) = NoRoom
unwritten (suc (suc (suc (suc zero)))) = NoRoom
unwritten (suc (suc (suc (suc (suc zero))))) = UnwrittenSack SackShort
unwritten (suc (suc (suc (suc (suc (suc zero)))))) = UnwrittenSack SackNotWords
unwritten (suc (suc (suc (suc (suc (suc (suc zero))))))) = UnwrittenData
unwritten (suc (suc (suc (suc (suc (suc (suc (suc zero)))))))) = UnwrittenSack SackLong
unwritten (suc (suc (suc (suc (suc (suc (suc (suc (suc n))))))))) = NoRoom

pub type_read_one_to_one : (a b : TypeRead) → type_read a ≡ type_read b → a ≡ b
type_read_one_to_one = by_inverse type_read back undone
  where
    back : Answer PacketType → TypeRead
    back (done t) = Known t
    back (refused n) = TypeUnknown

    undone : (a : TypeRead) → back (type_read a) ≡ a
    undone (Known t) = refl
    undone TypeUnknown = refl

pub checked_one_to_one : (a b : Result ℕ SackReason) → checked a ≡ checked b → a ≡ b
checked_one_to_one = by_inverse checked back undone
  where
    back : Answer ℕ → Result ℕ SackReason
    back (done n) = Ok n
    back (refused n) = Err (sack_reason n)

    undone : (a : Result ℕ SackReason) → back (checked a) ≡ a
    undone (Ok n) = refl
    undone (Err SackShort) = refl
    undone (Err SackNotWords) = refl
    undone (Err SackLong) = refl

pub stepped_one_to_one : (a b : Result (Option (Found × Cursor)) PastEnd) → stepped a ≡ stepped b → a ≡ b
stepped_one_to_one = by_inverse stepped back undone
  where
    back : Answer Next → Result (Option (Found × Cursor)) PastEnd
    back (done ends) = Ok None
    back (done (onward e next)) = Ok (Some (e, next))
    back (refused n) = Err (record {})

    undone : (a : Result (Option (Found × Cursor)) PastEnd) → back (stepped a) ≡ a
    undone (Ok None) = refl
    undone (Ok (Some (e, next))) = refl
    undone (Err p) = refl

pub decoded_one_to_one : (a b : Decoded) → decoded a ≡ decoded b → a ≡ b
decoded_one_to_one = by_inverse decoded back undone
  where
    back : Answer Packet → Decoded
    back (done p) = Accepted p
    back (refused n) = Undecoded (reason n)

    undone_reason : (r : Reason) → reason (reason_number r) ≡ r
    undone_reason (BadHeader TooShort) = refl
    undone_reason (BadHeader UnknownType) = refl
    undone_reason (BadHeader UnknownVersion) = refl
    undone_reason Extension = refl
    undone_reason (BadSack SackShort) = refl
    undone_reason (BadSack SackNotWords) = refl
    undone_reason (BadSack SackLong) = refl
    undone_reason EmptyData = refl

    undone : (a : Decoded) → back (decoded a) ≡ a
    undone (Accepted p) = refl
    undone (Undecoded r) = ap Undecoded (undone_reason r)

pub encoded_one_to_one : (a b : Encoded) → encoded a ≡ encoded b → a ≡ b
encoded_one_to_one = by_inverse encoded back undone
  where
    back : Answer ℕ → Encoded
    back (done n) = Written n
    back (refused n) = Refused (unwritten n)

    undone_reason : (r : Unwritten) → unwritten (unwritten_number r) ≡ r
    undone_reason (UnwrittenSack SackShort) = refl
    undone_reason (UnwrittenSack SackNotWords) = refl
    undone_reason (UnwrittenSack SackLong) = refl
    undone_reason UnwrittenData = refl
    undone_reason NoRoom = refl

    undone : (a : Encoded) → back (encoded a) ≡ a
    undone (Written n) = refl
    undone (Refused r) = ap Refused (undone_reason r)
