-- Each case of each answer by document 01's number, with its values ("Answer numbers"). The promises use these; Laws.OneToOne shows that no two answers have the
-- same number and values. Definitions only.
use Rattle.std.specs.Prelude.{ℕ, Option, Some, None, Result, Ok, Err}
use Rattle.common.specs.Answer.{Answer, done, refused, answered}
use Rattle.packet.specs.Chain.{Next, ends, onward, Sacked, nowhere, inside}
use Rattle.packet.specs.declared.kind.PacketType.{PacketType}
use Rattle.packet.specs.declared.kind.TypeRead.{TypeRead}
use Rattle.packet.specs.declared.kind.TypeRead.TheVariants.{Known, UnknownType as TypeUnknown}
use Rattle.packet.specs.declared.sack.SackReason.{SackReason}
use Rattle.packet.specs.declared.sack.SackReason.TheVariants.{SackShort, SackNotWords, SackLong}
use Rattle.packet.specs.declared.extension.Part.{Part}
use Rattle.packet.specs.declared.extension.Extension.{Extension as Found}
use Rattle.packet.specs.declared.extension.Cursor.{Cursor}
use Rattle.packet.specs.declared.extension.PastEnd.{PastEnd}
use Rattle.packet.specs.declared.header.HeaderReason.{HeaderReason}
use Rattle.packet.specs.declared.header.HeaderReason.TheVariants.{TooShort, UnknownType, UnknownVersion}
use Rattle.packet.specs.declared.decode.Packet.{Packet}
use Rattle.packet.specs.declared.decode.Reason.{Reason}
use Rattle.packet.specs.declared.decode.Reason.TheVariants.{BadHeader, Extension, BadSack, EmptyData}
use Rattle.packet.specs.declared.decode.Decoded.{Decoded}
use Rattle.packet.specs.declared.decode.Decoded.TheVariants.{Accepted, Undecoded}
use Rattle.packet.specs.declared.encode.Unwritten.{Unwritten}
use Rattle.packet.specs.declared.encode.Unwritten.TheVariants.{BadSack as UnwrittenSack, EmptyData as UnwrittenData, NoRoom}
use Rattle.packet.specs.declared.encode.Encoded.{Encoded}
use Rattle.packet.specs.declared.encode.Encoded.TheVariants.{Written, Refused}

abbrev pub type_read : TypeRead → Answer PacketType
type_read (Known t) = done t
type_read TypeUnknown = refused 2

abbrev pub sack_number : SackReason → ℕ
sack_number SackShort = 5
sack_number SackNotWords = 6
sack_number SackLong = 8

abbrev pub checked : Result ℕ SackReason → Answer ℕ
checked r = answered sack_number r

abbrev pub stepped : Result (Option (Found × Cursor)) PastEnd → Answer Next
stepped (Ok None) = done ends
stepped (Ok (Some (e, next))) = done (onward e next)
stepped (Err p) = refused 4

abbrev pub sacked : Option Part → Sacked
sacked None = nowhere
sacked (Some p) = inside p

abbrev pub ended : Result ℕ PastEnd → Answer ℕ
ended (Ok at) = done at
ended (Err p) = refused 4

abbrev pub chain_read : Result (Option Part × ℕ) PastEnd → Answer (Sacked × ℕ)
chain_read (Ok (sack, at)) = done (sacked sack, at)
chain_read (Err p) = refused 4

abbrev pub header_number : HeaderReason → ℕ
header_number TooShort = 1
header_number UnknownType = 2
header_number UnknownVersion = 3

abbrev pub reason_number : Reason → ℕ
reason_number (BadHeader r) = header_number r
reason_number Extension = 4
reason_number (BadSack r) = sack_number r
reason_number EmptyData = 7

abbrev pub decoded : Decoded → Answer Packet
decoded (Accepted p) = done p
decoded (Undecoded r) = refused (reason_number r)

abbrev pub unwritten_number : Unwritten → ℕ
unwritten_number (UnwrittenSack r) = sack_number r
unwritten_number UnwrittenData = 7
unwritten_number NoRoom = 9

abbrev pub encoded : Encoded → Answer ℕ
encoded (Written n) = done n
encoded (Refused r) = refused (unwritten_number r)
