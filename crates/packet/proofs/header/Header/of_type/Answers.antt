-- Each field is read at the sum of the widths before it.
use Rattle.std.proofs.Common.{arith}
use Rattle.packet.specs.Laws.Number.{two_read, four_read}
use Rattle.packet.specs.Laws.Layout.{header_fields}
use Rattle.packet.proofs.header.Header.of_type.Goals as goal

pub returns : goal.returns
returns c =
    let d = c.args.datagram.now in
    let long = c.requires in
    simp (
      two_read d 2 _ _ (omega arith) c.from_be_bytes.ensures c.bytes_at.ensures,
      four_read d 4 _ _ (omega arith) c.from_be_bytes-2.ensures c.bytes_at-2.ensures,
      four_read d 8 _ _ (omega arith) c.from_be_bytes-3.ensures c.bytes_at-3.ensures,
      four_read d 12 _ _ (omega arith) c.from_be_bytes-4.ensures c.bytes_at-4.ensures,
      two_read d 16 _ _ (omega arith) c.from_be_bytes-5.ensures c.bytes_at-5.ensures,
      two_read d 18 _ _ (omega arith) c.from_be_bytes-6.ensures c.bytes_at-6.ensures,
      header_fields,
    )
