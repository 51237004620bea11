-- Each field is read from its place.
use Rattle.std.proofs.Common.{◌+◌, add-zero, arith}
use Rattle.session.specs.Format.{event_of}
use Rattle.session.specs.Laws.Number.{field_one, field_from}
use Rattle.packet.specs.Laws.Number.{two_read, four_read}
use Rattle.session.proofs.Numbers.{eight_read}
use Rattle.session.proofs.event.read_event.Goals as goal

pub returns : goal.returns
unfolding event_of
returns c =
    let f = c.args.file.now in
    let at = c.args.at in
    let fits = c.requires in
    simp (
      field_one f at (omega arith),
      field_one f (at + 1) (omega arith),
      two_read f (at + 2) _ _ (omega arith) c.from_be_bytes.ensures c.bytes_at.ensures,
      four_read f (at + 4) _ _ (omega arith) c.from_be_bytes-2.ensures c.bytes_at-2.ensures,
      eight_read f (at + 8) _ _ (omega arith) c.from_be_bytes-3.ensures c.bytes_at-3.ensures,
      eight_read f (at + 16) _ _ (omega arith) c.from_be_bytes-4.ensures c.bytes_at-4.ensures,
      field_from,
      add-zero,
    )
