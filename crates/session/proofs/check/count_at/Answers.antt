-- It is read from its place.
use Rattle.packet.specs.Laws.Number.{four_read}
use Rattle.session.proofs.check.count_at.Goals as goal

pub returns : goal.returns
returns c = four_read c.args.file.now c.args.at _ _ c.requires c.from_be_bytes.ensures c.bytes_at.ensures
