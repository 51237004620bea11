-- The payload goes right behind the 20 bytes of the header.
use Rattle.std.proofs.Common.{arith}
use Rattle.packet.specs.Laws.Encode.{plain-put}
use Rattle.packet.proofs.encode.put_plain.Goals as goal

pub returns : goal.returns
returns c = plain-put c.args.header c.args.payload.now _ _ _ (omega (arith, c.requires)) c.put.ensures c.put_all.ensures
