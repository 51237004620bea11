-- What was passed of the source is written.
use Rattle.std.proofs.Common.{◌≡◌, take}
use Rattle.common.specs.Laws.Put.{put}
use Rattle.packet.proofs.number.put_all.Given as goal

abbrev pub invariant-loop-i : goal.invariant-loop-i
invariant-loop-i l = l.room ≡ put l.fn.room l.at (take l.i l.src)
