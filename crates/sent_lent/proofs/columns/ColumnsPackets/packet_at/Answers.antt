-- The seven places that are read are those of the packet.
use Rattle.std.proofs.Common.{sym, arith}
use Rattle.sent_lent.specs.Lent.{Places}
use Rattle.sent_lent.specs.Laws.LentPackets.{packet_in, packets_512}
use Rattle.sent_lent.specs.Laws.LentState.{columns_back}
use Rattle.sent_lent.proofs.columns.ColumnsPackets.packet_at.Goals as goal

pub returns-clause-found : goal.returns-clause-found
returns-clause-found c =
    let s = c.args.self.now in
    sym (packet_in s.times s.sizes s.marks c.args.place.at (omega (arith, c.args.place.in_range)))

pub returns-clause-full : goal.returns-clause-full
returns-clause-full c =
    let s = c.args.self.now in
    let p : Places s.times s.sizes s.marks = record { times_512 = omega arith; sizes_1024 = omega arith; marks_2048 = omega arith } in
    record { count = packets_512 s.times s.sizes s.marks p; alone = columns_back s p }
