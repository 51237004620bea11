-- The seven places that are written are those of the packet.
use Rattle.std.proofs.Common.{◌<◌, arith, set}
use Rattle.sent_lent.specs.declared.columns.Columns.{Columns}
use Rattle.sent_lent.specs.Lent.{Places}
use Rattle.sent_lent.specs.Laws.LentPackets.{packet_put, packets_512, places-put, sizes_with, marks_with}
use Rattle.sent_lent.specs.Laws.LentState.{columns_back}
use Rattle.sent_lent.proofs.columns.ColumnsPackets.put_packet.Goals as goal

pub returns-clause-put : goal.returns-clause-put
returns-clause-put c =
    let s = c.args.self.now in
    let i = c.args.place.at in
    let p : Places s.times s.sizes s.marks = record { times_512 = omega arith; sizes_1024 = omega arith; marks_2048 = omega arith } in
    let within : i < 512 = c.args.place.in_range in
    packet_put s.times s.sizes s.marks i c.args.packet (omega (arith, p.times_512)) (omega (arith, p.sizes_1024)) (omega (arith, p.marks_2048))

pub returns-clause-full : goal.returns-clause-full
returns-clause-full c =
    let s = c.args.self.now in
    let i = c.args.place.at in
    let x = c.args.packet in
    let p : Places s.times s.sizes s.marks = record { times_512 = omega arith; sizes_1024 = omega arith; marks_2048 = omega arith } in
    let q = places-put s.times s.sizes s.marks i x p in
    let next : Columns = record { times = set s.times i x.sent_at; sizes = sizes_with s.sizes i x; marks = marks_with s.marks i x } in
    record { count = packets_512 next.times next.sizes next.marks q; alone = columns_back next q }
