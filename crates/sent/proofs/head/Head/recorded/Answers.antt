-- The packet is stored at the first free place.
use Rattle.std.proofs.Common.{◌+◌, List, ap, ap₂, ◌∙◌, arith}
use Rattle.congestion.specs.declared.numbers.Numbers.{Numbers}
use Rattle.congestion.specs.Numbers.{accepted_of}
use Rattle.outgoing.specs.declared.kept.Packet.{Packet}
use Rattle.sent.specs.Whole.{whole_of}
use Rattle.sent.specs.Laws.Sound.{state_counts}
use Rattle.sent.specs.Laws.Transmit.{state_with, recorded_behind}
use Rattle.sent.proofs.head.Head.recorded.Goals as goal

pub overflow_add-next : goal.overflow_add-next
overflow_add-next g c =
    let a = c.args in
    let s = whole_of a.self (g.S.Samples.samples a.samples.now) (g.P.Packets.packets a.packets.now) in
    omega (arith, (state_counts s c.requires.sound c.requires.full.count).2)

pub returns-clause-recorded : goal.returns-clause-recorded
returns-clause-recorded g c =
    let a = c.args in
    let s = whole_of a.self (g.S.Samples.samples a.samples.now) (g.P.Packets.packets a.packets.now) in
    ap₂ (λ (n : Numbers) (l : List Packet). state_with s (s.count + 1) (s.live + 1) n l) (c.accepted-next.ensures ∙ ap (λ (n : Numbers). accepted_of n a.clock) c.transmitted.ensures) c.put_packet.ensures.put
    ∙ recorded_behind s c.requires.full.count c.requires.sound a.packet a.clock c.requires.room
