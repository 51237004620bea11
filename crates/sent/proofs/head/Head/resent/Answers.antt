-- A packet that is kept gets the mark at its place, and of one that is gone nothing is noted.
use Rattle.std.proofs.Common.{◌-◌, List, set, ap, ap₂, ◌∙◌, arith}
use Rattle.congestion.specs.declared.numbers.Numbers.{Numbers}
use Rattle.outgoing.specs.declared.kept.Packet.{Packet}
use Rattle.outgoing.specs.Transmit.{with_resent}
use Rattle.sent.specs.Whole.{whole_of}
use Rattle.sent.specs.Laws.Sound.{state_counts}
use Rattle.sent.specs.Laws.Transmit.{state_with, resent_gone, resent_kept}
use Rattle.sent.proofs.head.Head.resent.Goals as goal

pub overflow_sub-gone : goal.overflow_sub-gone
overflow_sub-gone g c =
    let a = c.args in
    let s = whole_of a.self (g.S.Samples.samples a.samples.now) (g.P.Packets.packets a.packets.now) in
    (state_counts s c.requires.sound c.requires.full.count).1

pub returns-then-offset-gone-clause-resent : goal.returns-then-offset-gone-clause-resent
returns-then-offset-gone-clause-resent g c =
    let a = c.args in
    let s = whole_of a.self (g.S.Samples.samples a.samples.now) (g.P.Packets.packets a.packets.now) in
    ap (λ (n : Numbers). state_with s s.count s.live n s.packets) c.accepted-next.ensures
    ∙ resent_gone s c.requires.full.count c.requires.sound a.offset a.clock c.if-offset-gone.true

pub invariant_of-place : goal.invariant_of-place
invariant_of-place g c =
    let a = c.args in
    let s = whole_of a.self (g.S.Samples.samples a.samples.now) (g.P.Packets.packets a.packets.now) in
    let q = state_counts s c.requires.sound c.requires.full.count in
    record { in_range = omega (arith, q.0, q.1, c.requires.sent, c.if-offset-gone.false) }

pub returns-clause-resent : goal.returns-clause-resent
returns-clause-resent g c =
    let a = c.args in
    let s = whole_of a.self (g.S.Samples.samples a.samples.now) (g.P.Packets.packets a.packets.now) in
    ap₂ (λ (n : Numbers) (l : List Packet). state_with s s.count s.live n l) c.accepted-next.ensures
    (c.put_packet.ensures.put
    ∙ ap (λ (p : Packet). set s.packets (a.offset - (s.count - s.live) - 1) p) (c.sent_again.ensures ∙ ap with_resent c.packet_at-p.ensures.found))
    ∙ resent_kept s c.requires.full.count c.requires.sound a.offset a.clock c.if-offset-gone.false c.requires.sent
