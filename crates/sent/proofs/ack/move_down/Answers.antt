-- What is read next stands past those that have been moved, as it was.
use Rattle.std.proofs.Common.{◌+◌, List, get_or, set, ap, ap₂, ◌∙◌, arith}
use Rattle.outgoing.specs.declared.kept.Packet.{Packet}
use Rattle.outgoing.specs.Tracker.{no_packet}
use Rattle.outgoing.specs.Laws.Move.{moved_one}
use Rattle.sent.proofs.ack.move_down.Goals as goal

pub loop-i-preserved : goal.loop-i-preserved
loop-i-preserved g c =
    let a = c.args in
    let at = c.loop-i in
    let put = c.put_packet in
    let kept = g.P.Packets.packets a.packets.now in
    record {
      moved = put.ensures.put
          ∙ ap₂ (λ (m : List Packet) (p : Packet). set m at.i p) at.invariant.moved
          (c.packet_at-p.ensures.found ∙ ap (λ (m : List Packet). get_or m (a.first + at.i) no_packet) at.invariant.moved)
          ∙ moved_one kept a.first at.i no_packet (omega (arith, c.requires.full.count, c.requires.within));
      full = put.ensures.full;
    }
