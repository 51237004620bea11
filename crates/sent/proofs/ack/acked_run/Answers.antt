-- The packet that is looked at decides: the run stops there, or goes on past it.
use Rattle.std.proofs.Common.{◌≡◌, ℕ, ◌<◌, ◌≤◌, List, [], Bool, length, take, drop, drop_of_length-le, get_or, get_or-take, sym, ap, ◌∙◌, add-one, arith}
use Rattle.outgoing.specs.declared.kept.Packet.{Packet}
use Rattle.outgoing.specs.Ack.{from_unacked}
use Rattle.outgoing.specs.Loss.{is_unacked}
use Rattle.outgoing.specs.Tracker.{no_packet}
use Rattle.sent.specs.Laws.Kept.{kept_length}
use Rattle.sent.specs.Laws.Loss.{run_stops, run-goes_on}
use Rattle.sent.proofs.ack.acked_run.Goals as goal

listed : (packets : List Packet) (live : ℕ) → length packets ≡ 512 → live ≤ 512 → length (take live packets) ≡ live
listed packets live h k = kept_length packets live (omega arith)

-- the test that was run is that of the packet at the place
tested : (packets : List Packet) (live run : ℕ) (p : Packet) (t : Bool) → run < live → p ≡ get_or packets run no_packet → t ≡ is_unacked p
    → is_unacked (get_or (take live packets) run no_packet) ≡ t
tested packets live run p t h read test = ap is_unacked (get_or-take live packets run no_packet h ∙ sym read) ∙ sym test

pub returns-then-unacked-clause-run : goal.returns-then-unacked-clause-run
returns-then-unacked-clause-run g c =
    let a = c.args in
    let at = c.loop-run in
    let packets = g.P.Packets.packets a.packets.now in
    let test = tested packets a.live at.run c.packet_at-p.result c.unacked.result c.loop-run-test.true c.packet_at-p.ensures.found c.unacked.ensures in
    at.invariant
    ∙ run_stops (take a.live packets) at.run (omega (arith, listed packets a.live c.requires.full.count c.requires.few)) (test ∙ c.if-unacked.true)

pub loop-run-preserved : goal.loop-run-preserved
loop-run-preserved g c =
    let a = c.args in
    let at = c.loop-run in
    let packets = g.P.Packets.packets a.packets.now in
    let test = tested packets a.live at.run c.packet_at-p.result c.unacked.result c.loop-run-test.true c.packet_at-p.ensures.found c.unacked.ensures in
    at.invariant
    ∙ run-goes_on (take a.live packets) at.run (omega (arith, listed packets a.live c.requires.full.count c.requires.few)) (test ∙ c.if-unacked.false)
    ∙ ap (λ (n : ℕ). from_unacked (drop n (take a.live packets))) (sym (add-one at.run))

pub returns-clause-run : goal.returns-clause-run
unfolding from_unacked
returns-clause-run g c =
    let a = c.args in
    let at = c.loop-run in
    let l = take a.live (g.P.Packets.packets a.packets.now) in
    let full = listed (g.P.Packets.packets a.packets.now) a.live c.requires.full.count c.requires.few in
    let none : drop at.run l ≡ [] = drop_of_length-le l {i = at.run} (omega (arith, full)) in
    let all : drop a.live l ≡ [] = drop_of_length-le l {i = a.live} (omega (arith, full)) in
    at.invariant ∙ ap from_unacked none ∙ sym all
