-- The packet that is looked at is as it came; it is marked and counted where it is newly lost.
use Rattle.std.proofs.Common.{◌≡◌, ℕ, ◌<◌, ◌≤◌, ◌+◌, ◌-◌, List, length, take, drop, get_or, set, sym, ap, ap₂, ◌∙◌, arith}
use Rattle.congestion.specs.declared.numbers.Numbers.{Numbers}
use Rattle.congestion.specs.Numbers.{lost_of, when_sound}
use Rattle.outgoing.specs.declared.kept.Packet.{Packet}
use Rattle.outgoing.specs.declared.ack.Heard.{Heard}
use Rattle.outgoing.specs.Hear.{loss_from_of}
use Rattle.outgoing.specs.Loss.{acked_one, acked_count_of, is_newly_lost_of, with_lost}
use Rattle.outgoing.specs.Tracker.{no_packet}
use Rattle.sent.specs.Laws.Kept.{kept_end, acked_one_small}
use Rattle.sent.specs.Laws.Loss.{loss_starts, loss_ends, loss_read, loss_same, loss_new, count_behind, newly_lost_unacked}
use Rattle.sent.specs.Whole.{heard_in}
use Rattle.sent.proofs.ack.lose.Goals as goal

-- The packet that is looked at is as it came.
read_as_came : (h g : Heard) (live i : ℕ) (p : Packet) → (few : live ≤ length h.packets) → 0 < i → i ≤ live → g ≡ loss_from_of h live i
    → p ≡ get_or g.packets (i - 1) no_packet → p ≡ get_or h.packets (i - 1) no_packet
read_as_came h g live i p few some within same read =
    read ∙ ap (λ (x : Heard). get_or x.packets (i - 1) no_packet) same ∙ loss_read h live few i some within

stored_is : (h g : Heard) (i : ℕ) (p : Packet) (n : Numbers) → h ≡ g
    → ◌≡◌ {A = Heard} (record { packets = set h.packets i p; numbers = n; news = h.news }) (record { packets = set g.packets i p; numbers = n; news = g.news })
stored_is h g i p n e = ap (λ (x : Heard). record { packets = set x.packets i p; numbers = n; news = x.news }) e

pub loop-i-init : goal.loop-i-init
unfolding acked_count_of
loop-i-init g c =
    let a = c.args in
    let h = heard_in a.heard (g.P.Packets.packets a.packets.now) in
    let few : a.live ≤ length h.packets = omega (arith, c.requires.full.count) in
    record {
      marked = loss_starts h a.live few;
      later_is = sym (ap acked_count_of (kept_end h.packets a.live few));
      later_few = omega arith;
      full = c.requires.full;
    }

pub loop-i-preserved-then-not-is_newly_lost : goal.loop-i-preserved-then-not-is_newly_lost
loop-i-preserved-then-not-is_newly_lost g c =
    let a = c.args in
    let at = c.loop-i in
    let i = at.i in
    let h = heard_in a.heard (g.P.Packets.packets a.packets.now) in
    let few : a.live ≤ length h.packets = omega (arith, c.requires.full.count) in
    let some : 0 < i = omega arith in
    let within : i ≤ a.live = omega arith in
    let read = read_as_came h (heard_in at.next (g.P.Packets.packets at.packets)) a.live i c.packet_at-p.result few some within at.invariant.marked c.packet_at-p.ensures.found in
    let tested = sym (c.is_newly_lost.ensures ∙ ap₂ is_newly_lost_of read at.invariant.later_is) in
    let more = c.acked_one-later.ensures ∙ ap acked_one read in
    let small = acked_one_small (get_or h.packets (i - 1) no_packet) in
    record {
      marked = at.invariant.marked ∙ loss_same h a.live few i some within (tested ∙ c.if-not-is_newly_lost.true);
      later_is = ap₂ (λ (x y : ℕ). x + y) at.invariant.later_is more ∙ sym (count_behind h a.live few i some within);
      later_few = omega (arith, more);
      full = at.invariant.full;
    }

pub loop-i-preserved : goal.loop-i-preserved
unfolding loss_from_of
loop-i-preserved g c =
    let a = c.args in
    let at = c.loop-i in
    let i = at.i in
    let put = c.put_packet in
    let h = heard_in a.heard (g.P.Packets.packets a.packets.now) in
    let few : a.live ≤ length h.packets = omega (arith, c.requires.full.count) in
    let some : 0 < i = omega arith in
    let within : i ≤ a.live = omega arith in
    let read = read_as_came h (heard_in at.next (g.P.Packets.packets at.packets)) a.live i c.packet_at-p.result few some within at.invariant.marked c.packet_at-p.ensures.found in
    let new = sym (c.is_newly_lost.ensures ∙ ap₂ is_newly_lost_of read at.invariant.later_is) ∙ c.if-not-is_newly_lost.false in
    let none = newly_lost_unacked (get_or h.packets (i - 1) no_packet) (acked_count_of (drop i (take a.live h.packets))) new in
    let count = count_behind h a.live few i some within in
    record {
      marked = ap (λ (l : List Packet). record { packets = l; numbers = c.lost-next.result; news = at.next.news }) put.ensures.put
          ∙ stored_is (heard_in at.next (g.P.Packets.packets at.packets)) (loss_from_of h a.live i) (i - 1) c.lost_now.result c.lost-next.result at.invariant.marked
          ∙ loss_new h a.live few i some within c.lost_now.result c.lost-next.result new
          (c.lost_now.ensures ∙ ap (λ (q : Packet). with_lost q 1) read)
          (c.lost-next.ensures ∙ ap (λ (x : Heard). when_sound x.numbers (lost_of x.numbers)) at.invariant.marked);
      later_is = omega (arith, at.invariant.later_is, none, count);
      later_few = omega arith;
      full = put.ensures.full;
    }

pub returns-clause-lost : goal.returns-clause-lost
returns-clause-lost g c =
    let a = c.args in
    let at = c.loop-i in
    let h = heard_in a.heard (g.P.Packets.packets a.packets.now) in
    let few : a.live ≤ length h.packets = omega (arith, c.requires.full.count) in
    let e : at.i ≡ 0 = omega arith in
    at.invariant.marked ∙ ap (loss_from_of h a.live) e ∙ loss_ends h a.live few
