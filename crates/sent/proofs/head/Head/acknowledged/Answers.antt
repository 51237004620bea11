-- What was heard is what document 01 names, by a sample that is taken once. Where nothing was newly acknowledged, the packets are as they were, no loss is new
-- and no place is free, so only the clock is set.
use Rattle.std.proofs.Common.{◌≡◌, ℕ, ◌++◌, ◌-◌, List, take, drop, sym, ap, ap₂, ◌∙◌, refl, arith}
use Rattle.std.proofs.lemmas.Bool.{not-true, not-false}
use Rattle.congestion.specs.declared.numbers.Numbers.{Numbers}
use Rattle.congestion.specs.Numbers.{accepted_of}
use Rattle.controller.specs.declared.delays.Delays.{Delays}
use Rattle.controller.specs.Delays.{taken_of}
use Rattle.outgoing.specs.declared.ack.Heard.{Heard}
use Rattle.outgoing.specs.declared.kept.Packet.{Packet}
use Rattle.outgoing.specs.Ack.{heard_of, from_unacked}
use Rattle.outgoing.specs.Hear.{loss_heard_of}
use Rattle.sent.specs.declared.state.SentPackets.{SentPackets}
use Rattle.sent.specs.Whole.{whole_of, heard_in}
use Rattle.sent.specs.Laws.AckState.{ack_on, start_on, heard_on, quiet, loud}
use Rattle.sent.specs.Laws.Acknowledge.{no_news}
use Rattle.sent.specs.Laws.Sound.{state_counts}
use Rattle.sent.specs.Laws.Transmit.{state_with}
use Rattle.sent.proofs.head.Head.acknowledged.Goals as goal

left_in : (s : SentPackets) (live : ℕ) (packets : List Packet) (n n' : Numbers) (d d' : Delays) → n ≡ n' → d ≡ d'
    → ◌≡◌ {A = SentPackets} (record { initial = s.initial; count = s.count; live = live; numbers = n; delays = d; packets = packets })
    (record { initial = s.initial; count = s.count; live = live; numbers = n'; delays = d'; packets = packets })
left_in s live packets n n' d d' e f =
    ap₂ (λ (x : Numbers) (y : Delays). record { initial = s.initial; count = s.count; live = live; numbers = x; delays = y; packets = packets }) e f

pub overflow_sub-ack : goal.overflow_sub-ack
overflow_sub-ack g c =
    let a = c.args in
    let s = whole_of a.self (g.S.Samples.samples a.samples.now) (g.P.Packets.packets a.packets.now) in
    (state_counts s c.requires.sound c.requires.full.count).1

pub hear-heard-requires : goal.hear-heard-requires
hear-heard-requires g c =
    let a = c.args in
    let s = whole_of a.self (g.S.Samples.samples a.samples.now) (g.P.Packets.packets a.packets.now) in
    let q = state_counts s c.requires.sound c.requires.full.count in
    record {
      gone = omega (arith, q.0, q.1);
      kept = omega (arith, q.0, q.1);
      count = q.2;
      sent = c.requires.sent;
      sack = c.requires.sack;
      full = c.requires.full;
    }

pub returns-then-not-heard-clause-acked : goal.returns-then-not-heard-clause-acked
returns-then-not-heard-clause-acked g c =
    let a = c.args in
    let s = whole_of a.self (g.S.Samples.samples a.samples.now) (g.P.Packets.packets a.packets.now) in
    let full = c.requires.full.count in
    let base = c.base_with in
    let heard = c.hear-heard.ensures.heard in
    let none = sym (ap (λ (h : Heard). h.news) heard) ∙ not-true _ c.if-not-heard.true in
    let taken = taken_of s.delays a.sample.delay a.sample.at s.numbers.delay_window in
    let ack = ack_on s full c.requires.sound a.offset a.sack.now a.sample.delay a.sample.at taken base.result refl base.ensures in
    let start = start_on s full c.requires.sound a.offset a.sack.now a.sample.delay a.sample.at taken base.result refl base.ensures in
    ap₂ (λ (n : Numbers) (l : List Packet). state_with s s.count s.live n l) c.accepted-next.ensures
    (ap (λ (h : Heard). h.packets) (heard ∙ no_news ack (heard_of s.count a.offset a.sack.now) start none))
    ∙ quiet s full c.requires.sound a.offset a.sack.now a.sample.delay a.sample.at taken base.result refl base.ensures none

pub lose-requires-clause-few : goal.lose-requires-clause-few
lose-requires-clause-few g c =
    let a = c.args in
    let s = whole_of a.self (g.S.Samples.samples a.samples.now) (g.P.Packets.packets a.packets.now) in
    (state_counts s c.requires.sound c.requires.full.count).0

pub acked_run-run-requires-clause-few : goal.acked_run-run-requires-clause-few
acked_run-run-requires-clause-few g c =
    let a = c.args in
    let s = whole_of a.self (g.S.Samples.samples a.samples.now) (g.P.Packets.packets a.packets.now) in
    (state_counts s c.requires.sound c.requires.full.count).0

pub move_down-requires-clause-within : goal.move_down-requires-clause-within
move_down-requires-clause-within g c =
    let a = c.args in
    let s = whole_of a.self (g.S.Samples.samples a.samples.now) (g.P.Packets.packets a.packets.now) in
    let q = state_counts s c.requires.sound c.requires.full.count in
    omega (arith, q.0, c.acked_run-run.ensures.within)

pub returns-clause-acked : goal.returns-clause-acked
returns-clause-acked g c =
    let a = c.args in
    let s = whole_of a.self (g.S.Samples.samples a.samples.now) (g.P.Packets.packets a.packets.now) in
    let full = c.requires.full.count in
    let live = s.live in
    let base = c.base_with in
    let run = c.acked_run-run in
    let down = c.move_down in
    let lost = c.lose in
    let hear = c.hear-heard.ensures.heard in
    let taken = taken_of s.delays a.sample.delay a.sample.at s.numbers.delay_window in
    let heard = heard_on s full c.requires.sound a.offset a.sack.now a.sample.delay a.sample.at taken base.result refl base.ensures in
    let kept = g.P.Packets.packets down.new.packets in
    let same : heard_in lost.result (g.P.Packets.packets lost.new.packets) ≡ loss_heard_of heard live = lost.ensures.lost ∙ ap (λ (h : Heard). loss_heard_of h live) hear in
    let packets = ap (λ (h : Heard). h.packets) same in
    left_in s (live - run.result) kept c.accepted-next-2.result _ _ taken (c.accepted-next-2.ensures ∙ ap (λ (h : Heard). accepted_of h.numbers a.sample.at) same) c.take.ensures.taken
    ∙ loud s full c.requires.sound a.offset a.sack.now a.sample.delay a.sample.at taken base.result refl base.ensures
    (sym (ap (λ (h : Heard). h.news) hear) ∙ not-false _ c.if-not-heard.false)
    run.result kept run.ensures.within
    (ap (λ (l : List Packet). from_unacked (take live l)) (sym packets) ∙ run.ensures.run ∙ ap (λ (l : List Packet). drop run.result (take live l)) packets)
    (down.ensures.moved ∙ ap (λ (l : List Packet). take (live - run.result) (drop run.result l) ++ drop (live - run.result) l) packets)
