-- A sound list begins with one that is not acknowledged.
use Rattle.std.proofs.Common.{ℕ, not, eqb, take, sym, ap, ◌∙◌}
use Rattle.outgoing.specs.Read.{has_unacked_in}
use Rattle.sent.specs.Whole.{whole_of}
use Rattle.sent.specs.Laws.Sound.{read_told, state_counts, state_facts, some_unacked_lem}
use Rattle.sent.proofs.head.Head.has_unacked_packets.Goals as goal

pub returns : goal.returns
returns g c =
    let a = c.args in
    let s = whole_of a.self (g.S.Samples.samples a.samples.now) (g.P.Packets.packets a.packets.now) in
    c.told.ensures
    ∙ read_told s has_unacked_in _ _ c.sound.ensures.sound
    (λ e. sym (ap (λ (n : ℕ). not (eqb n 0)) (state_counts s e c.sound.ensures.full.count).3) ∙ sym (some_unacked_lem (take s.live s.packets) (state_facts s e).1.starts))
