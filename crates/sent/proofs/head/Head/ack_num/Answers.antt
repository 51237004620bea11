-- As many are gone as were sent and are not kept.
use Rattle.std.proofs.Common.{ℕ, ◌-◌, sym, ap, ◌∙◌}
use Rattle.outgoing.specs.Read.{ack_num_in, last_acked_of}
use Rattle.sent.specs.Whole.{whole_of}
use Rattle.sent.specs.Laws.Sound.{read_told, state_counts}
use Rattle.sent.proofs.head.Head.ack_num.Goals as goal

pub returns : goal.returns
returns g c =
    let a = c.args in
    let s = whole_of a.self (g.S.Samples.samples a.samples.now) (g.P.Packets.packets a.packets.now) in
    c.told.ensures
    ∙ read_told s ack_num_in _ _ c.sound.ensures.sound
    (λ e. c.last_acked-number.ensures ∙ ap (λ (n : ℕ). last_acked_of (record { 0 = s.initial }) (s.count - n)) (sym (state_counts s e c.sound.ensures.full.count).3))
