-- `lost` meets its contract: twice the largest packet fits, since the numbers are sound.
use Rattle.std.proofs.Common.{sym, ◌∙◌, arith}
use Rattle.congestion.specs.Laws.Numbers.{sound_facts}
use Rattle.congestion.proofs.numbers.Numbers.lost.Goals as goal

pub overflow_mul-self : goal.overflow_mul-self
overflow_mul-self c =
    let s = sound_facts c.args.self (sym c.sound.ensures ∙ c.if-not-sound.false) in
    omega (arith, s.rules.largest_packet_in.1)
