-- `timed_out` meets its contract: neither doubled number overflows, since the numbers are sound.
use Rattle.std.proofs.Common.{sym, ◌∙◌, arith}
use Rattle.congestion.specs.Laws.Numbers.{sound_facts}
use Rattle.congestion.proofs.numbers.Numbers.timed_out.Goals as goal

pub overflow_mul-result : goal.overflow_mul-result
overflow_mul-result c =
    let s = sound_facts c.args.self (sym c.sound.ensures ∙ c.if-not-sound.false) in
    omega (arith, s.rules.largest_packet_in.1, s.running.timeout_in.1)

pub overflow_mul-self : goal.overflow_mul-self
overflow_mul-self c =
    let s = sound_facts c.args.self (sym c.sound.ensures ∙ c.if-not-sound.false) in
    omega (arith, s.rules.largest_packet_in.1, s.running.timeout_in.1)
