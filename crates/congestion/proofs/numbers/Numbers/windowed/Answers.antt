-- `windowed` meets its contract: the adjustment, by the bytes in flight with the packet, and the new maximum are the definition's.
use Rattle.std.proofs.Common.{ℕ, ◌-◌, ap, ◌∙◌, w64}
use Rattle.std.proofs.lemmas.Int.{to_z-of_z}
use Rattle.congestion.specs.Numbers.{minimum_of, with_window, adjusted_of}
use Rattle.congestion.specs.Window.{next_maximum_of}
use Rattle.congestion.proofs.numbers.Numbers.windowed.Goals as goal

pub returns : goal.returns
unfolding adjusted_of
returns c =
    let n = c.args.self in
    let maximum = next_maximum_of (minimum_of n) n.increase n.maximum in
    let step = c.adjustment-step in
    ap (λ (k : ℕ). with_window n c.next_maximum.result k) c.saturating_sub-left.ensures
    ∙ ap (λ (k : ℕ). with_window n k (n.in_flight - c.args.len))
    (c.next_maximum.ensures ∙ ap maximum (to_z-of_z w64 step.result (record { sfits = step.type_inv }) ∙ step.ensures))
