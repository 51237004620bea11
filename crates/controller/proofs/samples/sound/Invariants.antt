-- What stands from `i` on is sound, and `next` has the bounds that it sets for what stands before it.
use Rattle.std.proofs.Common.{◌≡◌, ◌≤◌, true, drop}
use Rattle.controller.specs.Delays.{delays_of, list_of, delay_below, time_by, kept_sound_of}
use Rattle.controller.proofs.samples.sound.Given as goal

abbrev pub invariant-loop-i : goal.invariant-loop-i
invariant-loop-i g l =
    let behind = drop l.i (list_of (delays_of (g.S.Samples.samples l.samples) l.count)) in
    (kept_sound_of l.last behind ≡ true) × (l.next.delay ≡ delay_below behind) × (l.next.at ≡ time_by l.last behind) × (l.i ≤ l.count)
