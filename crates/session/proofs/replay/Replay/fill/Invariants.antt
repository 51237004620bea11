-- The turns that are left, from here, give what all of them give from the start.
use Rattle.std.proofs.Common.{◌-◌, ◌≤◌, ◌≡◌, length}
use Rattle.session.specs.Replay.{turns_of}
use Rattle.session.proofs.replay.Replay.fill.Given as goal

abbrev pub invariant-loop-turn : goal.invariant-loop-turn
invariant-loop-turn l =
    (l._turn ≤ length l.initial.room)
    × (length l.room ≡ length l.initial.room)
    × (turns_of l.file (length l.initial.room) (l.initial.page, l.initial.room) ≡ turns_of l.file (length l.initial.room - l._turn) (l.page, l.room))
