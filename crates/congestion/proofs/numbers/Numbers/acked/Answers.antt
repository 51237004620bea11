-- `acked` meets its contract: the steps are the definition's, in its order, and what the window's leave is sound.
use Rattle.std.proofs.Common.{sym, ap, ◌∙◌, le-leb}
use Rattle.congestion.specs.Numbers.{sound_of, credited_of}
use Rattle.congestion.specs.Laws.Numbers.{sound_facts, sound_from, adjusted_sound, landed_sound}
use Rattle.congestion.proofs.numbers.Numbers.acked.Goals as goal

pub timed-requires : goal.timed-requires
timed-requires c =
    let a = c.args in
    let s = sound_facts a.self (sym c.sound.ensures ∙ c.if-not-sound.false) in (
      ap sound_of c.windowed-windowed.ensures ∙ sound_from _ (landed_sound _ a.len (adjusted_sound a.self a.base a.delay a.len s)),
      c.if-trip-gt-LATEST.false,
    )

pub returns-then-once : goal.returns-then-once
unfolding credited_of
returns-then-once c =
    simp (sym c.sound.ensures ∙ c.if-not-sound.false, le-leb _ _ c.if-trip-gt-LATEST.false, c.if-once.true, c.timed.ensures, c.windowed-windowed.ensures)

pub returns : goal.returns
unfolding credited_of
returns c =
    simp (sym c.sound.ensures ∙ c.if-not-sound.false, le-leb _ _ c.if-trip-gt-LATEST.false, c.if-once.false, c.windowed-windowed.ensures)
