-- The tests come in the order of the definition; where one fails the rest is not looked at, and where nothing waits the table has nothing to ask.
use Rattle.std.proofs.Common.{ℕ, ◌+◌, sym, ap, ◌∙◌, arith, leb}
use Rattle.recv.specs.Lent.{whole}
use Rattle.recv.specs.Laws.State.{sound_none, sound_first, sound_last, sound_bytes}
use Rattle.recv.proofs.Counts.is_sound.Goals as goal

pub returns-then-span-eq0 : goal.returns-then-span-eq0
returns-then-span-eq0 c =
    let s = whole c.args.self c.args.waiting.now in
    sym (sound_none s (omega arith) (omega arith) (omega arith) (omega arith) c.if-span-eq0.true)

pub returns-then-waiting-ne0 : goal.returns-then-waiting-ne0
returns-then-waiting-ne0 c =
    let s = whole c.args.self c.args.waiting.now in
    sym (sound_first s (omega arith) (omega arith) (omega arith) (omega arith) (omega arith) c.if-waiting-ne0.true)

pub returns-then-waiting-last-eq0 : goal.returns-then-waiting-last-eq0
returns-then-waiting-last-eq0 c =
    let s = whole c.args.self c.args.waiting.now in
    sym (sound_last s (omega arith) (omega arith) (omega arith) (omega arith) (omega arith) (omega arith) (omega arith) c.if-waiting-last-eq0.true)

pub returns : goal.returns
returns c =
    let s = whole c.args.self c.args.waiting.now in
    ap (λ (n : ℕ). leb (s.ready + n) s.length) c.requires.is
    ∙ sym (sound_bytes s (omega arith) (omega arith) (omega arith) (omega arith) (omega arith) (omega arith) (omega arith) (omega arith))
