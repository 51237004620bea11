-- The sample goes into its two places, and no place is added.
use Rattle.std.proofs.Common.{◌≡◌, ◌+◌, ◌*◌, ◌∙◌, length, set, length-set, sym, arith}
use Rattle.std.proofs.lemmas.List.{set_past}
use Rattle.sent_lent.specs.Lent.{samples_in}
use Rattle.sent_lent.specs.Laws.LentSamples.{samples_full, sample_put}
use Rattle.sent_lent.specs.Laws.LentState.{pairs_are}
use Rattle.sent_lent.proofs.pairs.PairsSamples.put.Goals as goal

pub returns-then-i-lt1024-clause-put : goal.returns-then-i-lt1024-clause-put
returns-then-i-lt1024-clause-put c =
    let s = c.args.self.now.pairs in
    let full : length s ≡ 2048 = omega arith in
    sample_put s c.args.i c.args.sample (omega (arith, full))

pub returns-then-i-lt1024-clause-full : goal.returns-then-i-lt1024-clause-full
returns-then-i-lt1024-clause-full c =
    let s = c.args.self.now.pairs in
    let i = c.args.i in
    let x = c.args.sample in
    let full : length s ≡ 2048 = omega arith in
    samples_full (set (set s (2 * i) x.delay) (2 * i + 1) x.at) (length-set (set s (2 * i) x.delay) (2 * i + 1) x.at ∙ length-set s (2 * i) x.delay ∙ full)

pub returns-then-i-lt1024-clause-alone : goal.returns-then-i-lt1024-clause-alone
returns-then-i-lt1024-clause-alone c =
    let s = c.args.self.now.pairs in
    let i = c.args.i in
    let x = c.args.sample in
    let full : length s ≡ 2048 = omega arith in
    let next = set (set s (2 * i) x.delay) (2 * i + 1) x.at in
    pairs_are (record { pairs = next }) (length-set (set s (2 * i) x.delay) (2 * i + 1) x.at ∙ length-set s (2 * i) x.delay ∙ full)

pub returns-else-i-lt1024-clause-put : goal.returns-else-i-lt1024-clause-put
returns-else-i-lt1024-clause-put c =
    let s = c.args.self.now.pairs in
    let full : length s ≡ 2048 = omega arith in
    sym (set_past (samples_in s) c.args.i c.args.sample (omega (arith, samples_full s full)))

pub returns-else-i-lt1024-clause-full : goal.returns-else-i-lt1024-clause-full
returns-else-i-lt1024-clause-full c = samples_full c.args.self.now.pairs (omega arith)

pub returns-else-i-lt1024-clause-alone : goal.returns-else-i-lt1024-clause-alone
returns-else-i-lt1024-clause-alone c = pairs_are c.args.self.now (omega arith)
