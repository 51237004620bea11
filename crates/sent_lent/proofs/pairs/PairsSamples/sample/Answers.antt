-- The two places of the array hold the sample; past the last there is none.
use Rattle.std.proofs.Common.{◌≡◌, ℕ, length, sym, ap₂, arith, ◌∙◌}
use Rattle.std.proofs.lemmas.List.{get_or_past}
use Rattle.controller.specs.declared.delays.Sample.{Sample}
use Rattle.controller.specs.Delays.{no_sample}
use Rattle.sent_lent.specs.Lent.{samples_in}
use Rattle.sent_lent.specs.Laws.LentSamples.{samples_full, sample_in}
use Rattle.sent_lent.proofs.pairs.PairsSamples.sample.Goals as goal

abbrev sample_of : ℕ → ℕ → Sample
sample_of delay at = record { delay = delay; at = at }

pub returns-then-i-ge1024-clause-found : goal.returns-then-i-ge1024-clause-found
returns-then-i-ge1024-clause-found c =
    let s = c.args.self.now.pairs in
    let full : length s ≡ 2048 = omega arith in
    ap₂ sample_of c.default.ensures.0 c.default.ensures.1 ∙ sym (get_or_past (samples_in s) c.args.i no_sample (omega (arith, samples_full s full)))

pub returns-then-i-ge1024-clause-full : goal.returns-then-i-ge1024-clause-full
returns-then-i-ge1024-clause-full c = samples_full c.args.self.now.pairs (omega arith)

pub returns-clause-found : goal.returns-clause-found
returns-clause-found c =
    let s = c.args.self.now.pairs in
    let full : length s ≡ 2048 = omega arith in
    sample_in s c.args.i (omega (arith, full))

pub returns-clause-full : goal.returns-clause-full
returns-clause-full c = samples_full c.args.self.now.pairs (omega arith)
