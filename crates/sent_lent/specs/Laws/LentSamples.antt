-- Samples in lent memory: where each stands, and what putting one does to the list of them.
use Rattle.std.specs.Prelude.{◌≡◌, refl, ℕ, zero, suc, ◌+◌, ◌*◌, ◌<◌, length, get_or, set}
use Rattle.std.proofs.Math.Path.{ap}
use Rattle.std.proofs.Common.{◌∙◌, arith}
use mathlib.Core.List.{List, [], ◌∷◌}
use Rattle.controller.specs.declared.delays.Sample.{Sample}
use Rattle.controller.specs.Delays.{no_sample}
use Rattle.sent_lent.specs.Lent.{samples_in}

-- ---- places

pub samples-length : (s : List ℕ) (n : ℕ) → length s ≡ 2 * n → length (samples_in s) ≡ n
unfolding samples_in
samples-length [] n e = omega arith
samples-length (d ∷ []) n e = absurd (omega arith)
samples-length (d ∷ t ∷ s) zero e = absurd (omega arith)
samples-length (d ∷ t ∷ s) (suc n) e = ap suc (samples-length s n (omega arith))

pub samples_full : (s : List ℕ) → length s ≡ 2048 → length (samples_in s) ≡ 1024
samples_full s e = samples-length s 1024 e

abbrev pair : ℕ → ℕ → Sample
pair delay at = record { delay = delay; at = at }

pub sample_in : (s : List ℕ) (i : ℕ) → 2 * i + 1 < length s
    → ◌≡◌ {A = Sample} (record { delay = get_or s (2 * i) 0; at = get_or s (2 * i + 1) 0 }) (get_or (samples_in s) i no_sample)
unfolding samples_in
sample_in [] i h = absurd (omega arith)
sample_in (d ∷ []) i h = absurd (omega arith)
sample_in (d ∷ t ∷ s) zero h = refl
sample_in (d ∷ t ∷ s) (suc i) h =
    let e : 2 * suc i ≡ suc (suc (2 * i)) = omega arith in
    let f : 2 * suc i + 1 ≡ suc (suc (2 * i + 1)) = omega arith in
    ap (λ (k : ℕ). pair (get_or (d ∷ t ∷ s) k 0) (get_or (d ∷ t ∷ s) (2 * suc i + 1) 0)) e
    ∙ ap (λ (k : ℕ). pair (get_or s (2 * i) 0) (get_or (d ∷ t ∷ s) k 0)) f
    ∙ sample_in s i (omega arith)

pub sample_put : (s : List ℕ) (i : ℕ) (x : Sample) → 2 * i + 1 < length s
    → samples_in (set (set s (2 * i) x.delay) (2 * i + 1) x.at) ≡ set (samples_in s) i x
unfolding samples_in
sample_put [] i x h = absurd (omega arith)
sample_put (d ∷ []) i x h = absurd (omega arith)
sample_put (d ∷ t ∷ s) zero x h = refl
sample_put (d ∷ t ∷ s) (suc i) x h =
    let e : 2 * suc i ≡ suc (suc (2 * i)) = omega arith in
    let f : 2 * suc i + 1 ≡ suc (suc (2 * i + 1)) = omega arith in
    ap (λ (k : ℕ). samples_in (set (set (d ∷ t ∷ s) k x.delay) (2 * suc i + 1) x.at)) e
    ∙ ap (λ (k : ℕ). samples_in (set (d ∷ t ∷ set s (2 * i) x.delay) k x.at)) f
    ∙ ap (λ (l : List Sample). record { delay = d; at = t } ∷ l) (sample_put s i x (omega arith))
