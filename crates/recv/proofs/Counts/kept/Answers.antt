-- Past a gap nothing becomes ready: the entry goes into the table (`placed_in`), or beyond its end with zeros between (`placed_past`).
use Rattle.std.proofs.Common.{append_assoc, ◌≡◌, ℕ, ◌+◌, ◌-◌, ◌≤◌, List, ◌++◌, length, take, drop, replicate, set, sym, ap, ◌∙◌, arith, length-drop, length-take-le, take_all}
use Rattle.std.proofs.lemmas.List.{length-replicate}
use Rattle.std.proofs.Math.Seq.{drop-drop}
use Rattle.recv.specs.Lent.{whole}
use Rattle.recv.specs.Laws.Steps.{placed_in, placed_past}
use Rattle.recv.specs.declared.Counts.{Counts}
use Rattle.recv.specs.declared.ReceiveBuffer.{ReceiveBuffer}
use Rattle.recv.proofs.Counts.kept.Goals as goal

pub returns-then-place-span : goal.returns-then-place-span
returns-then-place-span c =
    let a = c.args in
    let known = c.requires in
    sym (placed_in (whole a.self a.waiting.now) a.n (omega (arith, known.0)) known.0.first a.place known.1 c.if-place-span.true)

pub returns : goal.returns
returns c =
    let a = c.args in
    let known = c.requires in
    let w = a.waiting.now in
    let span = a.self.span in
    let gap = a.place - span in
    let short : gap ≤ length (drop span w) = rw (length-drop span w) (omega (arith, known.0)) in
    let zeros : c.fill.new.self ≡ take gap (replicate gap 0) =
    c.fill.ensures.after (λ y h. h)
    ∙ ap (λ (k : ℕ). replicate k 0) (length-take-le gap (drop span w) short)
    ∙ sym (take_all gap (replicate gap 0) (omega (arith, length-replicate {A = ℕ} gap 0))) in
    ap (λ (l : List ℕ). mk a.self a.place a.n (take span w ++ (l ++ drop gap (drop span w)))) zeros
    ∙ ap (λ (l : List ℕ). mk a.self a.place a.n (take span w ++ (take gap (replicate gap 0) ++ l))) (drop-drop gap span w)
    ∙ ap (λ (l : List ℕ). mk a.self a.place a.n l) (sym (append_assoc (take span w) (take gap (replicate gap 0)) (drop (span + gap) w)))
    ∙ sym (placed_past (whole a.self w) a.n (omega (arith, known.0)) known.0.first a.place known.1 c.if-place-span.false (omega (arith, known.0)))
  where
    mk : Counts → (place n : ℕ) → List ℕ → ReceiveBuffer
    mk s place n w = record { initial = s.initial; length = s.length; count = s.count; ready = s.ready; span = place + 1; waiting = set w place (n + 1) }
