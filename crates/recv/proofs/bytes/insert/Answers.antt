-- An empty payload that is put in leaves all as it is. Of any other the check finds what is left to show.
use Rattle.std.proofs.Common.{◌≡◌, ◌+◌, ℕ, List, [], ◌∷◌, ◌++◌, length, take, drop, arith, sym, ap, ◌∙◌, append-nil, add-zero, take-append-drop, drop-drop}
use Rattle.recv.specs.Laws.Steps.{inserted_of}
use Rattle.recv.proofs.bytes.insert.Goals as goal

inserted_none : (buf payload : List ℕ) (at count : ℕ) → length payload ≡ 0 → buf ≡ inserted_of buf at count payload
inserted_none buf [] at count none =
    let moved = take count (drop at buf) in
    sym
    (ap (λ (front : List ℕ). front ++ (moved ++ drop (at + 0 + count) buf)) (append-nil (take at buf))
    ∙ (ap (λ (n : ℕ). take at buf ++ (moved ++ drop (n + count) buf)) (add-zero at)
    ∙ (ap (λ (rest : List ℕ). take at buf ++ (moved ++ rest)) (sym (drop-drop count at buf))
    ∙ (ap (λ (rest : List ℕ). take at buf ++ rest) (take-append-drop count (drop at buf)) ∙ take-append-drop at buf))))
inserted_none buf (x ∷ payload) at count none = absurd (omega arith)

pub returns-then-n-eq0 : goal.returns-then-n-eq0
returns-then-n-eq0 c = inserted_none c.args.buf.now c.args.payload.now c.args.at c.args.count c.if-n-eq0.true
