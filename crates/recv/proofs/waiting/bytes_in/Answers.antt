-- The chain's sum is std's; an entry adds at most 2^32 - 1, so 256 of them fit.
use Rattle.std.proofs.Common.{◌≡◌, ◌-◌, ◌≤◌, ℕ, sym, ◌∙◌, arith, rules}
use Rattle.std.specs.List.{sum_by, All}
use Rattle.std.proofs.lemmas.Grind.{get_or_default_zero}
use Rattle.std.proofs.lemmas.List.Sums.{sum_by-le}
use Rattle.recv.specs.Laws.Table.{bytes_in_sum}
use Rattle.recv.proofs.waiting.bytes_in.Goals as goal

pub returns : goal.returns
returns c =
    let xs = c.args.table.now in
    let e : c.sum.result ≡ sum_by (λ (x : ℕ). x - 1) xs = search rules in
    let each : All (λ (x : ℕ). x - 1 ≤ 4294967295) xs = λ k d h. rw (get_or_default_zero xs k d h) (omega (arith, c.type_inv.table k)) in
    let most = sum_by-le (λ (x : ℕ). x - 1) 4294967295 xs each in
    (e ∙ sym (bytes_in_sum xs), omega (arith, c.requires))
