-- At place 0 the payload and the run behind it become ready, so the count grows by the run, the ready bytes by the run's bytes, and the table loses the run (`placed_first`).
use Rattle.std.proofs.Common.{ℕ, ◌+◌, ◌-◌, ◌≤◌, ◌<◌, ◌≡◌, List, length, take, drop, sym, ap, ◌∙◌, arith}
use Rattle.std.proofs.Math.Seq.{paste}
use Rattle.recv.specs.Lent.{whole}
use Rattle.recv.specs.Table.{bytes_in, run_of}
use Rattle.recv.specs.State.{table_of}
use Rattle.recv.specs.Laws.Moves.{drop-take}
use Rattle.recv.specs.Laws.Steps.{Placeable, run_fits, run-bytes, placed_first}
use Rattle.recv.specs.declared.ReceiveBuffer.{ReceiveBuffer}
use Rattle.recv.proofs.Counts.moved.Goals as goal

-- the places behind the first
run_is : (s : ReceiveBuffer) (run : ℕ) → run ≡ run_of (take (s.span - 1) (drop 1 s.waiting)) → run ≡ run_of (drop 1 (table_of s))
run_is s run e = e ∙ ap run_of (sym (drop-take 1 s.span s.waiting))

module _ (s : ReceiveBuffer) (n : ℕ) (known : Placeable s 0 n) (some : 0 < s.span) (all : length s.waiting ≡ 256) where
  -- the run lies within the table
  within : (run : ℕ) → run ≡ run_of (drop 1 (table_of s)) → 1 + run ≤ s.span
  within run e = omega (arith, e, run_fits s n (omega (arith, known, all)) known.first some)

  -- its bytes are among those that wait
  bytes_within : (run bytes : ℕ) → run ≡ run_of (drop 1 (table_of s)) → bytes ≡ bytes_in (take (1 + run) s.waiting) → bytes ≤ bytes_in (table_of s)
  bytes_within run bytes e f = rw (f, e) (run-bytes s n (omega (arith, known, all)) known.first some)

pub overflow_add-run : goal.overflow_add-run
overflow_add-run c =
    let run = within (whole c.args.self c.args.waiting.now) c.args.n c.requires.0 c.requires.1 c.told-waiting _ (run_is (whole c.args.self c.args.waiting.now) _ c.run-run.ensures) in
    omega (arith, c.requires.0)

pub shared_ref_as_front-bytes_in : goal.shared_ref_as_front-bytes_in
shared_ref_as_front-bytes_in c =
    let run = within (whole c.args.self c.args.waiting.now) c.args.n c.requires.0 c.requires.1 c.told-waiting _ (run_is (whole c.args.self c.args.waiting.now) _ c.run-run.ensures) in
    omega (arith, c.requires.0)

pub overflow_cast-bytes : goal.overflow_cast-bytes
overflow_cast-bytes c =
    let run = within (whole c.args.self c.args.waiting.now) c.args.n c.requires.0 c.requires.1 c.told-waiting _ (run_is (whole c.args.self c.args.waiting.now) _ c.run-run.ensures) in
    let bytes = bytes_within (whole c.args.self c.args.waiting.now) c.args.n c.requires.0 c.requires.1 c.told-waiting _ _ (run_is (whole c.args.self c.args.waiting.now) _ c.run-run.ensures) c.bytes_in-bytes.ensures.0 in
    omega (arith, c.requires.0)

pub copy_within-requires-clause-start_le_end : goal.copy_within-requires-clause-start_le_end
copy_within-requires-clause-start_le_end c =
    let run = within (whole c.args.self c.args.waiting.now) c.args.n c.requires.0 c.requires.1 c.told-waiting _ (run_is (whole c.args.self c.args.waiting.now) _ c.run-run.ensures) in
    run

pub overflow_add-result-3 : goal.overflow_add-result-3
overflow_add-result-3 c =
    let run = within (whole c.args.self c.args.waiting.now) c.args.n c.requires.0 c.requires.1 c.told-waiting _ (run_is (whole c.args.self c.args.waiting.now) _ c.run-run.ensures) in
    let bytes = bytes_within (whole c.args.self c.args.waiting.now) c.args.n c.requires.0 c.requires.1 c.told-waiting _ _ (run_is (whole c.args.self c.args.waiting.now) _ c.run-run.ensures) c.bytes_in-bytes.ensures.0 in
    omega (arith, c.requires.0)

pub overflow_sub-result : goal.overflow_sub-result
overflow_sub-result c =
    let run = within (whole c.args.self c.args.waiting.now) c.args.n c.requires.0 c.requires.1 c.told-waiting _ (run_is (whole c.args.self c.args.waiting.now) _ c.run-run.ensures) in
    run

pub returns : goal.returns
returns c =
    let a = c.args in
    let known = c.requires in
    let s = whole a.self a.waiting.now in
    let n = a.n in
    let run = c.run-run.result in
    ap (λ (w : List ℕ). mk s n run c.bytes_in-bytes.result w) c.copy_within.ensures.after
    ∙ ap (λ (b : ℕ). mk s n run b (shifted s run)) c.bytes_in-bytes.ensures.0
    ∙ ap (λ (r : ℕ). mk s n r (bytes_in (take (1 + r) s.waiting)) (shifted s r)) (run_is s run c.run-run.ensures)
    ∙ sym (placed_first s n (omega (arith, known.0, c.told-waiting)) known.0.first known.1)
  where
    shifted : ReceiveBuffer → ℕ → List ℕ
    shifted s r = paste s.waiting 0 (drop (1 + r) s.waiting) (s.span - (1 + r))

    mk : ReceiveBuffer → ℕ → ℕ → ℕ → List ℕ → ReceiveBuffer
    mk s n r b w = record { initial = s.initial; length = s.length; count = s.count + (1 + r); ready = s.ready + n + b; span = s.span - (1 + r); waiting = w }
