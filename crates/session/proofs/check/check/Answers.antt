-- A file that fails a test is not whole, and one that passes them all is.
use Rattle.std.proofs.Common.{ℕ, ◌+◌, ◌*◌, arith, sym, ap, ◌∙◌}
use Rattle.session.specs.Format.{field_at}
use Rattle.session.specs.Check.{checked}
use Rattle.session.specs.Laws.Number.{setting_read}
use Rattle.session.specs.Laws.Session.{Whole, check_bad, check_good, total_none, total_some}
use Rattle.session.proofs.check.check.Goals as goal

pub returns-then-file-lt-EVENTS : goal.returns-then-file-lt-EVENTS
returns-then-file-lt-EVENTS c = check_bad c.args.file.now (λ w. omega (arith, w.filled, c.if-file-lt-EVENTS.true))

pub returns-then-count_at-ne8 : goal.returns-then-count_at-ne8
returns-then-count_at-ne8 c = check_bad c.args.file.now (λ w. c.if-count_at-ne8.true (c.count_at.ensures ∙ w.settings_count))

pub returns-then-setting-gt65535 : goal.returns-then-setting-gt65535
returns-then-setting-gt65535 c =
    check_bad c.args.file.now (λ w. omega (arith, c.if-setting-gt65535.true, c.setting.ensures, setting_read c.args.file.now 0 (omega arith), w.initial_to))

pub returns-then-file-end : goal.returns-then-file-end
returns-then-file-end c = check_bad c.args.file.now (λ w. omega (arith, c.if-file-end.true, c.count_at-count.ensures, w.filled))

pub returns-then-file-end-2 : goal.returns-then-file-end-2
returns-then-file-end-2 c =
    let file = c.args.file.now in
    let n = c.count_at-count.ensures in
    let k = c.count_at-sack.ensures ∙ ap (λ (n : ℕ). field_at file (72 + 24 * n) 4) n in
    check_bad file (λ w. c.if-file-end-2.true (omega (arith, n, k, w.filled)))

pub returns-in_err-total : goal.returns-in_err-total
returns-in_err-total c =
    ap checked c.from_residual.ensures ∙ check_bad c.args.file.now (total_none c.args.file.now _ c.count_at-count.ensures c.in_err-total.ensures)

pub returns-then-total-from : goal.returns-then-total-from
returns-then-total-from c =
    let file = c.args.file.now in
    let n = c.count_at-count.ensures in
    let k = c.count_at-sack.ensures ∙ ap (λ (n : ℕ). field_at file (72 + 24 * n) 4) n in
    let t = total_some file _ _ n c.in_ok-total.ensures in
    check_bad file (λ w. c.if-total-from.true (sym t.1 ∙ (w.total ∙ (sym k ∙ sym c.from.ensures))))

pub returns : goal.returns
returns c =
    let file = c.args.file.now in
    let n = c.count_at-count.ensures in
    let k = c.count_at-sack.ensures ∙ ap (λ (n : ℕ). field_at file (72 + 24 * n) 4) n in
    let t = total_some file _ _ n c.in_ok-total.ensures in
    let w : Whole file = record {
      settings_count = sym c.count_at.ensures ∙ c.if-count_at-ne8.false;
      initial_to = omega (arith, c.setting.ensures, setting_read file 0 (omega arith), c.if-setting-gt65535.false);
      filled = omega (arith, n, k, c.if-file-end-2.false, c.if-file-end.false);
      known = t.0;
      total = t.1 ∙ (c.if-total-from.false ∙ (c.from.ensures ∙ k));
    } in
    check_good file _ _ w n (omega (arith, n))
