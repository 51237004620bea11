-- The settings stand behind their count.
use Rattle.std.proofs.Common.{◌+◌, ◌*◌, arith, sym, ◌∙◌}
use Rattle.session.specs.Laws.Number.{setting_read}
use Rattle.session.proofs.Numbers.{eight_read}
use Rattle.session.proofs.settings.setting.Goals as goal

pub returns : goal.returns
returns c =
    let a = c.args in
    let fits = c.requires in
    eight_read a.file.now (4 + 8 * a.position) _ _ (omega arith) c.from_be_bytes.ensures c.bytes_at.ensures
    ∙ sym (setting_read a.file.now a.position fits.1)
