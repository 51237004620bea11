-- Each field is the setting at its position.
use Rattle.session.specs.Format.{gain_of, settings_in}
use Rattle.session.proofs.settings.read_settings.Goals as goal

pub returns : goal.returns
unfolding settings_in gain_of
returns c =
    simp (c.setting.ensures, c.setting-2.ensures, c.setting-3.ensures, c.setting-4.ensures, c.setting-5.ensures, c.setting-6.ensures, c.f64_from_bits_with_nan.ensures, c.setting-7.ensures)
