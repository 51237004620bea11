-- `on_loss` meets its contract: a sound controller has sound numbers, which `lost` moves.
use Rattle.std.proofs.Common.{◌≡◌, true, sym, ◌∙◌}
use Rattle.controller.specs.Controller.{controller_sound_of}
use Rattle.controller.specs.Laws.Controller.{numbers_sound}
use Rattle.controller.proofs.state.Controller.on_loss.Goals as goal

pub returns : goal.returns
returns c =
    let sound : controller_sound_of c.args.self ≡ true = sym c.sound.ensures ∙ c.if-not-sound.false in
    simp (c.done.ensures, c.lost.ensures, sound, numbers_sound c.args.self sound)
