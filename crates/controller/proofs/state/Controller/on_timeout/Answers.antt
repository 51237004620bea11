-- `on_timeout` meets its contract: a sound controller has sound numbers, which `timed_out` moves.
use Rattle.std.proofs.Common.{◌≡◌, true, sym, ◌∙◌}
use Rattle.controller.specs.Controller.{controller_sound_of}
use Rattle.controller.specs.Laws.Controller.{numbers_sound}
use Rattle.controller.proofs.state.Controller.on_timeout.Goals as goal

pub returns : goal.returns
returns c =
    let sound : controller_sound_of c.args.self ≡ true = sym c.sound.ensures ∙ c.if-not-sound.false in
    simp (c.done.ensures, c.timed_out.ensures, sound, numbers_sound c.args.self sound)
