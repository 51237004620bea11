-- `sound` meets its contract: both parts pass their tests.
use Rattle.controller.specs.Controller.{controller_sound_of}
use Rattle.controller.proofs.state.Controller.sound.Goals as goal

pub returns : goal.returns
unfolding controller_sound_of
returns c = simp (c.sound.ensures, c.sound-2.ensures)
