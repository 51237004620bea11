-- 19 and 18 come first, and then as many bytes are taken as there are and fit.
use Rattle.std.proofs.Common.{sym, arith}
use Rattle.recv.specs.Lent.{whole}
use Rattle.recv.specs.Laws.State.{sound_facts}
use Rattle.recv.proofs.Counts.read_in.Goals as goal

pub take-requires : goal.take-requires
take-requires c =
    let a = c.args in
    let sound = sound_facts (whole a.self a.waiting.now) (sym c.if-not-is_sound.ensures) in (
      record {
        sound = sound;
        same = c.if-buf-self.false;
        table = omega (arith, sound.places);
        some_ready = omega (arith, c.min-n.ensures);
        some_room = omega (arith, c.min-n.ensures);
      },
      c.held-held.ensures,
    )
