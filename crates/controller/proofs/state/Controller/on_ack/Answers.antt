-- `on_ack` meets its contract: what `credit` asks follows from the tests.
use Rattle.std.proofs.Common.{◌≡◌, Bool, true, ◌&&◌, nat_le, sym, ap, ◌∙◌, leb-true}
use Rattle.congestion.specs.Settings.{latest}
use Rattle.congestion.specs.Laws.Numbers.{both, between_of}
use Rattle.controller.specs.Controller.{in_time_of}
use Rattle.controller.specs.Laws.Controller.{numbers_sound}
use Rattle.controller.proofs.state.Controller.on_ack.Goals as goal

pub credit-requires : goal.credit-requires
credit-requires c =
    let a = c.args in
    let in_time : (in_time_of a.self a.clock && nat_le a.delay latest && nat_le a.packet.at a.clock) ≡ true =
    ap (λ (t : Bool). t && nat_le a.delay latest && nat_le a.packet.at a.clock) (sym c.in_time.ensures) ∙ c.if-not-in_time-delay.false
    in
    let p = both (in_time_of a.self a.clock && nat_le a.delay latest) (nat_le a.packet.at a.clock) in_time in
    let q = both (in_time_of a.self a.clock) (nat_le a.delay latest) p.0 in (
      numbers_sound a.self (sym c.sound.ensures ∙ c.if-not-sound.false),
      (between_of a.self.numbers.last latest a.clock q.0).1,
      leb-true _ _ p.1,
    )
