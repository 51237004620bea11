-- A place where 512 packets lie holds as many, and nothing besides: what it is follows from them.
use Rattle.std.specs.Prelude.{◌≡◌, List, length}
use Rattle.outgoing.specs.declared.kept.Packet.{Packet}
use Rattle.outgoing.specs.Tracker.{places}

pub record Full {A : Type 0} (packets : A → List Packet) (of_packets : List Packet → A) (x : A) : Type 0 where
  pub count : length (packets x) ≡ places
  pub alone : of_packets (packets x) ≡ x
