-- A receiver in two parts, counts and table, and the receiver that they make up. Definitions only.
use Rattle.recv.specs.Lent.{whole, counts_of}
use Rattle.recv.specs.declared.ReceiveBuffer.{ReceiveBuffer}
use Rattle.ribsaddle.specs.declared.receiver.Receiver.{Receiver}

abbrev pub whole_of : Receiver → ReceiveBuffer
whole_of r = whole r.counts r.waiting

abbrev pub parts_of : ReceiveBuffer → Receiver
parts_of s = record { counts = counts_of s; waiting = s.waiting }
