-- A run that keeps every premise, so that the theorem speaks of something: across the wrap of the numbers, with a datagram lost, one repeated and two out of order,
-- a refused call, an acknowledgement with a SACK, a packet taken for lost and sent again, a timeout, and reads into small rooms. Every byte arrives, and the sender holds all
-- as acknowledged. Definitions only; Laws.Witness shows it.
use Rattle.std.specs.Prelude.{ℕ, false, List, [], ◌∷◌, pos, replicate}
use Rattle.std.specs.Float.{fin}
use Rattle.seq.specs.declared.SeqNum.{SeqNum}
use Rattle.packet.specs.declared.kind.PacketType.TheVariants.{Data}
use Rattle.congestion.specs.declared.settings.Settings.{Settings}
use Rattle.sent.specs.State.{fresh_of as fresh_sender}
use Rattle.recv.specs.State.{fresh_of as fresh_receiver}
use Rattle.delivery.specs.Run.{Acknowledgement, Transmit, SenderCall, transmit, hear, time_out, ReceiverCall, write, read, build, Event, at_sender, at_receiver, goes_out, Start, sender_after, receiver_after, carried}

-- The settings of the worked case of document 02, No. 3.
abbrev pub settings : Settings
settings =
    record {
      target_delay = 100000;
      first_timeout = 1000000;
      minimum_timeout = 500000;
      largest_packet = 1000;
      increase = 3000;
      gain = fin false 1 (pos 0);
      delay_window = 120000000;
    }

abbrev pub seq : ℕ → SeqNum
seq n = record { 0 = n }

-- Five packets, 65,534 to 2, after the initial number 65,533; a buffer of ten bytes for their eight.
abbrev pub start : Start
start = record { sender = fresh_sender (seq 65533) settings; receiver = fresh_receiver (seq 65533) 10; buffer = replicate 10 0 }

-- A transmit of these bytes under this number at this time.
abbrev pub data_of : ℕ → ℕ → List ℕ → ℕ → Transmit
data_of number len payload clock = record { number = seq number; type = Data; tag = number; len = len; clock = clock; payload = payload }

abbrev pub first : Transmit
first = data_of 65534 2 (65 ∷ 66 ∷ []) 0

abbrev pub second : Transmit
second = data_of 65535 1 (67 ∷ []) 0

abbrev pub third : Transmit
third = data_of 0 2 (68 ∷ 69 ∷ []) 10

abbrev pub fourth : Transmit
fourth = data_of 1 1 (70 ∷ []) 20

abbrev pub fifth : Transmit
fifth = data_of 2 2 (71 ∷ 72 ∷ []) 30

-- A number that is not the next: refused with 12.
abbrev pub unknown : Transmit
unknown = data_of 9 1 (90 ∷ []) 40

-- The second packet once more.
abbrev pub again : Transmit
again = data_of 65535 1 (67 ∷ []) 3000000

-- What the receiver builds with 65,534 in order and 0, 1 and 2 waiting, and with all in order.
abbrev pub early : Acknowledgement
early = record { number = seq 65534; mask = 7 ∷ 0 ∷ 0 ∷ 0 ∷ [] }

abbrev pub last : Acknowledgement
last = record { number = seq 2; mask = [] }

-- A call of the sender, and of the receiver, on what its last call left.
abbrev pub sender : List Event → SenderCall → List Event
sender run call = at_sender (sender_after start run) call ∷ run

abbrev pub receiver : List Event → ReceiverCall → List Event
receiver run call = at_receiver (receiver_after start run).state (receiver_after start run).bytes call ∷ run

-- A transmit whose datagram goes out.
abbrev pub sends : List Event → Transmit → List Event
sends run x = goes_out (carried x) ∷ sender run (transmit x)

-- All five go out; a refused call between.
abbrev pub sent : List Event
sent = sender (sends (sends (sends (sends (sends [] first) second) third) fourth) fifth) (transmit unknown)

-- The second is lost; the fourth overtakes the third and comes twice.
abbrev pub arrived : List Event
arrived =
    receiver (receiver (receiver (receiver (receiver sent (write (carried first))) (write (carried fourth))) (write (carried third))) (write (carried fourth))) (write (carried fifth))

-- The receiver acknowledges, and the sender hears it: the second has three acknowledged later ones and is taken for lost.
abbrev pub heard : List Event
heard = sender (receiver arrived (build (replicate 4 9))) (hear early 100000 200000)

-- One byte is read into a room of one; a timeout; the second goes out once more and arrives.
abbrev pub timed_out : List Event
timed_out = sender (receiver heard (read (9 ∷ []))) time_out

abbrev pub mended : List Event
mended = receiver (sends timed_out again) (write (carried again))

-- The rest is read into rooms of three and of nine bytes; the last acknowledgement is built and heard.
abbrev pub run : List Event
run = sender (receiver (receiver (receiver mended (read (replicate 3 9))) (read (replicate 9 9))) (build [])) (hear last 100000 3100000)
