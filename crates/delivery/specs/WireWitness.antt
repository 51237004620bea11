-- A run over bytes that keeps every premise: two packets across the wrap of the numbers. The first is lost; the second arrives, twice; the receiver acknowledges the initial number with
-- a SACK; the first goes out again and arrives; the last acknowledgement is heard, and all is read. Definitions only; Laws.WireWitness shows it.
use Rattle.std.specs.Prelude.{ℕ, List, [], ◌∷◌, replicate}
use Rattle.packet.specs.declared.kind.PacketType.{PacketType}
use Rattle.packet.specs.declared.kind.PacketType.TheVariants.{Data, State}
use Rattle.packet.specs.declared.header.Header.{Header}
use Rattle.packet.specs.Encode.{packet_bytes}
use Rattle.sent.specs.State.{fresh_of as fresh_sender}
use Rattle.recv.specs.State.{fresh_of as fresh_receiver}
use Rattle.delivery.specs.Run.{Acknowledgement, Transmit, Start, sender_after, receiver_after}
use Rattle.delivery.specs.Wire.{WireEvent, transmits, reads, builds, sender_out, receiver_out, to_receiver, to_sender, plain}
use Rattle.delivery.specs.Witness.{settings, seq, data_of}

abbrev pub start : Start
start = record { sender = fresh_sender (seq 65535) settings; receiver = fresh_receiver (seq 65535) 4; buffer = replicate 4 0 }

abbrev pub first : Transmit
first = data_of 0 1 (65 ∷ []) 0

abbrev pub second : Transmit
second = data_of 1 2 (66 ∷ 67 ∷ []) 0

abbrev pub again : Transmit
again = data_of 0 1 (65 ∷ []) 1000000

-- A header of this type with these numbers, on connection 7.
abbrev pub header : PacketType → ℕ → ℕ → Header
header type number ack =
    record { packet_type = type; conn_id = 7; ts_micros = 1; ts_diff_micros = 2; window_size = 4; seq_num = seq number; ack_num = seq ack }

abbrev pub first-bytes : List ℕ
first-bytes = packet_bytes (header Data 0 9) [] (65 ∷ [])

abbrev pub second-bytes : List ℕ
second-bytes = packet_bytes (header Data 1 9) [] (66 ∷ 67 ∷ [])

-- With nothing in order and the second packet waiting, and with both in order.
abbrev pub early : Acknowledgement
early = record { number = seq 65535; mask = 1 ∷ 0 ∷ 0 ∷ 0 ∷ [] }

abbrev pub last : Acknowledgement
last = record { number = seq 1; mask = [] }

abbrev pub early-bytes : List ℕ
early-bytes = packet_bytes (header State 3 65535) (1 ∷ 0 ∷ 0 ∷ 0 ∷ []) []

abbrev pub last-bytes : List ℕ
last-bytes = packet_bytes (header State 3 1) [] []

-- ---- what an end does next: its calls are made on what its last call left

abbrev pub asks : List WireEvent → Transmit → List WireEvent
asks run x = transmits (sender_after start (plain run)) x ∷ run

abbrev pub reads_into : List WireEvent → List ℕ → List WireEvent
reads_into run out = reads (receiver_after start (plain run)).state (receiver_after start (plain run)).bytes out ∷ run

abbrev pub builds_in : List WireEvent → List ℕ → List WireEvent
builds_in run room = builds (receiver_after start (plain run)).state (receiver_after start (plain run)).bytes room ∷ run

abbrev pub arrives : List WireEvent → List ℕ → List WireEvent
arrives run bytes = to_receiver (receiver_after start (plain run)).state (receiver_after start (plain run)).bytes bytes ∷ run

abbrev pub hears : List WireEvent → List ℕ → ℕ → List WireEvent
hears run bytes clock = to_sender (sender_after start (plain run)) bytes 100000 clock ∷ run

-- ---- the run

abbrev pub sent : List WireEvent
sent = sender_out second-bytes ∷ asks (sender_out first-bytes ∷ asks [] first) second

-- The first is lost, the second comes twice.
abbrev pub arrived : List WireEvent
arrived = arrives (arrives sent second-bytes) second-bytes

abbrev pub acknowledged : List WireEvent
acknowledged = hears (receiver_out early-bytes ∷ builds_in arrived (replicate 4 9)) early-bytes 500000

abbrev pub mended : List WireEvent
mended = arrives (sender_out first-bytes ∷ asks acknowledged again) first-bytes

abbrev pub run : List WireEvent
run = reads_into (hears (receiver_out last-bytes ∷ builds_in mended []) last-bytes 1100000) (replicate 5 9)
