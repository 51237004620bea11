-- Every public function of the crate: nothing is asked of its caller, and no two different outcomes satisfy its promise.
use mathlib.Core.List.{List, Mem}
use mathlib.Core.Path.{◌≡◌}
use Prim.Native.Nat.{ℕ}
use denote.RattleType.{RattleType}
use denote.Param.Laws.{Laws}
use mir.Syntax.{Dict}
use Rattle.common.specs.Answer.{Answer}
use Rattle.common.specs.Promise.{Promise, by_value, by_code}
use Rattle.controller.specs.declared.samples.Samples.{Ghosts as SamplesGhosts}
use Rattle.outgoing.specs.Answers.{answer_told}
use Rattle.outgoing.specs.Laws.OneToOne.{answer_told_one}
use Rattle.std.specs.Prelude.{get_or, set}
use Rattle.outgoing.specs.declared.kept.Packet.{Packet}
use Rattle.outgoing.specs.Tracker.{no_packet}
use Rattle.sent.specs.declared.head.Head.{Head}
use Rattle.sent.specs.declared.head.Stepped.{Stepped}
use Rattle.sent.specs.declared.packets.Packets.{Ghosts as PacketsGhosts}
use Rattle.outgoing.specs.Lost.{lost_at_of}
use Rattle.outgoing.specs.Read.{timeout_in, window_in, in_flight_in, maximum_in, ack_num_in, next_seq_num_in, seq_num_range_in, has_unacked_in, lost_count_in, has_lost_in}
use Rattle.sent.specs.Answers.{told}
use Rattle.sent.specs.State.{state_sound_of, transmit_answer, ack_answer, timeout_answer, read_of, when_state_sound, tracker_of}
use Rattle.sent.specs.Whole.{whole_of, stepped, headed}
use Rattle.sent.specs.Laws.OneToOne.{told_one, stepped_one}
use Rattle.sent.proofs.head.Head.new.Reads as head-new
use Rattle.sent.proofs.head.Head.sound.Reads as head-sound
use Rattle.sent.proofs.head.Head.on_transmit.Reads as head-on-transmit
use Rattle.sent.proofs.head.Head.on_ack.Reads as head-on-ack
use Rattle.sent.proofs.head.Head.on_timeout.Reads as head-on-timeout
use Rattle.sent.proofs.head.Head.timeout.Reads as head-timeout
use Rattle.sent.proofs.head.Head.window.Reads as head-window
use Rattle.sent.proofs.head.Head.in_flight.Reads as head-in-flight
use Rattle.sent.proofs.head.Head.maximum.Reads as head-maximum
use Rattle.sent.proofs.head.Head.ack_num.Reads as head-ack-num
use Rattle.sent.proofs.head.Head.next_seq_num.Reads as head-next-seq-num
use Rattle.sent.proofs.head.Head.seq_num_range.Reads as head-seq-num-range
use Rattle.sent.proofs.head.Head.has_unacked_packets.Reads as head-has-unacked-packets
use Rattle.sent.proofs.head.Head.lost_count.Reads as head-lost-count
use Rattle.sent.proofs.head.Head.has_lost_packets.Reads as head-has-lost-packets
use Rattle.sent.proofs.head.Head.lost_at.Reads as head-lost-at
use Rattle.sent.proofs.packets.ArrayPacket512Packets.packet_at.Reads as array-packet-at
use Rattle.sent.proofs.packets.ArrayPacket512Packets.put_packet.Reads as array-put-packet
use Rattle.sent.proofs.state.SentPackets.new.Reads as new
use Rattle.sent.proofs.state.SentPackets.sound.Reads as sound
use Rattle.sent.proofs.state.SentPackets.on_transmit.Reads as on-transmit
use Rattle.sent.proofs.state.SentPackets.on_ack.Reads as on-ack
use Rattle.sent.proofs.state.SentPackets.on_timeout.Reads as on-timeout
use Rattle.sent.proofs.state.SentPackets.timeout.Reads as timeout
use Rattle.sent.proofs.state.SentPackets.window.Reads as window
use Rattle.sent.proofs.state.SentPackets.in_flight.Reads as in-flight
use Rattle.sent.proofs.state.SentPackets.maximum.Reads as maximum
use Rattle.sent.proofs.state.SentPackets.ack_num.Reads as ack-num
use Rattle.sent.proofs.state.SentPackets.next_seq_num.Reads as next-seq-num
use Rattle.sent.proofs.state.SentPackets.seq_num_range.Reads as seq-num-range
use Rattle.sent.proofs.state.SentPackets.has_unacked_packets.Reads as has-unacked-packets
use Rattle.sent.proofs.state.SentPackets.lost_count.Reads as lost-count
use Rattle.sent.proofs.state.SentPackets.has_lost_packets.Reads as has-lost-packets
use Rattle.sent.proofs.state.SentPackets.lost_at.Reads as lost-at

-- ---- over any places for samples and packets

-- the answer's number and values, beside what is left in the places
abbrev beside : {X : Type 0} → Stepped × X → (Answer (Unit {0}) × Head) × X
beside x = (stepped x.0, x.1)

beside_one : {X : Type 0} (x y : Stepped × X) → beside x ≡ beside y → x ≡ y
beside_one x y e = let a = stepped_one x.0 y.0 (λ i. (e i).0) in λ i. (a i, (e i).1)

pub head_new_promise : Promise head-new.Pre head-new.Post (λ κs r s. r)
head_new_promise = by_code stepped stepped_one _ (λ κs a. tt) (λ κs a r s p. p)

-- `[Packet; 512]` as an instance of `Packets`: its packets are what lies in it.
array_packet_at_promise : Promise array-packet-at.Pre array-packet-at.Post (λ κs r s. r)
array_packet_at_promise = by_value (λ κs a. get_or a.0.now a.1.0.at no_packet) (λ κs a. tt) (λ κs a r s p. p.0)

array_put_packet_promise : Promise {W = List Packet} array-put-packet.Pre array-put-packet.Post (λ κs r s. s.0.now)
array_put_packet_promise = by_value (λ κs a. set a.0.now a.1.0.at a.1.1.0) (λ κs a. tt) (λ κs a r s p. p.0)

-- At each two types of places that hold no reference. What is seen of a place that is lent to be written is all of it.
module _ (A B : RattleType) (K : Laws A) (L : Laws B) (S : SamplesGhosts A.Denot) (d : Dict) (P : PacketsGhosts B.Denot) (e : Dict)
    (plain : (k : ℕ) → Mem k A.lives → ⊥) (plain' : (k : ℕ) → Mem k B.lives → ⊥) where
  pub head_sound_promise : Promise (head-sound.Pre A B K L S d P e) (head-sound.Post A B K L S d P e) (λ κs r s. r)
  head_sound_promise =
      by_value
      {pre = head-sound.Pre A B K L S d P e} {post = head-sound.Post A B K L S d P e}
      (λ κs a. state_sound_of (whole_of a.0 (S.samples a.1.0.now) (P.packets a.1.1.0.now)))
      (λ κs a. ((λ k m. absurd (plain k m)), (λ k m. absurd (plain' k m))))
      (λ κs a r s p. p.0)

  pub head_on_transmit_promise : Promise {W = Stepped × B.Denot} (head-on-transmit.Pre A B K L S d P e) (head-on-transmit.Post A B K L S d P e) (λ κs r s. (r, s.1.1.0.now))
  head_on_transmit_promise =
      by_code
      {pre = head-on-transmit.Pre A B K L S d P e} {post = head-on-transmit.Post A B K L S d P e}
      beside beside_one (λ κs a. let next = (transmit_answer (whole_of a.0 (S.samples a.1.0.now) (P.packets a.1.1.0.now)) a.1.1.1.0 a.1.1.1.1.0 a.1.1.1.1.1.0 a.1.1.1.1.1.1.0 a.1.1.1.1.1.1.1.0) in (headed next, P.of_packets next.1.packets))
      (λ κs a. ((λ k m. absurd (plain k m)), (λ k m. absurd (plain' k m))))
      (λ κs a r s p. λ i. (p.0 i, p.1.1 i))

  pub head_on_ack_promise : Promise {W = Stepped × (A.Denot × B.Denot)} (head-on-ack.Pre A B K L S d P e) (head-on-ack.Post A B K L S d P e) (λ κs r s. (r, (s.1.0.now, s.1.1.0.now)))
  head_on_ack_promise =
      by_code
      {pre = head-on-ack.Pre A B K L S d P e} {post = head-on-ack.Post A B K L S d P e}
      beside beside_one (λ κs a. let next = (ack_answer (whole_of a.0 (S.samples a.1.0.now) (P.packets a.1.1.0.now)) a.1.1.1.0 a.1.1.1.1.0.now a.1.1.1.1.1.0 a.1.1.1.1.1.1.0) in (headed next, (S.of_samples next.1.delays.kept, P.of_packets next.1.packets)))
      (λ κs a. ((λ k m. absurd (plain k m)), (λ k m. absurd (plain' k m))))
      (λ κs a r s p. λ i. (p.0 i, (p.1.0 i, p.1.1 i)))

  pub head_on_timeout_promise : Promise (head-on-timeout.Pre A B K L S d P e) (head-on-timeout.Post A B K L S d P e) (λ κs r s. r)
  head_on_timeout_promise =
      by_code
      {pre = head-on-timeout.Pre A B K L S d P e} {post = head-on-timeout.Post A B K L S d P e}
      stepped stepped_one (λ κs a. headed (timeout_answer (whole_of a.0 (S.samples a.1.0.now) (P.packets a.1.1.0.now))))
      (λ κs a. ((λ k m. absurd (plain k m)), (λ k m. absurd (plain' k m))))
      (λ κs a r s p. p.0)

  pub head_timeout_promise : Promise (head-timeout.Pre A B K L S d P e) (head-timeout.Post A B K L S d P e) (λ κs r s. r)
  head_timeout_promise =
      by_code
      {pre = head-timeout.Pre A B K L S d P e} {post = head-timeout.Post A B K L S d P e}
      answer_told answer_told_one (λ κs a. read_of (whole_of a.0 (S.samples a.1.0.now) (P.packets a.1.1.0.now)) timeout_in)
      (λ κs a. ((λ k m. absurd (plain k m)), (λ k m. absurd (plain' k m))))
      (λ κs a r s p. p)

  pub head_window_promise : Promise (head-window.Pre A B K L S d P e) (head-window.Post A B K L S d P e) (λ κs r s. r)
  head_window_promise =
      by_code
      {pre = head-window.Pre A B K L S d P e} {post = head-window.Post A B K L S d P e}
      answer_told answer_told_one (λ κs a. read_of (whole_of a.0 (S.samples a.1.0.now) (P.packets a.1.1.0.now)) window_in)
      (λ κs a. ((λ k m. absurd (plain k m)), (λ k m. absurd (plain' k m))))
      (λ κs a r s p. p)

  pub head_in_flight_promise : Promise (head-in-flight.Pre A B K L S d P e) (head-in-flight.Post A B K L S d P e) (λ κs r s. r)
  head_in_flight_promise =
      by_code
      {pre = head-in-flight.Pre A B K L S d P e} {post = head-in-flight.Post A B K L S d P e}
      answer_told answer_told_one (λ κs a. read_of (whole_of a.0 (S.samples a.1.0.now) (P.packets a.1.1.0.now)) in_flight_in)
      (λ κs a. ((λ k m. absurd (plain k m)), (λ k m. absurd (plain' k m))))
      (λ κs a r s p. p)

  pub head_maximum_promise : Promise (head-maximum.Pre A B K L S d P e) (head-maximum.Post A B K L S d P e) (λ κs r s. r)
  head_maximum_promise =
      by_code
      {pre = head-maximum.Pre A B K L S d P e} {post = head-maximum.Post A B K L S d P e}
      answer_told answer_told_one (λ κs a. read_of (whole_of a.0 (S.samples a.1.0.now) (P.packets a.1.1.0.now)) maximum_in)
      (λ κs a. ((λ k m. absurd (plain k m)), (λ k m. absurd (plain' k m))))
      (λ κs a r s p. p)

  pub head_ack_num_promise : Promise (head-ack-num.Pre A B K L S d P e) (head-ack-num.Post A B K L S d P e) (λ κs r s. r)
  head_ack_num_promise =
      by_code
      {pre = head-ack-num.Pre A B K L S d P e} {post = head-ack-num.Post A B K L S d P e}
      answer_told answer_told_one (λ κs a. read_of (whole_of a.0 (S.samples a.1.0.now) (P.packets a.1.1.0.now)) ack_num_in)
      (λ κs a. ((λ k m. absurd (plain k m)), (λ k m. absurd (plain' k m))))
      (λ κs a r s p. p)

  pub head_next_seq_num_promise : Promise (head-next-seq-num.Pre A B K L S d P e) (head-next-seq-num.Post A B K L S d P e) (λ κs r s. r)
  head_next_seq_num_promise =
      by_code
      {pre = head-next-seq-num.Pre A B K L S d P e} {post = head-next-seq-num.Post A B K L S d P e}
      answer_told answer_told_one (λ κs a. read_of (whole_of a.0 (S.samples a.1.0.now) (P.packets a.1.1.0.now)) next_seq_num_in)
      (λ κs a. ((λ k m. absurd (plain k m)), (λ k m. absurd (plain' k m))))
      (λ κs a r s p. p)

  pub head_seq_num_range_promise : Promise (head-seq-num-range.Pre A B K L S d P e) (head-seq-num-range.Post A B K L S d P e) (λ κs r s. r)
  head_seq_num_range_promise =
      by_code
      {pre = head-seq-num-range.Pre A B K L S d P e} {post = head-seq-num-range.Post A B K L S d P e}
      answer_told answer_told_one (λ κs a. read_of (whole_of a.0 (S.samples a.1.0.now) (P.packets a.1.1.0.now)) seq_num_range_in)
      (λ κs a. ((λ k m. absurd (plain k m)), (λ k m. absurd (plain' k m))))
      (λ κs a r s p. p)

  pub head_has_unacked_packets_promise : Promise (head-has-unacked-packets.Pre A B K L S d P e) (head-has-unacked-packets.Post A B K L S d P e) (λ κs r s. r)
  head_has_unacked_packets_promise =
      by_code
      {pre = head-has-unacked-packets.Pre A B K L S d P e} {post = head-has-unacked-packets.Post A B K L S d P e}
      answer_told answer_told_one (λ κs a. read_of (whole_of a.0 (S.samples a.1.0.now) (P.packets a.1.1.0.now)) has_unacked_in)
      (λ κs a. ((λ k m. absurd (plain k m)), (λ k m. absurd (plain' k m))))
      (λ κs a r s p. p)

  pub head_lost_count_promise : Promise (head-lost-count.Pre A B K L S d P e) (head-lost-count.Post A B K L S d P e) (λ κs r s. r)
  head_lost_count_promise =
      by_code
      {pre = head-lost-count.Pre A B K L S d P e} {post = head-lost-count.Post A B K L S d P e}
      answer_told answer_told_one (λ κs a. read_of (whole_of a.0 (S.samples a.1.0.now) (P.packets a.1.1.0.now)) lost_count_in)
      (λ κs a. ((λ k m. absurd (plain k m)), (λ k m. absurd (plain' k m))))
      (λ κs a r s p. p)

  pub head_has_lost_packets_promise : Promise (head-has-lost-packets.Pre A B K L S d P e) (head-has-lost-packets.Post A B K L S d P e) (λ κs r s. r)
  head_has_lost_packets_promise =
      by_code
      {pre = head-has-lost-packets.Pre A B K L S d P e} {post = head-has-lost-packets.Post A B K L S d P e}
      answer_told answer_told_one (λ κs a. read_of (whole_of a.0 (S.samples a.1.0.now) (P.packets a.1.1.0.now)) has_lost_in)
      (λ κs a. ((λ k m. absurd (plain k m)), (λ k m. absurd (plain' k m))))
      (λ κs a r s p. p)

  pub head_lost_at_promise : Promise (head-lost-at.Pre A B K L S d P e) (head-lost-at.Post A B K L S d P e) (λ κs r s. r)
  head_lost_at_promise =
      by_code
      {pre = head-lost-at.Pre A B K L S d P e} {post = head-lost-at.Post A B K L S d P e}
      answer_told answer_told_one (λ κs a. when_state_sound (whole_of a.0 (S.samples a.1.0.now) (P.packets a.1.1.0.now)) (lost_at_of (tracker_of (whole_of a.0 (S.samples a.1.0.now) (P.packets a.1.1.0.now))) a.1.1.1.0))
      (λ κs a. ((λ k m. absurd (plain k m)), (λ k m. absurd (plain' k m))))
      (λ κs a r s p. p)

-- ---- by value

new_promise : Promise new.Pre new.Post (λ κs r s. r)
new_promise = by_code told told_one _ (λ κs a. tt) (λ κs a r s p. p)

sound_promise : Promise sound.Pre sound.Post (λ κs r s. r)
sound_promise = by_value _ (λ κs a. tt) (λ κs a r s p. p)

on_transmit_promise : Promise on-transmit.Pre on-transmit.Post (λ κs r s. r)
on_transmit_promise = by_code told told_one _ (λ κs a. tt) (λ κs a r s p. p)

on_ack_promise : Promise on-ack.Pre on-ack.Post (λ κs r s. r)
on_ack_promise = by_code told told_one _ (λ κs a. tt) (λ κs a r s p. p)

on_timeout_promise : Promise on-timeout.Pre on-timeout.Post (λ κs r s. r)
on_timeout_promise = by_code told told_one _ (λ κs a. tt) (λ κs a r s p. p)

timeout_promise : Promise timeout.Pre timeout.Post (λ κs r s. r)
timeout_promise = by_code answer_told answer_told_one _ (λ κs a. tt) (λ κs a r s p. p)

window_promise : Promise window.Pre window.Post (λ κs r s. r)
window_promise = by_code answer_told answer_told_one _ (λ κs a. tt) (λ κs a r s p. p)

in_flight_promise : Promise in-flight.Pre in-flight.Post (λ κs r s. r)
in_flight_promise = by_code answer_told answer_told_one _ (λ κs a. tt) (λ κs a r s p. p)

maximum_promise : Promise maximum.Pre maximum.Post (λ κs r s. r)
maximum_promise = by_code answer_told answer_told_one _ (λ κs a. tt) (λ κs a r s p. p)

ack_num_promise : Promise ack-num.Pre ack-num.Post (λ κs r s. r)
ack_num_promise = by_code answer_told answer_told_one _ (λ κs a. tt) (λ κs a r s p. p)

next_seq_num_promise : Promise next-seq-num.Pre next-seq-num.Post (λ κs r s. r)
next_seq_num_promise = by_code answer_told answer_told_one _ (λ κs a. tt) (λ κs a r s p. p)

seq_num_range_promise : Promise seq-num-range.Pre seq-num-range.Post (λ κs r s. r)
seq_num_range_promise = by_code answer_told answer_told_one _ (λ κs a. tt) (λ κs a r s p. p)

has_unacked_packets_promise : Promise has-unacked-packets.Pre has-unacked-packets.Post (λ κs r s. r)
has_unacked_packets_promise = by_code answer_told answer_told_one _ (λ κs a. tt) (λ κs a r s p. p)

lost_count_promise : Promise lost-count.Pre lost-count.Post (λ κs r s. r)
lost_count_promise = by_code answer_told answer_told_one _ (λ κs a. tt) (λ κs a r s p. p)

has_lost_packets_promise : Promise has-lost-packets.Pre has-lost-packets.Post (λ κs r s. r)
has_lost_packets_promise = by_code answer_told answer_told_one _ (λ κs a. tt) (λ κs a r s p. p)

lost_at_promise : Promise lost-at.Pre lost-at.Post (λ κs r s. r)
lost_at_promise = by_code answer_told answer_told_one _ (λ κs a. tt) (λ κs a r s p. p)
