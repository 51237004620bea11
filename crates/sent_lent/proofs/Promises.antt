-- The calls of a tracker whose packets and samples lie in lent memory, each the record of crate `sent` at `Pairs` and `Columns`: nothing is asked of the caller,
-- and no two different outcomes satisfy the promise.
-- Of a function that is lent memory to write, an outcome is its result together with all that stands in that memory on return.
use mathlib.Core.List.{List, Mem, not-mem-nil}
use Prim.Native.Nat.{ℕ}
use Rattle.std.specs.Prelude.{get_or, set}
use Rattle.std.proofs.Common.{sym, ap, ◌∙◌}
use mir.Syntax.{Dict}
use denote.Param.Laws.{Laws, struct_laws}
use denote.Param.Shared.{copy_shared}
use denote.Struct.Loose.{loosens}
use Rattle.common.specs.Promise.{Promise, by_value}
use Rattle.controller.specs.declared.delays.Sample.{Sample}
use Rattle.controller.specs.Delays.{most, no_sample}
use Rattle.outgoing.specs.declared.kept.Packet.{Packet}
use Rattle.outgoing.specs.Tracker.{no_packet}
use Rattle.controller.specs.declared.samples.Samples.{Ghosts as SamplesGhosts}
use Rattle.sent.specs.declared.head.Stepped.{Stepped}
use Rattle.sent.specs.declared.packets.Packets.{Ghosts as PacketsGhosts}
use Rattle.sent.proofs.Promises.{head_new_promise, head_sound_promise, head_on_transmit_promise, head_on_ack_promise, head_on_timeout_promise, head_timeout_promise, head_window_promise, head_in_flight_promise, head_maximum_promise, head_ack_num_promise, head_next_seq_num_promise, head_seq_num_range_promise, head_has_unacked_packets_promise, head_lost_count_promise, head_has_lost_packets_promise, head_lost_at_promise}
use Rattle.sent.proofs.head.Head.new.Reads as new
use Rattle.sent.proofs.head.Head.sound.Reads as sound
use Rattle.sent.proofs.head.Head.on_transmit.Reads as on-transmit
use Rattle.sent.proofs.head.Head.on_ack.Reads as on-ack
use Rattle.sent.proofs.head.Head.on_timeout.Reads as on-timeout
use Rattle.sent.proofs.head.Head.timeout.Reads as timeout
use Rattle.sent.proofs.head.Head.window.Reads as window
use Rattle.sent.proofs.head.Head.in_flight.Reads as in-flight
use Rattle.sent.proofs.head.Head.maximum.Reads as maximum
use Rattle.sent.proofs.head.Head.ack_num.Reads as ack-num
use Rattle.sent.proofs.head.Head.next_seq_num.Reads as next-seq-num
use Rattle.sent.proofs.head.Head.seq_num_range.Reads as seq-num-range
use Rattle.sent.proofs.head.Head.has_unacked_packets.Reads as has-unacked-packets
use Rattle.sent.proofs.head.Head.lost_count.Reads as lost-count
use Rattle.sent.proofs.head.Head.has_lost_packets.Reads as has-lost-packets
use Rattle.sent.proofs.head.Head.lost_at.Reads as lost-at
use Rattle.sent_lent.proofs.columns.ColumnsPackets.packet_at.Reads as columns-packet-at
use Rattle.sent_lent.proofs.columns.ColumnsPackets.put_packet.Reads as columns-put-packet
use Rattle.sent_lent.proofs.pairs.PairsSamples.len.Reads as pairs-len
use Rattle.sent_lent.proofs.pairs.PairsSamples.sample.Reads as pairs-sample
use Rattle.sent_lent.proofs.pairs.PairsSamples.put.Reads as pairs-put
use Rattle.sent_lent.specs.declared.columns.Columns.{Columns}
use Rattle.sent_lent.specs.declared.pairs.Pairs.{Pairs}
use Rattle.sent_lent.specs.contracts.columns.Columns.{the_type as columns_type, the_row as columns_row}
use Rattle.sent_lent.specs.contracts.pairs.Pairs.{the_type as pairs_type, the_row as pairs_row}
use Rattle.sent_lent.proofs.columns.Columns.TheLaws.{the_laws as columns_laws, the_copy as columns_copy}
use Rattle.sent_lent.proofs.pairs.Pairs.TheLaws.{the_laws as pairs_laws, the_copy as pairs_copy}
use Rattle.sent_lent.specs.Lent.{samples_in, pairs_as, packets_in, columns_of}

-- ---- the two places: each keeps the laws of its type, holds no reference, and is an instance of its trait

pairs_lawful : Laws pairs_row
pairs_lawful = struct_laws pairs_type (loosens pairs_type.parts pairs_laws) (copy_shared _ pairs_copy.0, tt)

columns_lawful : Laws columns_row
columns_lawful =
    struct_laws columns_type (loosens columns_type.parts columns_laws)
    (copy_shared _ columns_copy.0, (copy_shared _ columns_copy.1.0, (copy_shared _ columns_copy.1.1.0, tt)))

pairs_plain : (k : ℕ) → Mem k pairs_row.lives → ⊥
pairs_plain k m = not-mem-nil m

columns_plain : (k : ℕ) → Mem k columns_row.lives → ⊥
columns_plain k m = not-mem-nil m

abbrev samples_of : SamplesGhosts Pairs
samples_of = record { samples = λ s. samples_in s.pairs; of_samples = pairs_as }

abbrev packets_of : PacketsGhosts Columns
packets_of = record { packets = λ c. packets_in c.times c.sizes c.marks; of_packets = columns_of }

-- What the methods of these very instances answer and leave is said by `samples_of` and `packets_of`: so a record below, which is at these two, is one of the calls as
-- they run over `Pairs` and `Columns`.
columns_packet_at_promise : Promise columns-packet-at.Pre columns-packet-at.Post (λ κs r s. r)
columns_packet_at_promise = by_value (λ κs a. get_or (packets_of.packets a.0.now) a.1.0.at no_packet) (λ κs a. tt) (λ κs a r s p. p.0)

columns_put_packet_promise : Promise {W = Columns} columns-put-packet.Pre columns-put-packet.Post (λ κs r s. s.0.now)
columns_put_packet_promise =
    by_value
    (λ κs a. packets_of.of_packets (set (packets_of.packets a.0.now) a.1.0.at a.1.1.0))
    (λ κs a. tt)
    (λ κs a r s p. sym p.1.alone ∙ ap (λ (l : List Packet). packets_of.of_packets l) p.0)

pairs_len_promise : Promise pairs-len.Pre pairs-len.Post (λ κs r s. r)
pairs_len_promise = by_value (λ κs a. most) (λ κs a. tt) (λ κs a r s p. p.0)

pairs_sample_promise : Promise pairs-sample.Pre pairs-sample.Post (λ κs r s. r)
pairs_sample_promise = by_value (λ κs a. get_or (samples_of.samples a.0.now) a.1.0 no_sample) (λ κs a. tt) (λ κs a r s p. p.0)

pairs_put_promise : Promise {W = Pairs} pairs-put.Pre pairs-put.Post (λ κs r s. s.0.now)
pairs_put_promise =
    by_value
    (λ κs a. samples_of.of_samples (set (samples_of.samples a.0.now) a.1.0 a.1.1.0))
    (λ κs a. tt)
    (λ κs a r s p. sym p.1.1 ∙ ap (λ (l : List Sample). samples_of.of_samples l) p.0)

-- Where there is one outcome, there is one of what is seen in it.
seen_in :
    {K W V : Type 0}
    {A R S : K → Type 0}
    {pre : (κs : K) → A κs → Type 0}
    {post : (κs : K) → A κs → R κs → S κs → Type 0}
    {seen : (κs : K) → R κs → S κs → W}
    (part : W → V)
    → Promise pre post seen
    → Promise pre post (λ κs r s. part (seen κs r s))
seen_in part p =
    record {
      asks_nothing = p.asks_nothing;
      one_outcome = λ κs a r r' s s' e e'. λ i. part (p.one_outcome κs a r r' s s' e e' i);
    }

-- ---- the calls

new_promise : Promise new.Pre new.Post (λ κs r s. r)
new_promise = head_new_promise

module _ (d e : Dict) where
  sound_promise : Promise (sound.Pre pairs_row columns_row pairs_lawful columns_lawful samples_of d packets_of e) (sound.Post pairs_row columns_row pairs_lawful columns_lawful samples_of d packets_of e) (λ κs r s. r)
  sound_promise = head_sound_promise pairs_row columns_row pairs_lawful columns_lawful samples_of d packets_of e pairs_plain columns_plain

  on_transmit_promise :
      Promise {W = Stepped × List ℕ × List ℕ × List ℕ}
      (on-transmit.Pre pairs_row columns_row pairs_lawful columns_lawful samples_of d packets_of e)
      (on-transmit.Post pairs_row columns_row pairs_lawful columns_lawful samples_of d packets_of e)
      (λ κs r s. (r, s.1.1.0.now.times, s.1.1.0.now.sizes, s.1.1.0.now.marks))
  on_transmit_promise = seen_in (λ (x : Stepped × Columns). (x.0, x.1.times, x.1.sizes, x.1.marks)) (head_on_transmit_promise pairs_row columns_row pairs_lawful columns_lawful samples_of d packets_of e pairs_plain columns_plain)

  on_ack_promise :
      Promise {W = Stepped × List ℕ × List ℕ × List ℕ × List ℕ}
      (on-ack.Pre pairs_row columns_row pairs_lawful columns_lawful samples_of d packets_of e)
      (on-ack.Post pairs_row columns_row pairs_lawful columns_lawful samples_of d packets_of e)
      (λ κs r s. (r, s.1.0.now.pairs, s.1.1.0.now.times, s.1.1.0.now.sizes, s.1.1.0.now.marks))
  on_ack_promise = seen_in (λ (x : Stepped × (Pairs × Columns)). (x.0, x.1.0.pairs, x.1.1.times, x.1.1.sizes, x.1.1.marks)) (head_on_ack_promise pairs_row columns_row pairs_lawful columns_lawful samples_of d packets_of e pairs_plain columns_plain)

  on_timeout_promise : Promise (on-timeout.Pre pairs_row columns_row pairs_lawful columns_lawful samples_of d packets_of e) (on-timeout.Post pairs_row columns_row pairs_lawful columns_lawful samples_of d packets_of e) (λ κs r s. r)
  on_timeout_promise = head_on_timeout_promise pairs_row columns_row pairs_lawful columns_lawful samples_of d packets_of e pairs_plain columns_plain

  timeout_promise : Promise (timeout.Pre pairs_row columns_row pairs_lawful columns_lawful samples_of d packets_of e) (timeout.Post pairs_row columns_row pairs_lawful columns_lawful samples_of d packets_of e) (λ κs r s. r)
  timeout_promise = head_timeout_promise pairs_row columns_row pairs_lawful columns_lawful samples_of d packets_of e pairs_plain columns_plain

  window_promise : Promise (window.Pre pairs_row columns_row pairs_lawful columns_lawful samples_of d packets_of e) (window.Post pairs_row columns_row pairs_lawful columns_lawful samples_of d packets_of e) (λ κs r s. r)
  window_promise = head_window_promise pairs_row columns_row pairs_lawful columns_lawful samples_of d packets_of e pairs_plain columns_plain

  in_flight_promise : Promise (in-flight.Pre pairs_row columns_row pairs_lawful columns_lawful samples_of d packets_of e) (in-flight.Post pairs_row columns_row pairs_lawful columns_lawful samples_of d packets_of e) (λ κs r s. r)
  in_flight_promise = head_in_flight_promise pairs_row columns_row pairs_lawful columns_lawful samples_of d packets_of e pairs_plain columns_plain

  maximum_promise : Promise (maximum.Pre pairs_row columns_row pairs_lawful columns_lawful samples_of d packets_of e) (maximum.Post pairs_row columns_row pairs_lawful columns_lawful samples_of d packets_of e) (λ κs r s. r)
  maximum_promise = head_maximum_promise pairs_row columns_row pairs_lawful columns_lawful samples_of d packets_of e pairs_plain columns_plain

  ack_num_promise : Promise (ack-num.Pre pairs_row columns_row pairs_lawful columns_lawful samples_of d packets_of e) (ack-num.Post pairs_row columns_row pairs_lawful columns_lawful samples_of d packets_of e) (λ κs r s. r)
  ack_num_promise = head_ack_num_promise pairs_row columns_row pairs_lawful columns_lawful samples_of d packets_of e pairs_plain columns_plain

  next_seq_num_promise : Promise (next-seq-num.Pre pairs_row columns_row pairs_lawful columns_lawful samples_of d packets_of e) (next-seq-num.Post pairs_row columns_row pairs_lawful columns_lawful samples_of d packets_of e) (λ κs r s. r)
  next_seq_num_promise = head_next_seq_num_promise pairs_row columns_row pairs_lawful columns_lawful samples_of d packets_of e pairs_plain columns_plain

  seq_num_range_promise : Promise (seq-num-range.Pre pairs_row columns_row pairs_lawful columns_lawful samples_of d packets_of e) (seq-num-range.Post pairs_row columns_row pairs_lawful columns_lawful samples_of d packets_of e) (λ κs r s. r)
  seq_num_range_promise = head_seq_num_range_promise pairs_row columns_row pairs_lawful columns_lawful samples_of d packets_of e pairs_plain columns_plain

  has_unacked_packets_promise : Promise (has-unacked-packets.Pre pairs_row columns_row pairs_lawful columns_lawful samples_of d packets_of e) (has-unacked-packets.Post pairs_row columns_row pairs_lawful columns_lawful samples_of d packets_of e) (λ κs r s. r)
  has_unacked_packets_promise = head_has_unacked_packets_promise pairs_row columns_row pairs_lawful columns_lawful samples_of d packets_of e pairs_plain columns_plain

  lost_count_promise : Promise (lost-count.Pre pairs_row columns_row pairs_lawful columns_lawful samples_of d packets_of e) (lost-count.Post pairs_row columns_row pairs_lawful columns_lawful samples_of d packets_of e) (λ κs r s. r)
  lost_count_promise = head_lost_count_promise pairs_row columns_row pairs_lawful columns_lawful samples_of d packets_of e pairs_plain columns_plain

  has_lost_packets_promise : Promise (has-lost-packets.Pre pairs_row columns_row pairs_lawful columns_lawful samples_of d packets_of e) (has-lost-packets.Post pairs_row columns_row pairs_lawful columns_lawful samples_of d packets_of e) (λ κs r s. r)
  has_lost_packets_promise = head_has_lost_packets_promise pairs_row columns_row pairs_lawful columns_lawful samples_of d packets_of e pairs_plain columns_plain

  lost_at_promise : Promise (lost-at.Pre pairs_row columns_row pairs_lawful columns_lawful samples_of d packets_of e) (lost-at.Post pairs_row columns_row pairs_lawful columns_lawful samples_of d packets_of e) (λ κs r s. r)
  lost_at_promise = head_lost_at_promise pairs_row columns_row pairs_lawful columns_lawful samples_of d packets_of e pairs_plain columns_plain
