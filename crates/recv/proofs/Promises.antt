-- Every public function of the crate, in the order of the source: nothing is asked of its caller, and no two different outcomes satisfy its promise.
-- Of a function that is lent memory to write, an outcome is its result together with all that stands in that memory on return.
use mathlib.Core.List.{List}
use Prim.Native.Nat.{ℕ}
use Rattle.common.specs.Promise.{Promise, by_value}
use Rattle.recv.specs.declared.Answered.{Answered}
use Rattle.recv.specs.declared.Counts.{Counts}
use Rattle.recv.specs.declared.ReceiveBuffer.{ReceiveBuffer}
use Rattle.recv.specs.declared.Told.{Told}
use Rattle.recv.specs.declared.Writing.{Writing}
use Rattle.recv.proofs.Refusal.number.Reads as number
use Rattle.recv.proofs.ReceiveBuffer.new.Reads as new
use Rattle.recv.proofs.ReceiveBuffer.write.Reads as write
use Rattle.recv.proofs.ReceiveBuffer.read.Reads as read
use Rattle.recv.proofs.ReceiveBuffer.available.Reads as available
use Rattle.recv.proofs.ReceiveBuffer.is_empty.Reads as is-empty
use Rattle.recv.proofs.ReceiveBuffer.init_seq_num.Reads as init-seq-num
use Rattle.recv.proofs.ReceiveBuffer.was_written.Reads as was-written
use Rattle.recv.proofs.ReceiveBuffer.ack_num.Reads as ack-num
use Rattle.recv.proofs.ReceiveBuffer.selective_ack.Reads as selective-ack
use Rattle.recv.proofs.ReceiveBuffer.count.Reads as count
use Rattle.recv.proofs.ReceiveBuffer.ready.Reads as ready
use Rattle.recv.proofs.ReceiveBuffer.waiting.Reads as waiting
use Rattle.recv.proofs.ReceiveBuffer.waiting_bytes.Reads as waiting-bytes
use Rattle.recv.specs.Lent.{counts_of}
use Rattle.recv.proofs.Counts.write_in.Reads as write-in
use Rattle.recv.proofs.Counts.read_in.Reads as read-in

number_promise : Promise number.Pre number.Post (λ κs r s. r)
number_promise = by_value _ (λ κs a. tt) (λ κs a r s p. p)

new_promise : Promise new.Pre new.Post (λ κs r s. r)
new_promise = by_value _ (λ κs a. tt) (λ κs a r s p. p)

write_promise : Promise {W = Answered Writing ReceiveBuffer × List ℕ} write.Pre write.Post (λ κs r s. (r, s.1.0.now))
write_promise = by_value _ (λ κs a. tt) (λ κs a r s p. λ i. (p.0 i, p.1 i))

read_promise : Promise {W = Answered (Told ℕ) ReceiveBuffer × List ℕ × List ℕ} read.Pre read.Post (λ κs r s. (r, s.1.0.now, s.1.1.0.now))
read_promise = by_value _ (λ κs a. tt) (λ κs a r s p. λ i. (p.0 i, p.1 i, p.2 i))

available_promise : Promise available.Pre available.Post (λ κs r s. r)
available_promise = by_value _ (λ κs a. tt) (λ κs a r s p. p)

is_empty_promise : Promise is-empty.Pre is-empty.Post (λ κs r s. r)
is_empty_promise = by_value _ (λ κs a. tt) (λ κs a r s p. p)

init_seq_num_promise : Promise init-seq-num.Pre init-seq-num.Post (λ κs r s. r)
init_seq_num_promise = by_value _ (λ κs a. tt) (λ κs a r s p. p)

was_written_promise : Promise was-written.Pre was-written.Post (λ κs r s. r)
was_written_promise = by_value _ (λ κs a. tt) (λ κs a r s p. p)

ack_num_promise : Promise ack-num.Pre ack-num.Post (λ κs r s. r)
ack_num_promise = by_value _ (λ κs a. tt) (λ κs a r s p. p)

selective_ack_promise : Promise {W = Told ℕ × List ℕ} selective-ack.Pre selective-ack.Post (λ κs r s. (r, s.1.0.now))
selective_ack_promise = by_value _ (λ κs a. tt) (λ κs a r s p. λ i. (p.0 i, p.1 i))

count_promise : Promise count.Pre count.Post (λ κs r s. r)
count_promise = by_value _ (λ κs a. tt) (λ κs a r s p. p)

ready_promise : Promise ready.Pre ready.Post (λ κs r s. r)
ready_promise = by_value _ (λ κs a. tt) (λ κs a r s p. p)

waiting_promise : Promise waiting.Pre waiting.Post (λ κs r s. r)
waiting_promise = by_value _ (λ κs a. tt) (λ κs a r s p. p)

waiting_bytes_promise : Promise waiting-bytes.Pre waiting-bytes.Post (λ κs r s. r)
waiting_bytes_promise = by_value _ (λ κs a. tt) (λ κs a r s p. p)

-- The answer and the counts, the table and the buffer.
write_in_promise : Promise {W = Answered Writing Counts × List ℕ × List ℕ} write-in.Pre write-in.Post (λ κs r s. (r, s.1.0.now, s.1.1.0.now))
write_in_promise = by_value _ (λ κs a. tt) (λ κs a r s p. λ i. (record { answer = (p.0 i).answer; state = counts_of (p.0 i).state }, (p.0 i).state.waiting, p.1 i))

-- The answer and the counts, the buffer and the output.
read_in_promise : Promise {W = Answered (Told ℕ) Counts × List ℕ × List ℕ} read-in.Pre read-in.Post (λ κs r s. (r, s.1.1.0.now, s.1.1.1.0.now))
read_in_promise = by_value _ (λ κs a. tt) (λ κs a r s p. λ i. (record { answer = (p.0 i).answer; state = counts_of (p.0 i).state }, p.1 i, p.2 i))
