-- The length that is worked out from the table is that of the selective ACK; where it fits, `fill` writes it.
use Rattle.std.proofs.Common.{◌<◌, ℕ, List, ◌++◌, length, drop, sym, ap, ◌∙◌, arith}
use Rattle.recv.specs.Table.{sack_length_of, sack_of}
use Rattle.recv.specs.State.{table_of}
use Rattle.recv.specs.Laws.Sack.{length-sack, small_acked, small_acked_room, done_acked, done_acked_over}
use Rattle.recv.proofs.ReceiveBuffer.selective_ack.Goals as goal

pub returns-then-n-room : goal.returns-then-n-room
returns-then-n-room c =
    let s = c.args.self in
    let room = c.args.room.now in
    let yes = sym c.if-not-is_sound.ensures in
    let size = c.length_for-n.ensures ∙ ap sack_length_of c.table-table.ensures ∙ sym (length-sack (table_of s)) in
    let short : length room < length (sack_of (table_of s)) = omega (arith, size, c.if-n-room.true) in
    (small_acked s room yes short, small_acked_room s room yes short)

pub returns : goal.returns
returns c =
    let s = c.args.self in
    let room = c.args.room.now in
    let yes = sym c.if-not-is_sound.ensures in
    let size = c.length_for-n.ensures ∙ ap sack_length_of c.table-table.ensures ∙ sym (length-sack (table_of s)) in
    let filled = c.fill.ensures ∙ ap sack_of c.table-table.ensures in
    (done_acked s room yes _ size c.if-n-room.false, ap (λ (l : List ℕ). l ++ drop c.length_for-n.result room) filled ∙ done_acked_over s room yes _ size c.if-n-room.false)
