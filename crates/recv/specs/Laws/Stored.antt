-- A write and a read, from the numbers and the bytes that the code works out to the receiver that the definitions speak of.
use Rattle.std.specs.Prelude.{ℕ, suc, ◌+◌, ◌-◌, ◌≤◌, false, ◌≡◌, get_or}
use mathlib.Core.List.{List, ◌++◌, append_assoc}
use Rattle.std.proofs.Math.Option.{Option, none, some}
use Rattle.std.proofs.Math.Path.{refl, ap, sym}
use Rattle.std.proofs.Common.{◌∙◌, zero-add, le_trans, take-append-drop, take-add, take-take, drop-drop, drop_at}
use native.Mathlib.Omega.{arith}
use Rattle.std.proofs.Math.ListN.{length, take, drop, length-append, length-drop}
use Rattle.std.proofs.lemmas.List.{length-map}
use Rattle.std.proofs.Math.Seq.{paste, length-take-le}
use Rattle.recv.specs.Table.{waits, bytes_in, run_of}
use Rattle.recv.specs.State.{table_of}
use Rattle.recv.specs.Receiver.{joined, entry_of, lengths_of, put_at, stored_of, read_of}
use Rattle.recv.specs.Calls.{payloads_of, receiver_of, over, state_of, room_of}
use Rattle.recv.specs.Laws.Moves.{over_front, drop-take}
use Rattle.recv.specs.Laws.Payloads.{lengths_take, lengths_drop, lengths_put, joined-append, length-joined, joined-put, lengths_payloads, joined-payloads, take-payloads, length-payloads, none-payloads}
use Rattle.recv.specs.Laws.Steps.{inserted_of, placed_of, same_state}
use Rattle.recv.specs.Laws.Table.{bytes_in_take_le}
use Rattle.recv.specs.declared.ReceiveBuffer.{ReceiveBuffer}

-- the state in numbers, from the table before the next payloads become ready
counted : ReceiveBuffer → ℕ → List ℕ → ReceiveBuffer
counted s ready t =
    record {
      initial = s.initial;
      length = s.length;
      count = s.count + run_of t;
      ready = ready + bytes_in (take (run_of t) t);
      span = length t - run_of t;
      waiting = over (drop (run_of t) t) s.waiting;
    }

module _ (s : ReceiveBuffer) (buf : List ℕ) (fits : s.ready ≤ length buf) (held : bytes_in (table_of s) ≤ length (drop s.ready buf)) where
  bytes : List ℕ
  bytes = drop s.ready buf

  ready_length : length (take s.ready buf) ≡ s.ready
  ready_length = length-take-le s.ready buf fits

  module _ (o : ℕ) (payload : List ℕ) where
    place : ℕ
    place = o - (s.count + 1)

    -- the payloads by offset with the new one among them
    with_new : List (Option (List ℕ))
    with_new = put_at none (payloads_of (table_of s) bytes) place (some payload)

    table_new : lengths_of with_new ≡ put_at 0 (table_of s) place (suc (length payload))
    unfolding with_new bytes
    table_new =
        lengths_put (payloads_of (table_of s) bytes) place payload
        ∙ ap (λ (t : List ℕ). put_at 0 t place (suc (length payload))) (lengths_payloads (table_of s) bytes held)

    in_numbers : state_of s.waiting (stored_of (receiver_of s buf) o payload) ≡ counted s (length (take s.ready buf)) (lengths_of with_new)
    unfolding stored_of with_new counted place bytes
    in_numbers =
        let k = run_of (lengths_of with_new) in
        same_state s.initial s.length
        refl
        (length-append (take s.ready buf) (joined (take k with_new))
        ∙ ap (λ (n : ℕ). length (take s.ready buf) + n) (length-joined (take k with_new) ∙ ap bytes_in (lengths_take k with_new)))
        (length-drop k with_new ∙ ap (λ (n : ℕ). n - k) (sym (length-map with_new entry_of)))
        (ap (λ (l : List ℕ). over l s.waiting) (lengths_drop k with_new))

    pub placed_stored : placed_of s (o - (s.count + 1)) (length payload) ≡ state_of s.waiting (stored_of (receiver_of s buf) o payload)
    unfolding placed_of counted place
    placed_stored = sym (in_numbers ∙ ap (λ (n : ℕ). counted s n (lengths_of with_new)) ready_length ∙ ap (λ (t : List ℕ). counted s s.ready t) table_new)

    -- ---- the bytes
    module _ (new : waits (get_or (table_of s) (o - (s.count + 1)) 0) ≡ false) where
      w : List (Option (List ℕ))
      w = payloads_of (table_of s) bytes

      before : ℕ
      before = bytes_in (take place (table_of s))

      all : ℕ
      all = bytes_in (table_of s)

      before_all : before ≤ all
      unfolding before all
      before_all = bytes_in_take_le (table_of s) place

      front : joined (take place w) ≡ take before bytes
      unfolding w before
      front = ap joined (take-payloads place (table_of s) bytes) ∙ joined-payloads (take place (table_of s)) bytes

      back : joined (drop place w) ≡ take (all - before) (drop before bytes)
      unfolding w all bytes
      back =
          let whole : joined (take place w) ++ joined (drop place w) ≡ take all bytes =
          sym (joined-append (take place w) (drop place w)) ∙ ap joined (take-append-drop place w) ∙ joined-payloads (table_of s) bytes in
          let size : length (joined (take place w)) ≡ before = ap length front ∙ length-take-le before bytes (le_trans before_all held) in
          sym (drop_at (joined (take place w)) (joined (drop place w)) before size) ∙ ap (λ (l : List ℕ). drop before l) whole ∙ drop-take before all bytes

      content : take s.ready buf ++ joined with_new ≡ (take (s.ready + before) buf ++ payload) ++ take (all - before) (drop (s.ready + before) buf)
      unfolding with_new bytes place w
      content =
          ap (λ (l : List ℕ). take s.ready buf ++ l)
          (joined-put w place payload (none-payloads (table_of s) bytes place new)
          ∙ ap (λ (l : List ℕ). (l ++ payload) ++ joined (drop place w)) front
          ∙ ap (λ (l : List ℕ). (take before bytes ++ payload) ++ l) back)
          ∙ sym (append_assoc (take s.ready buf) (take before bytes ++ payload) (take (all - before) (drop before bytes)))
          ∙ ap (λ (l : List ℕ). l ++ take (all - before) (drop before bytes)) (sym (append_assoc (take s.ready buf) (take before bytes) payload))
          ∙ ap (λ (l : List ℕ). (l ++ payload) ++ take (all - before) (drop before bytes)) (sym (take-add s.ready before buf))
          ∙ ap (λ (l : List ℕ). (take (s.ready + before) buf ++ payload) ++ take (all - before) l) (drop-drop before s.ready buf)

      pub room_stored : room_of buf (stored_of (receiver_of s buf) o payload)
          ≡ inserted_of buf (s.ready + bytes_in (take (o - (s.count + 1)) (table_of s))) (bytes_in (table_of s) - bytes_in (take (o - (s.count + 1)) (table_of s))) payload
      unfolding stored_of with_new place before all w bytes
      room_stored =
          let ready = take s.ready buf in
          let k = run_of (lengths_of with_new) in
          let at = s.ready + before in
          let more = all - before in
          let whole : (ready ++ joined (take k with_new)) ++ joined (drop k with_new) ≡ (take at buf ++ payload) ++ take more (drop at buf) =
          append_assoc ready (joined (take k with_new)) (joined (drop k with_new))
          ∙ ap (λ (l : List ℕ). ready ++ l) (sym (joined-append (take k with_new) (drop k with_new)) ∙ ap joined (take-append-drop k with_new))
          ∙ content in
          ap (λ (l : List ℕ). over l buf) whole
          ∙ ap (λ (n : ℕ). ((take at buf ++ payload) ++ take more (drop at buf)) ++ drop n buf) (size_of_lem at more (omega (arith, before_all, length-drop s.ready buf)))
          ∙ append_assoc (take at buf ++ payload) (take more (drop at buf)) (drop (at + length payload + more) buf)
        where
          size_of_lem : (at more : ℕ) → at + more ≤ length buf → length ((take at buf ++ payload) ++ take more (drop at buf)) ≡ at + length payload + more
          size_of_lem at more h =
              length-append (take at buf ++ payload) (take more (drop at buf))
              ∙ rw (length-append (take at buf) payload, length-take-le at buf (omega arith), length-take-le more (drop at buf) (rw (length-drop at buf) (omega arith)))

  -- ---- reading
  module _ (n : ℕ) (some_ready : n ≤ s.ready) where
    pub state_read : state_of s.waiting (read_of (receiver_of s buf) n)
        ≡ record { initial = s.initial; length = s.length; count = s.count; ready = s.ready - n; span = length (table_of s); waiting = s.waiting }
    unfolding read_of
    state_read =
        same_state s.initial s.length
        refl
        (length-drop n (take s.ready buf) ∙ ap (λ (m : ℕ). m - n) ready_length)
        (length-payloads (table_of s) (drop s.ready buf))
        (ap (λ (l : List ℕ). over l s.waiting) (lengths_payloads (table_of s) (drop s.ready buf) held) ∙ over_front s.span s.waiting)

    -- what stays: the rest of the ready bytes and those that wait
    pub room_read : room_of buf (read_of (receiver_of s buf) n) ≡ paste buf 0 (drop n buf) (s.ready - n + bytes_in (table_of s))
    unfolding read_of
    room_read =
        let left = s.ready - n in
        let wait = bytes_in (table_of s) in
        let e : n + left ≡ s.ready = omega arith in
        let content : drop n (take s.ready buf) ++ joined (payloads_of (table_of s) (drop s.ready buf)) ≡ take (left + wait) (drop n buf) =
        ap (λ (l : List ℕ). l ++ joined (payloads_of (table_of s) (drop s.ready buf))) (drop-take n s.ready buf)
        ∙ ap (λ (l : List ℕ). take left (drop n buf) ++ l) (joined-payloads (table_of s) (drop s.ready buf))
        ∙ ap (λ (l : List ℕ). take left (drop n buf) ++ take wait l) (sym (drop-drop left n buf ∙ ap (λ (m : ℕ). drop m buf) e))
        ∙ sym (take-add left wait (drop n buf)) in
        let size : length (take (left + wait) (drop n buf)) ≡ 0 + (left + wait) =
        length-take-le (left + wait) (drop n buf) (rw (length-drop n buf) (omega (arith, length-drop s.ready buf))) ∙ sym (zero-add (left + wait)) in
        ap (λ (l : List ℕ). over l buf) content ∙ ap (λ (m : ℕ). take (left + wait) (drop n buf) ++ drop m buf) size

    pub out_read : (out : List ℕ) → n ≤ length out → over (take n (receiver_of s buf).ready) out ≡ paste out 0 buf n
    out_read out h =
        let size : length (take n buf) ≡ 0 + n = length-take-le n buf (omega arith) ∙ sym (zero-add n) in
        ap (λ (l : List ℕ). over l out) (take-take n s.ready buf some_ready) ∙ ap (λ (m : ℕ). take n buf ++ drop m out) size
