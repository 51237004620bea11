-- What a read answers, case by case, and what is known where bytes are taken.
use Rattle.std.specs.Prelude.{ℕ, ◌+◌, ◌-◌, ◌≤◌, min, true, false, List, ◌++◌, ◌≡◌, length, take, drop}
use Rattle.std.proofs.Common.{ap, sym, ◌∙◌, zero-add, arith, eq-eqb, ne_eqb, take-append-drop, length-drop, length-take-le}
use Rattle.std.proofs.Math.Seq.{paste}
use Rattle.recv.specs.Table.{bytes_in}
use Rattle.recv.specs.State.{table_of, sound_of}
use Rattle.recv.specs.Receiver.{read_of}
use Rattle.recv.specs.Calls.{receiver_of, over, state_of, room_of, ready_for, taken_of, taken_room_of, taken_out_of}
use Rattle.recv.specs.Laws.Cases.{cond_true, cond_false, and_true, and_false}
use Rattle.recv.specs.Laws.State.{Sound}
use Rattle.recv.specs.Laws.Stored.{state_read, room_read, out_read}
use Rattle.recv.specs.declared.Answered.{Answered}
use Rattle.recv.specs.declared.ReceiveBuffer.{ReceiveBuffer}
use Rattle.recv.specs.declared.Refusal.TheVariants.{OtherLength, NotSound}
use Rattle.recv.specs.declared.Told.{Told}
use Rattle.recv.specs.declared.Told.TheVariants.{Is, Refused}

-- what is known where bytes are taken
pub record Takes (s : ReceiveBuffer) (buf out : List ℕ) (n : ℕ) : Type 0 where
  pub sound : Sound s
  pub same : length buf ≡ s.length
  pub table : s.span ≤ length s.waiting
  pub some_ready : n ≤ s.ready
  pub some_room : n ≤ length out

module _ (s : ReceiveBuffer) (buf out : List ℕ) (n : ℕ) (known : Takes s buf out n) where
  fits : s.ready ≤ length buf
  fits = omega (arith, known.sound, known)

  held : bytes_in (table_of s) ≤ length (drop s.ready buf)
  held = rw (length-drop s.ready buf) (omega (arith, known.sound, known))

  pub taken_state : state_of s.waiting (read_of (receiver_of s buf) n)
      ≡ record { initial = s.initial; length = s.length; count = s.count; ready = s.ready - n; span = s.span; waiting = s.waiting }
  taken_state = state_read s buf fits held n known.some_ready ∙ ap with_span (length-take-le s.span s.waiting known.table)
    where
      with_span : ℕ → ReceiveBuffer
      with_span k = record { initial = s.initial; length = s.length; count = s.count; ready = s.ready - n; span = k; waiting = s.waiting }

  pub taken_room : room_of buf (read_of (receiver_of s buf) n) ≡ paste buf 0 (drop n buf) (s.ready - n + bytes_in (table_of s))
  taken_room = room_read s buf fits held n known.some_ready

  pub taken_out : over (take n (receiver_of s buf).ready) out ≡ paste out 0 buf n
  taken_out = out_read s buf fits held n known.some_ready out known.some_room

  -- nothing is taken
  module _ (none : n ≡ 0) where
    pub none_state : s ≡ state_of s.waiting (read_of (receiver_of s buf) n)
    none_state = let e : s.ready ≡ s.ready - n = omega arith in ap with_ready e ∙ sym taken_state
      where
        with_ready : ℕ → ReceiveBuffer
        with_ready k = record { initial = s.initial; length = s.length; count = s.count; ready = k; span = s.span; waiting = s.waiting }

    pub none_room : buf ≡ room_of buf (read_of (receiver_of s buf) n)
    none_room =
        let m = s.ready - n + bytes_in (table_of s) in
        sym (taken_room ∙ ap (λ (k : ℕ). paste buf 0 (drop k buf) m) none ∙ ap (λ (k : ℕ). take m buf ++ drop k buf) (zero-add m) ∙ take-append-drop m buf)

    pub none_out : out ≡ over (take n (receiver_of s buf).ready) out
    none_out = sym (taken_out ∙ ap (λ (k : ℕ). paste out 0 buf k) none)

-- ---- the answer: 19, 18, then the bytes

module _ (s : ReceiveBuffer) (buf out : List ℕ) where
  module _ (no : sound_of s ≡ false) where
    unready : ready_for s (length buf) ≡ false
    unready = and_false (sound_of s) _ no

    pub unsound_taken : record { answer = Refused NotSound; state = s } ≡ taken_of s buf out
    unsound_taken = sym (cond_false _ _ _ unready ∙ ap (λ (c : Told ℕ). mk c) (cond_false _ _ _ no))
      where
        mk : Told ℕ → Answered (Told ℕ) ReceiveBuffer
        mk c = record { answer = c; state = s }

    pub unsound_room : buf ≡ taken_room_of s buf out
    unsound_room = sym (cond_false _ _ _ unready)

    pub unsound_out : out ≡ taken_out_of s buf out
    unsound_out = sym (cond_false _ _ _ unready)

  module _ (yes : sound_of s ≡ true) (other : length buf ≡ s.length → ⊥) where
    not_for : ready_for s (length buf) ≡ false
    not_for = and_true (sound_of s) _ yes ∙ ne_eqb (length buf) s.length other

    pub other_taken : record { answer = Refused OtherLength; state = s } ≡ taken_of s buf out
    other_taken = sym (cond_false _ _ _ not_for ∙ ap (λ (c : Told ℕ). mk c) (cond_true _ _ _ yes))
      where
        mk : Told ℕ → Answered (Told ℕ) ReceiveBuffer
        mk c = record { answer = c; state = s }

    pub other_room : buf ≡ taken_room_of s buf out
    other_room = sym (cond_false _ _ _ not_for)

    pub other_out : out ≡ taken_out_of s buf out
    other_out = sym (cond_false _ _ _ not_for)

  module _ (yes : sound_of s ≡ true) (same : length buf ≡ s.length) where
    ready_for_lem : ready_for s (length buf) ≡ true
    ready_for_lem = and_true (sound_of s) _ yes ∙ eq-eqb (length buf) s.length same

    pub done_taken : (n : ℕ) (after : ReceiveBuffer) → n ≡ min (length out) s.ready → after ≡ state_of s.waiting (read_of (receiver_of s buf) n)
        → record { answer = Is n; state = after } ≡ taken_of s buf out
    done_taken n after e h = ap (λ (a : ReceiveBuffer). mk n a) h ∙ ap (λ (k : ℕ). mk k (state_of s.waiting (read_of (receiver_of s buf) k))) e ∙ sym (cond_true _ _ _ ready_for_lem)
      where
        mk : ℕ → ReceiveBuffer → Answered (Told ℕ) ReceiveBuffer
        mk k a = record { answer = Is k; state = a }

    pub done_room : (n : ℕ) (after : List ℕ) → n ≡ min (length out) s.ready → after ≡ room_of buf (read_of (receiver_of s buf) n) → after ≡ taken_room_of s buf out
    done_room n after e h = h ∙ ap (λ (k : ℕ). room_of buf (read_of (receiver_of s buf) k)) e ∙ sym (cond_true _ _ _ ready_for_lem)

    pub done_out : (n : ℕ) (after : List ℕ) → n ≡ min (length out) s.ready → after ≡ over (take n (receiver_of s buf).ready) out → after ≡ taken_out_of s buf out
    done_out n after e h = h ∙ ap (λ (k : ℕ). over (take k (receiver_of s buf).ready) out) e ∙ sym (cond_true _ _ _ ready_for_lem)
