-- What is true of every receiver, said of the receiver itself: what a sound state stands for has it, writes and reads keep it, and a state of a receiver
-- that has it is sound and stands for that very receiver.
use Rattle.std.specs.Prelude.{ℕ, zero, suc, ◌+◌, ◌-◌, ◌≤◌, ◌<◌, Bool, false, refl, get_or}
use Rattle.std.proofs.Math.Bool.{true}
use mathlib.Core.List.{List, [], ◌∷◌, ◌++◌, append_assoc}
use Rattle.std.proofs.Common.{⊎_elim, sym, ◌∙◌, arith, length-append, length-drop, length-take-le}
use Rattle.std.proofs.Math.Option.{Option, none, some}
use Rattle.std.proofs.Math.Path.{◌≡◌, ap}
use Rattle.std.proofs.Math.ListN.{length, take, drop, get_or-map}
use Rattle.std.proofs.lemmas.List.{length-map}
use Rattle.std.proofs.Math.Seq.{take-append_seam, drop-append_seam}
use Rattle.recv.specs.Table.{waits, bytes_in, last_waits, run_of}
use Rattle.recv.specs.State.{table_of, sound_of}
use Rattle.recv.specs.Receiver.{Receiver, joined, entry_of, lengths_of, put_at, stored_of, read_of}
use Rattle.recv.specs.Calls.{payloads_of, receiver_of, over, state_of, room_of}
use Rattle.recv.specs.Laws.Cases.{lt_or_ge}
use Rattle.recv.specs.Laws.Payloads.{lengths_take, lengths_drop, lengths_put, length-joined, lengths_payloads, length-payloads, none-payloads}
use Rattle.recv.specs.Laws.State.{Sound, sound_test}
use Rattle.recv.specs.Laws.Steps.{length_put_in, length_put_out, run_le}
use Rattle.recv.specs.Laws.Table.{waits_zero, no_wait}
use Rattle.recv.specs.declared.ReceiveBuffer.{ReceiveBuffer}

pub record Shape (r : Receiver) : Type 0 where
  pub least : 1 ≤ r.length
  pub most : r.length ≤ 65536
  pub places : length r.waiting ≤ 256
  pub reach : r.count + length r.waiting ≤ 60000
  pub first : get_or r.waiting 0 none ≡ none
  pub last : last_waits true (lengths_of r.waiting) ≡ true
  pub bytes : length r.ready + bytes_in (lengths_of r.waiting) ≤ r.length

-- ---- a sound state stands for such a receiver

module _ (s : ReceiveBuffer) (buf : List ℕ) (sound : Sound s) (same : length buf ≡ s.length) (all : length s.waiting ≡ 256) where
  held : bytes_in (table_of s) ≤ length (drop s.ready buf)
  held = rw (length-drop s.ready buf) (omega arith)

  pub ready_length : length (take s.ready buf) ≡ s.ready
  ready_length = length-take-le s.ready buf (omega arith)

  pub lengths_table : lengths_of (receiver_of s buf).waiting ≡ table_of s
  lengths_table = lengths_payloads (table_of s) (drop s.ready buf) held

  pub waiting_length : length (receiver_of s buf).waiting ≡ s.span
  waiting_length = length-payloads (table_of s) (drop s.ready buf) ∙ length-take-le s.span s.waiting (omega arith)

  pub shape_of : Shape (receiver_of s buf)
  shape_of =
      record {
        least = sound.least;
        most = sound.most;
        places = rw waiting_length sound.places;
        reach = rw waiting_length sound.reach;
        first = none-payloads (table_of s) (drop s.ready buf) 0 sound.first;
        last = ap (λ (t : List ℕ). last_waits true t) lengths_table ∙ sound.last;
        bytes = rw (lengths_table, ready_length) sound.bytes;
      }

-- ---- a state of such a receiver is sound, and stands for it

-- a list over the front of another is read back
pub over_back : (new old : List ℕ) → take (length new) (over new old) ≡ new
over_back new old = take-append_seam new (drop (length new) old)

over-length : (new old : List ℕ) → length new ≤ length old → length (over new old) ≡ length old
over-length new old h = length-append new (drop (length new) old) ∙ rw (length-drop (length new) old) (omega arith)

payloads_back : (w : List (Option (List ℕ))) (rest : List ℕ) → payloads_of (lengths_of w) (joined w ++ rest) ≡ w
payloads_back [] rest = refl
payloads_back (none ∷ w) rest = ap (λ (l : List (Option (List ℕ))). none ∷ l) (payloads_back w rest)
payloads_back (some p ∷ w) rest =
    ap (λ (l : List ℕ). some (take (length p) l) ∷ payloads_of (lengths_of w) (drop (length p) l)) (append_assoc p (joined w) rest)
    ∙ ap (λ (l : List ℕ). some l ∷ payloads_of (lengths_of w) (drop (length p) (p ++ (joined w ++ rest)))) (take-append_seam p (joined w ++ rest))
    ∙ ap (λ (l : List ℕ). some p ∷ payloads_of (lengths_of w) l) (drop-append_seam p (joined w ++ rest))
    ∙ ap (λ (l : List (Option (List ℕ))). some p ∷ l) (payloads_back w rest)

module _ (old buf : List ℕ) (r : Receiver) where
  table_back : table_of (state_of old r) ≡ lengths_of r.waiting
  table_back =
      ap (λ (n : ℕ). take n (over (lengths_of r.waiting) old)) (sym (length-map r.waiting entry_of)) ∙ over_back (lengths_of r.waiting) old

  -- the bytes behind the ready ones
  behind : List ℕ
  behind = joined r.waiting ++ drop (length (r.ready ++ joined r.waiting)) buf

  room_split : room_of buf r ≡ r.ready ++ behind
  unfolding behind
  room_split = append_assoc r.ready (joined r.waiting) (drop (length (r.ready ++ joined r.waiting)) buf)

  pub stands_for : receiver_of (state_of old r) (room_of buf r) ≡ r
  unfolding behind
  stands_for =
      same_receiver
      (ap (λ (l : List ℕ). take (length r.ready) l) room_split ∙ take-append_seam r.ready behind)
      (ap (λ (t : List ℕ). payloads_of t (drop (length r.ready) (room_of buf r))) table_back
      ∙ ap (λ (l : List ℕ). payloads_of (lengths_of r.waiting) l) (ap (λ (l : List ℕ). drop (length r.ready) l) room_split ∙ drop-append_seam r.ready behind)
      ∙ payloads_back r.waiting (drop (length (r.ready ++ joined r.waiting)) buf))
    where
      same_receiver : {a : List ℕ} {w : List (Option (List ℕ))} → a ≡ r.ready → w ≡ r.waiting
          → ◌≡◌ {A = Receiver} (record { initial = r.initial; length = r.length; count = r.count; ready = a; waiting = w }) r
      same_receiver p q = λ i. record { initial = r.initial; length = r.length; count = r.count; ready = p i; waiting = q i }

  module _ (shape : Shape r) where
    pub shape_sound : sound_of (state_of old r) ≡ true
    shape_sound =
        sound_test (state_of old r)
        (record {
          least = shape.least;
          most = shape.most;
          places = shape.places;
          reach = shape.reach;
          first = ap (λ (t : List ℕ). waits (get_or t 0 0)) table_back ∙ waits_zero (get_or (lengths_of r.waiting) 0 0) (get_or-map entry_of r.waiting 0 none ∙ ap entry_of shape.first);
          last = ap (λ (t : List ℕ). last_waits true t) table_back ∙ shape.last;
          bytes = rw table_back shape.bytes;
        })

    pub room_length : length buf ≡ r.length → length (room_of buf r) ≡ length buf
    room_length e =
        over-length (r.ready ++ joined r.waiting) buf (rw (length-append r.ready (joined r.waiting), length-joined r.waiting) (omega (arith, shape.bytes)))

    pub table-length : length old ≡ 256 → length (state_of old r).waiting ≡ 256
    table-length e = over-length (lengths_of r.waiting) old (rw (length-map r.waiting entry_of) (omega (arith, shape.places))) ∙ e

-- ---- a payload is stored

bytes_in_split : (k : ℕ) (t : List ℕ) → bytes_in (take k t) + bytes_in (drop k t) ≡ bytes_in t
bytes_in_split zero t = omega arith
bytes_in_split (suc k) [] = refl
bytes_in_split (suc k) (x ∷ t) = let rest = bytes_in_split k t in omega arith

bytes_in-put : (t : List ℕ) (i n : ℕ) → waits (get_or t i 0) ≡ false → bytes_in (put_at 0 t i (suc n)) ≡ bytes_in t + n
bytes_in-put [] zero n h = omega arith
bytes_in-put [] (suc i) n h = let rest = bytes_in-put [] i n h in omega arith
bytes_in-put (x ∷ t) zero n h = let none = no_wait x h in omega arith
bytes_in-put (x ∷ t) (suc i) n h = let rest = bytes_in-put t i n h in omega arith

length_put_le : (t : List ℕ) (i v m : ℕ) → length t ≤ m → i < m → length (put_at 0 t i v) ≤ m
length_put_le t i v m h f =
    ⊎_elim
    (λ (l : i < length t). rw (length_put_in 0 v t i l) h)
    (λ (l : length t ≤ i). rw (length_put_out 0 v t i l) f)
    (lt_or_ge i (length t))

last_more : (b : Bool) (t : List ℕ) → last_waits b t ≡ true → last_waits true t ≡ true
last_more b [] h = refl
last_more b (x ∷ t) h = h

last-put : (b : Bool) (t : List ℕ) (i n : ℕ) → last_waits b t ≡ true → last_waits b (put_at 0 t i (suc n)) ≡ true
last-put b [] zero n h = refl
last-put b [] (suc i) n h = last_new i
  where
    last_new : (j : ℕ) → last_waits false (put_at 0 [] j (suc n)) ≡ true
    last_new zero = refl
    last_new (suc j) = last_new j
last-put b (x ∷ t) zero n h = last_more (waits x) t h
last-put b (x ∷ t) (suc i) n h = last-put (waits x) t i n h

last-drop : (k : ℕ) (t : List ℕ) → last_waits true t ≡ true → last_waits true (drop k t) ≡ true
last-drop zero t h = h
last-drop (suc k) [] h = refl
last-drop (suc k) (x ∷ t) h = last-drop k t (last_more (waits x) t h)

-- the first that is not ready does not wait
run_stops : (w : List (Option (List ℕ))) → get_or (drop (run_of (lengths_of w)) w) 0 none ≡ none
run_stops [] = refl
run_stops (none ∷ w) = refl
run_stops (some p ∷ w) = run_stops w

module _ (r : Receiver) (shape : Shape r) (o : ℕ) (payload : List ℕ) (past : r.count < o) (low : o ≤ 60000) (near : o ≤ r.count + 256)
    (new : waits (get_or (lengths_of r.waiting) (o - (r.count + 1)) 0) ≡ false)
    (room : length r.ready + bytes_in (lengths_of r.waiting) + length payload ≤ r.length) where
  place : ℕ
  place = o - (r.count + 1)

  t : List ℕ
  t = put_at 0 (lengths_of r.waiting) place (suc (length payload))

  w : List (Option (List ℕ))
  w = put_at none r.waiting place (some payload)

  k : ℕ
  k = run_of (lengths_of w)

  table : lengths_of w ≡ t
  unfolding w t
  table = lengths_put r.waiting place payload

  size : length w ≡ length t
  size = sym (length-map w entry_of) ∙ ap length table

  size_places : length t ≤ 256
  unfolding t place
  size_places = length_put_le (lengths_of r.waiting) place (suc (length payload)) 256 (rw (length-map r.waiting entry_of) shape.places) (omega arith)

  size_reach : length t ≤ 60000 - r.count
  unfolding t place
  size_reach =
      length_put_le (lengths_of r.waiting) place (suc (length payload)) (60000 - r.count)
      (rw (length-map r.waiting entry_of) (omega (arith, shape.reach)))
      (omega arith)

  run_within : k ≤ length t
  unfolding k
  run_within = omega (arith, run_le (lengths_of w), ap length table)

  last_t : last_waits true t ≡ true
  unfolding t
  last_t = last-put true (lengths_of r.waiting) place (length payload) shape.last

  bytes_t : bytes_in t ≡ bytes_in (lengths_of r.waiting) + length payload
  unfolding t place
  bytes_t = bytes_in-put (lengths_of r.waiting) place (length payload) new

  pub shape_stored : Shape (stored_of r o payload)
  unfolding stored_of w k place
  shape_stored =
      record {
        least = shape.least;
        most = shape.most;
        places = rw (length-drop k w) (omega (arith, size, size_places));
        reach = rw (length-drop k w) (omega (arith, size, size_reach, run_within, shape.reach));
        first = run_stops w;
        last = ap (λ (l : List ℕ). last_waits true l) (lengths_drop k w ∙ ap (λ (l : List ℕ). drop k l) table) ∙ last-drop k t last_t;
        bytes = rw (length-append r.ready (joined (take k w)), length-joined (take k w), lengths_take k w, lengths_drop k w, table) (omega (arith, bytes_in_split (run_of t) t, bytes_t, room));
      }

-- ---- ready bytes are read

pub shape_read : (r : Receiver) → Shape r → (n : ℕ) → Shape (read_of r n)
unfolding read_of
shape_read r shape n =
    record {
      least = shape.least;
      most = shape.most;
      places = shape.places;
      reach = shape.reach;
      first = shape.first;
      last = shape.last;
      bytes = rw (length-drop n r.ready) (omega (arith, shape.bytes));
    }
