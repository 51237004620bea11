-- Over any calls from a fresh receiver: the state is sound; bytes read and bytes ready are exactly the payloads 1 to c in order, each the one first stored
-- under its offset; what waits is the payload first stored under its offset; ready and waiting bytes never exceed the length. One invariant, a lemma for each kind of call.
use Prim.Native.Nat.{ℕ, zero, suc, ◌+◌, ◌-◌, ◌≤◌, ◌<◌, min}
use Rattle.std.specs.Prelude.{Bool, true, cond, ◌⊎◌, ◌≡◌, eqb, drop}
use mathlib.Core.List.{List, [], ◌∷◌, ◌++◌, append_assoc, append-nil}
use Rattle.std.proofs.Common.{inl, inr, ◌∙◌, add-zero, not-suc-le-zero, le_of_suc-le-suc, add-one, eq-eqb, ne_eqb, take-append-drop}
use Rattle.std.proofs.Math.Logic.{⊎_elim}
use Rattle.std.proofs.Math.Option.{Option, none, some}
use Rattle.std.proofs.Math.Path.{refl, ap, sym, subst}
use native.Mathlib.Omega.{arith}
use Rattle.std.proofs.Math.ListN.{length, take, get_or}
use Rattle.std.proofs.Math.Seq.{get_or-drop, length-take-le}
use Rattle.seq.specs.Seq.{offset_of}
use Rattle.seq.specs.declared.SeqNum.{SeqNum}
use Rattle.recv.specs.Table.{waits, tabled, run_of as ready_run}
use Rattle.recv.specs.State.{table_of, sound_of, fresh_of}
use Rattle.recv.specs.Receiver.{Receiver, joined, lengths_of, put_at, stored_of, read_of, changed}
use Rattle.recv.specs.Calls.{receiver_of, over, state_of, room_of, ready_for, answer_of, after_write, taken_room_of, taken_out_of}
use Rattle.recv.specs.Runs.{Call, write, read, Entry, Run, or_else, first_stored, output_of, step_of, run_of, fresh_run}
use Rattle.recv.specs.Laws.Answers.{stores}
use Rattle.recv.specs.Laws.Cases.{cond_true, and_true, eq_or_ne, lt_or_ge}
use Rattle.recv.specs.Laws.Payloads.{joined-append, none-payloads}
use Rattle.recv.specs.Laws.Shape.{Shape, over_back, shape_of, ready_length, lengths_table, stands_for, shape_sound, room_length, table-length, shape_stored, shape_read}
use Rattle.recv.specs.Laws.State.{Sound, sound_facts, sound_test}
use Rattle.recv.specs.declared.Answered.{Answered}
use Rattle.recv.specs.declared.ReceiveBuffer.{ReceiveBuffer}
use Rattle.recv.specs.declared.Told.{Told}
use Rattle.recv.specs.declared.Told.TheVariants.{Is}
use Rattle.recv.specs.declared.Writing.{Writing}
use Rattle.recv.specs.declared.Writing.TheVariants.{Stored, AlreadyThere, Refused}

-- ---- lists by their places

tabled_below : {A : Type 0} (n : ℕ) (f g : ℕ → A) → ((k : ℕ) → k < n → f k ≡ g k) → tabled n f ≡ tabled n g
tabled_below zero f g h = refl
tabled_below {A} (suc n) f g h =
    ap (λ (x : A). x ∷ tabled n (λ k. f (suc k))) (h 0 (omega arith))
    ∙ ap (λ (l : List A). g 0 ∷ l) (tabled_below n (λ k. f (suc k)) (λ k. g (suc k)) (λ k l. h (suc k) (omega arith)))

tabled_end : {A : Type 0} (n : ℕ) (f : ℕ → A) → tabled (suc n) f ≡ tabled n f ++ (f n ∷ [])
tabled_end zero f = refl
tabled_end {A} (suc n) f = ap (λ (l : List A). f 0 ∷ l) (tabled_end n (λ k. f (suc k)))

module _ {A : Type 0} (d a : A) where
  put_same : (l : List A) (i : ℕ) → get_or (put_at d l i a) i d ≡ a
  put_same [] zero = refl
  put_same [] (suc i) = put_same [] i
  put_same (x ∷ l) zero = refl
  put_same (x ∷ l) (suc i) = put_same l i

  put_other : (l : List A) (i j : ℕ) → (j ≡ i → ⊥) → get_or (put_at d l i a) j d ≡ get_or l j d
  put_other [] zero zero h = absurd (h refl)
  put_other [] zero (suc j) h = refl
  put_other [] (suc i) zero h = refl
  put_other [] (suc i) (suc j) h = put_other [] i j (λ e. h (ap suc e))
  put_other (x ∷ l) zero zero h = absurd (h refl)
  put_other (x ∷ l) zero (suc j) h = refl
  put_other (x ∷ l) (suc i) zero h = refl
  put_other (x ∷ l) (suc i) (suc j) h = put_other l i j (λ e. h (ap suc e))

-- ---- the payload first stored under an offset

or_none : (x : Option (List ℕ)) → or_else x none ≡ x
or_none none = refl
or_none (some p) = refl

module _ (e : Entry) (log : List Entry) where
  first_same : first_stored log e.offset ≡ none → first_stored (e ∷ log) e.offset ≡ some e.payload
  first_same h =
      ap (λ (x : Option (List ℕ)). or_else x (cond (eqb e.offset e.offset) (some e.payload) none)) h
      ∙ cond_true (some e.payload) none (eqb e.offset e.offset) (eq-eqb e.offset e.offset refl)

  first-other : (o : ℕ) → (e.offset ≡ o → ⊥) → first_stored (e ∷ log) o ≡ first_stored log o
  first-other o h =
      ap (λ (b : Bool). or_else (first_stored log o) (cond b (some e.payload) none)) (ne_eqb e.offset o h) ∙ or_none (first_stored log o)

-- ---- what is kept of what was stored

pub record Kept (r : Receiver) (log : List Entry) (sofar : List ℕ) : Type 0 where
  pub in_order : sofar ++ r.ready ≡ joined (tabled r.count (λ k. first_stored log (k + 1)))
  pub all_there : (k : ℕ) → k < r.count → first_stored log (k + 1) ≡ none → ⊥
  pub waiting : (i : ℕ) → get_or r.waiting i none ≡ first_stored log (r.count + i + 1)

-- moving the next payloads to ready keeps it
module _ (f : ℕ → Option (List ℕ)) (sofar : List ℕ) where
  moved_in_order : (w : List (Option (List ℕ))) (c : ℕ) (ready : List ℕ) → sofar ++ ready ≡ joined (tabled c f) → ((i : ℕ) → get_or w i none ≡ f (c + i))
      → sofar ++ (ready ++ joined (take (ready_run (lengths_of w)) w)) ≡ joined (tabled (c + ready_run (lengths_of w)) f)
  moved_in_order [] c ready e h = ap (λ (l : List ℕ). sofar ++ l) (append-nil ready) ∙ e ∙ ap (λ (n : ℕ). joined (tabled n f)) (sym (add-zero c))
  moved_in_order (none ∷ w) c ready e h = ap (λ (l : List ℕ). sofar ++ l) (append-nil ready) ∙ e ∙ ap (λ (n : ℕ). joined (tabled n f)) (sym (add-zero c))
  moved_in_order (some p ∷ w) c ready e h =
      let k = ready_run (lengths_of w) in
      let here : f c ≡ some p = ap f (sym (add-zero c)) ∙ sym (h 0) in
      let next : sofar ++ (ready ++ p) ≡ joined (tabled (c + 1) f) =
      sym (append_assoc sofar ready p)
      ∙ ap (λ (l : List ℕ). l ++ p) e
      ∙ ap (λ (l : List ℕ). joined (tabled c f) ++ l) (sym (append-nil p))
      ∙ ap (λ (x : Option (List ℕ)). joined (tabled c f) ++ joined (x ∷ [])) (sym here)
      ∙ sym (joined-append (tabled c f) (f c ∷ []))
      ∙ ap joined (sym (tabled_end c f))
      ∙ ap (λ (n : ℕ). joined (tabled n f)) (sym (add-one c)) in
      ap (λ (l : List ℕ). sofar ++ l) (sym (append_assoc ready p (joined (take k w))))
      ∙ moved_in_order w (c + 1) (ready ++ p) next (λ i. h (suc i) ∙ ap f (shift i))
      ∙ ap (λ (n : ℕ). joined (tabled n f)) (sym (shift k))
    where
      shift : (i : ℕ) → c + suc i ≡ c + 1 + i
      shift i = omega arith

run-waits : (w : List (Option (List ℕ))) (j : ℕ) → j < ready_run (lengths_of w) → get_or w j none ≡ none → ⊥
run-waits [] j h e = not-suc-le-zero h
run-waits (none ∷ w) j h e = not-suc-le-zero h
run-waits (some p ∷ w) zero h e = let z : ◌≡◌ {A = ℕ} 0 1 = cc in omega arith
run-waits (some p ∷ w) (suc j) h e = run-waits w j (le_of_suc-le-suc h) e

-- a payload that is stored
module _ (r : Receiver) (log : List Entry) (sofar : List ℕ) (kept : Kept r log sofar) (o : ℕ) (payload : List ℕ) (past : r.count < o)
    (new : get_or r.waiting (o - (r.count + 1)) none ≡ none) where
  place : ℕ
  place = o - (r.count + 1)

  entry : Entry
  entry = record { offset = o; payload = payload }

  f : ℕ → Option (List ℕ)
  f k = first_stored (entry ∷ log) (k + 1)

  w : List (Option (List ℕ))
  w = put_at none r.waiting place (some payload)

  at_place : r.count + place + 1 ≡ o
  unfolding place
  at_place = omega arith

  fresh : first_stored log o ≡ none
  unfolding place
  fresh = ap (first_stored log) (sym at_place) ∙ sym (kept.waiting place) ∙ new

  here : (j : ℕ) → get_or w j none ≡ f (r.count + j)
  unfolding w f entry place
  here j =
      ⊎_elim
      (λ (e : j ≡ place). ap (λ (n : ℕ). get_or w n none) e ∙ put_same none (some payload) r.waiting place ∙ sym (first_same entry log fresh) ∙ ap (first_stored (entry ∷ log)) (sym at_place ∙ ap (λ (n : ℕ). r.count + n + 1) (sym e)))
      (λ (e : j ≡ place → ⊥). put_other none (some payload) r.waiting place j e ∙ kept.waiting j ∙ sym (first-other entry log (r.count + j + 1) (λ q. e (omega arith))))
      (eq_or_ne j place)

  before : sofar ++ r.ready ≡ joined (tabled r.count f)
  unfolding f entry
  before = kept.in_order ∙ ap joined (tabled_below r.count (λ k. first_stored log (k + 1)) f (λ k l. sym (first-other entry log (k + 1) (λ q. omega arith))))

  pub kept_stored : Kept (stored_of r o payload) (record { offset = o; payload = payload } ∷ log) sofar
  unfolding stored_of f entry w place
  kept_stored =
      let k = ready_run (lengths_of w) in
      record {
        in_order = moved_in_order f sofar w r.count r.ready before here;
        all_there = λ j l e.
            ⊎_elim
            (λ (b : j < r.count). kept.all_there j b (sym (first-other entry log (j + 1) (λ q. omega arith)) ∙ e))
            (λ (b : r.count ≤ j). run-waits w (j - r.count) (omega arith) (here (j - r.count) ∙ ap f (back j b) ∙ e))
            (lt_or_ge j r.count);
        waiting = λ i. get_or-drop k w i none ∙ here (k + i) ∙ ap f (further k i);
      }
    where
      back : (j : ℕ) → r.count ≤ j → r.count + (j - r.count) ≡ j
      back j b = omega arith

      further : (m i : ℕ) → r.count + (m + i) ≡ r.count + m + i
      further m i = omega arith

-- bytes that are read
pub kept_read : (r : Receiver) (log : List Entry) (sofar : List ℕ) → Kept r log sofar → (n : ℕ) → Kept (read_of r n) log (sofar ++ take n r.ready)
unfolding read_of
kept_read r log sofar kept n =
    record {
      in_order = append_assoc sofar (take n r.ready) (drop n r.ready) ∙ ap (λ (l : List ℕ). sofar ++ l) (take-append-drop n r.ready) ∙ kept.in_order;
      all_there = kept.all_there;
      waiting = kept.waiting;
    }

-- ---- over calls

pub record Delivered (r : Run) : Type 0 where
  pub sound : sound_of r.state ≡ true
  pub same : length r.bytes ≡ r.state.length
  pub table : length r.state.waiting ≡ 256
  pub kept : Kept (receiver_of r.state r.bytes) r.stored r.read

-- the length stays
stored_size : (r : Receiver) (o : ℕ) (payload : List ℕ) → (stored_of r o payload).length ≡ r.length
unfolding stored_of
stored_size r o payload = refl

read_size : (r : Receiver) (n : ℕ) → (read_of r n).length ≡ r.length
unfolding read_of
read_size r n = refl

-- a receiver of the right shape, written over an old state and an old buffer
rewritten : (old buf : List ℕ) (r : Receiver) (log : List Entry) (sofar : List ℕ) → Shape r → length old ≡ 256 → length buf ≡ r.length → Kept r log sofar
    → Delivered (record { state = state_of old r; bytes = room_of buf r; stored = log; read = sofar })
rewritten old buf r log sofar shape places fits kept =
    record {
      sound = shape_sound old buf r shape;
      same = room_length old buf r shape fits ∙ fits;
      table = table-length old buf r shape places;
      kept = subst (λ (x : Receiver). Kept x log sofar) (sym (stands_for old buf r)) kept;
    }

module _ (r : Run) (good : Delivered r) where
  facts : Sound r.state
  facts = sound_facts r.state good.sound

  shape : Shape (receiver_of r.state r.bytes)
  shape = shape_of r.state r.bytes facts good.same good.table

  -- a write
  module _ (number : SeqNum) (payload : List ℕ) where
    offset : ℕ
    offset = (offset_of number r.state.initial).0

    after : Receiver
    after = after_write r.state r.bytes number payload

    stored_well : answer_of r.state (length r.bytes) number (length payload) ≡ Stored
        → Delivered (record { state = state_of r.state.waiting after; bytes = room_of r.bytes after; stored = record { offset = offset; payload = payload } ∷ r.stored; read = r.read })
    unfolding after offset
    stored_well e =
        let rec = receiver_of r.state r.bytes in
        let known = stores r.state (length r.bytes) number (length payload) e in
        let lengths = lengths_table r.state r.bytes facts good.same good.table in
        let ready = ready_length r.state r.bytes facts good.same good.table in
        let new = none-payloads (table_of r.state) (drop r.state.ready r.bytes) (offset - (r.state.count + 1)) known.new in
        rewritten r.state.waiting r.bytes after (record { offset = offset; payload = payload } ∷ r.stored) r.read
        (shape_stored rec shape offset payload known.past known.low known.near
        (ap (λ (t : List ℕ). waits (get_or t (offset - (r.state.count + 1)) 0)) lengths ∙ known.new)
        (rw (lengths, ready) known.room))
        good.table
        (good.same ∙ sym (stored_size rec offset payload))
        (kept_stored rec r.stored r.read good.kept offset payload known.past new)

    by_answer : (a : Writing) → answer_of r.state (length r.bytes) number (length payload) ≡ a
        → Delivered (record {
          state = changed a (state_of r.state.waiting after) r.state;
          bytes = changed a (room_of r.bytes after) r.bytes;
          stored = changed a (record { offset = offset; payload = payload } ∷ r.stored) r.stored;
          read = r.read;
        })
    by_answer Stored e = stored_well e
    by_answer AlreadyThere e = good
    by_answer (Refused why) e = good

    written_well : Delivered (step_of r (write number payload))
    unfolding after offset
    written_well = by_answer (answer_of r.state (length r.bytes) number (length payload)) refl

  -- a read
  module _ (out : List ℕ) where
    n : ℕ
    n = min (length out) r.state.ready

    ready_for_lem : ready_for r.state (length r.bytes) ≡ true
    ready_for_lem = and_true (sound_of r.state) _ good.sound ∙ eq-eqb (length r.bytes) r.state.length good.same

    rec : Receiver
    rec = receiver_of r.state r.bytes

    after_read : Receiver
    after_read = read_of rec n

    -- what a read leaves, from what it answers, the buffer and the output
    left : Answered (Told ℕ) ReceiveBuffer → List ℕ → List ℕ → Run
    left t b o = record { state = t.state; bytes = b; stored = r.stored; read = r.read ++ output_of t.answer o }

    was_read : take n (over (take n rec.ready) out) ≡ take n rec.ready
    unfolding rec n
    was_read =
        let all : length (take n rec.ready) ≡ n = length-take-le n rec.ready (rw (ready_length r.state r.bytes facts good.same good.table) (omega arith)) in
        ap (λ (m : ℕ). take m (over (take n rec.ready) out)) (sym all) ∙ over_back (take n rec.ready) out

    step_is : step_of r (read out) ≡ record { state = state_of r.state.waiting after_read; bytes = room_of r.bytes after_read; stored = r.stored; read = r.read ++ take n rec.ready }
    unfolding rec n after_read left
    step_is =
        ap (λ (t : Answered (Told ℕ) ReceiveBuffer). left t (taken_room_of r.state r.bytes out) (taken_out_of r.state r.bytes out)) (cond_true _ _ _ ready_for_lem)
        ∙ ap (λ (b : List ℕ). left (record { answer = Is n; state = state_of r.state.waiting after_read }) b (taken_out_of r.state r.bytes out)) (cond_true _ _ _ ready_for_lem)
        ∙ ap (λ (o : List ℕ). left (record { answer = Is n; state = state_of r.state.waiting after_read }) (room_of r.bytes after_read) o) (cond_true _ _ _ ready_for_lem)
        ∙ ap (λ (l : List ℕ). with_read l) was_read
      where
        with_read : List ℕ → Run
        with_read l = record { state = state_of r.state.waiting after_read; bytes = room_of r.bytes after_read; stored = r.stored; read = r.read ++ l }

    taken_well : Delivered (step_of r (read out))
    unfolding rec after_read
    taken_well =
        subst Delivered (sym step_is)
        (rewritten r.state.waiting r.bytes after_read r.stored (r.read ++ take n rec.ready)
        (shape_read rec shape n)
        good.table
        (good.same ∙ sym (read_size rec n))
        (kept_read rec r.stored r.read good.kept n))

  pub step_well : (c : Call) → Delivered (step_of r c)
  step_well (write number payload) = written_well number payload
  step_well (read out) = taken_well out

pub run_well : (cs : List Call) (r : Run) → Delivered r → Delivered (run_of r cs)
run_well [] r good = good
run_well (c ∷ cs) r good = run_well cs (step_of r c) (step_well r good c)

fresh_well : (initial : SeqNum) (buf : List ℕ) → 1 ≤ length buf → length buf ≤ 65536 → Delivered (fresh_run initial buf)
fresh_well initial buf least most =
    record {
      sound =
          sound_test (fresh_of initial (length buf))
          (record { least = least; most = most; places = omega arith; reach = omega arith; first = refl; last = refl; bytes = omega arith });
      same = refl;
      table = refl;
      kept = record { in_order = refl; all_there = λ k l e. not-suc-le-zero l; waiting = λ i. refl };
    }

-- every run from a fresh receiver
pub delivered : (initial : SeqNum) (buf : List ℕ) → 1 ≤ length buf → length buf ≤ 65536 → (cs : List Call) → Delivered (run_of (fresh_run initial buf) cs)
delivered initial buf least most cs = run_well cs (fresh_run initial buf) (fresh_well initial buf least most)

-- ---- where every payload that was stored is the one that was sent under its offset, those are what is delivered

abbrev pub Agree : (ℕ → List ℕ) → List Entry → Type 0
Agree sent [] = Unit {0}
Agree sent (e ∷ log) = (e.payload ≡ sent e.offset) × Agree sent log

first-sent : (sent : ℕ → List ℕ) (log : List Entry) → Agree sent log → (o : ℕ) → (first_stored log o ≡ none → ⊥) → first_stored log o ≡ some (sent o)
first-sent sent [] agree o there = absurd (there refl)
first-sent sent (e ∷ log) agree o there = by (λ h. first-sent sent log agree.1 o h) (first_stored log o) refl
  where
    newest : first_stored log o ≡ none → (e.offset ≡ o) ⊎ (e.offset ≡ o → ⊥) → first_stored (e ∷ log) o ≡ some (sent o)
    newest q (inl same) =
        ap (λ (x : Option (List ℕ)). or_else x (cond (eqb e.offset o) (some e.payload) none)) q
        ∙ cond_true (some e.payload) none (eqb e.offset o) (eq-eqb e.offset o same)
        ∙ ap some (agree.0 ∙ ap sent same)
    newest q (inr other) = absurd (there (first-other e log o other ∙ q))

    by : ((first_stored log o ≡ none → ⊥) → first_stored log o ≡ some (sent o)) → (x : Option (List ℕ)) → first_stored log o ≡ x → first_stored (e ∷ log) o ≡ some (sent o)
    by earlier none q = newest q (eq_or_ne e.offset o)
    by earlier (some p) q =
        ap (λ (x : Option (List ℕ)). or_else x (cond (eqb e.offset o) (some e.payload) none)) q
        ∙ sym q
        ∙ earlier (λ z. let no : ◌≡◌ {A = ℕ} 0 1 = cc in omega arith)

pub sent_in_order : (sent : ℕ → List ℕ) (r : Receiver) (log : List Entry) (sofar : List ℕ) → Kept r log sofar → Agree sent log
    → sofar ++ r.ready ≡ joined (tabled r.count (λ k. some (sent (k + 1))))
sent_in_order sent r log sofar kept agree =
    kept.in_order
    ∙ ap joined (tabled_below r.count (λ k. first_stored log (k + 1)) (λ k. some (sent (k + 1))) (λ k l. first-sent sent log agree (k + 1) (kept.all_there k l)))
