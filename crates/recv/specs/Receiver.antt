-- What a receiver is, and what document 01, "Receiving", says a write and a read do to it. Definitions only.
use Rattle.std.specs.Prelude.{ℕ, zero, suc, ◌+◌, ◌-◌, cond, List, [], ◌∷◌, ◌++◌, map, ltb, length, take, drop}
use Rattle.std.proofs.Math.Option.{Option, none, some}
use Rattle.seq.specs.declared.SeqNum.{SeqNum}
use Rattle.recv.specs.Table.{run_of, limit, ahead, there_of, free_of}
use Rattle.recv.specs.declared.Refusal.TheVariants.{TooMany, TooFarAhead, PayloadTooLong}
use Rattle.recv.specs.declared.Writing.{Writing}
use Rattle.recv.specs.declared.Writing.TheVariants.{Stored, AlreadyThere, Refused}

-- The initial number; the length of the buffer; c, how many payloads are in order; of those the bytes that are ready, oldest first; and for the
-- offsets c + 1, c + 2, .. up to the furthest that waits, the payload that waits there or none.
pub record Receiver : Type 0 where
  pub initial : SeqNum
  pub length : ℕ
  pub count : ℕ
  pub ready : List ℕ
  pub waiting : List (Option (List ℕ))

-- ---- the payloads of a list of offsets

-- end to end
abbrev pub joined : List (Option (List ℕ)) → List ℕ
joined [] = []
joined (none ∷ w) = joined w
joined (some p ∷ w) = p ++ joined w

-- the entry of a table of lengths: 0 for none, else the length plus 1, so that empty payloads count
abbrev pub entry_of : Option (List ℕ) → ℕ
entry_of none = 0
entry_of (some p) = suc (length p)

abbrev pub lengths_of : List (Option (List ℕ)) → List ℕ
lengths_of w = map entry_of w

-- a at place i, with d in the places that this adds before it
abbrev pub put_at : {A : Type 0} → A → List A → ℕ → A → List A
put_at d [] zero a = a ∷ []
put_at d [] (suc i) a = d ∷ put_at d [] i a
put_at d (x ∷ xs) zero a = a ∷ xs
put_at d (x ∷ xs) (suc i) a = x ∷ put_at d xs i a

-- ---- writing

-- Offset at most c, or waiting, is already there; above 60,000 gives 15; above c + 256 gives 16; longer than length less ready less waiting gives 17.
-- Otherwise it is stored.
unfoldable pub rule_of : (size c ready : ℕ) → List ℕ → (o n : ℕ) → Writing
rule_of size c ready table o n =
    cond (there_of c table o)
    AlreadyThere
    (cond (ltb limit o)
    (Refused TooMany)
    (cond (ltb (c + ahead) o)
    (Refused TooFarAhead)
    (cond (ltb (free_of size ready table) n)
    (Refused PayloadTooLong)
    Stored)))

-- move every next waiting payload to ready
abbrev pub next_ready : Receiver → Receiver
next_ready r =
    let k = run_of (lengths_of r.waiting) in
    record {
      initial = r.initial;
      length = r.length;
      count = r.count + k;
      ready = r.ready ++ joined (take k r.waiting);
      waiting = drop k r.waiting;
    }

-- store, and move every next waiting payload to ready
unfoldable pub stored_of : Receiver → ℕ → List ℕ → Receiver
stored_of r o payload =
    next_ready
    (record {
      initial = r.initial;
      length = r.length;
      count = r.count;
      ready = r.ready;
      waiting = put_at none r.waiting (o - (r.count + 1)) (some payload);
    })

-- the change is made where the payload is stored, and nothing changes otherwise
abbrev pub changed : {A : Type 0} → Writing → A → A → A
changed Stored new old = new
changed AlreadyThere new old = old
changed (Refused why) new old = old

abbrev pub writing_of : Receiver → ℕ → List ℕ → Writing
writing_of r o payload = rule_of r.length r.count (length r.ready) (lengths_of r.waiting) o (length payload)

abbrev pub write_of : Receiver → ℕ → List ℕ → Receiver
write_of r o payload = changed (writing_of r o payload) (stored_of r o payload) r

-- ---- reading

-- reading takes the oldest n ready bytes
unfoldable pub read_of : Receiver → ℕ → Receiver
read_of r n = record { initial = r.initial; length = r.length; count = r.count; ready = drop n r.ready; waiting = r.waiting }
