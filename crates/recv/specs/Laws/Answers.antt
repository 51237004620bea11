-- What a write answers, case by case, and what is known where it stores.
use Rattle.std.specs.Prelude.{ℕ, ◌+◌, ◌-◌, ◌≤◌, ◌<◌, Bool, true, false, cond, List, ◌≡◌, refl, ltb, eqb, length, get_or}
use Rattle.std.proofs.Common.{◌∙◌, arith, lt-ltb, le-ltb, ltb-false, eq-eqb, ne_eqb, eqb-true}
use Rattle.seq.specs.Seq.{offset_of}
use Rattle.seq.specs.declared.SeqNum.{SeqNum}
use Rattle.recv.specs.Table.{waits, bytes_in, limit, ahead, there_of, free_of}
use Rattle.recv.specs.State.{table_of, sound_of}
use Rattle.recv.specs.Receiver.{rule_of, changed}
use Rattle.recv.specs.Calls.{answer_of, state_of, room_of, after_write, written_of, written_room_of}
use Rattle.recv.specs.Laws.Cases.{cond_true, cond_false}
use Rattle.recv.specs.Laws.State.{Sound, sound_facts}
use Rattle.recv.specs.Laws.Table.{not_there}
use Rattle.recv.specs.declared.ReceiveBuffer.{ReceiveBuffer}
use Rattle.recv.specs.declared.Refusal.TheVariants.{TooMany, TooFarAhead, PayloadTooLong, OtherLength, NotSound}
use Rattle.recv.specs.declared.Writing.{Writing}
use Rattle.recv.specs.declared.Writing.TheVariants.{Stored, AlreadyThere, Refused}

-- ---- the rule, by its tests in their order

module _ (size c ready : ℕ) (table : List ℕ) (o n : ℕ) where
  pub rule_there : there_of c table o ≡ true → rule_of size c ready table o n ≡ AlreadyThere
  unfolding rule_of
  rule_there h = cond_true _ _ _ h

  module _ (new : there_of c table o ≡ false) where
    pub rule_limit : limit < o → rule_of size c ready table o n ≡ Refused TooMany
    unfolding rule_of
    rule_limit h = cond_false _ _ _ new ∙ cond_true _ _ _ (lt-ltb limit o h)

    module _ (low : o ≤ limit) where
      pub rule_ahead : c + ahead < o → rule_of size c ready table o n ≡ Refused TooFarAhead
      unfolding rule_of
      rule_ahead h = cond_false _ _ _ new ∙ cond_false _ _ _ (le-ltb limit o low) ∙ cond_true _ _ _ (lt-ltb (c + ahead) o h)

      module _ (near : o ≤ c + ahead) where
        last_test : rule_of size c ready table o n ≡ cond (ltb (free_of size ready table) n) (Refused PayloadTooLong) Stored
        unfolding rule_of
        last_test = cond_false _ _ _ new ∙ cond_false _ _ _ (le-ltb limit o low) ∙ cond_false _ _ _ (le-ltb (c + ahead) o near)

        pub rule_long : free_of size ready table < n → rule_of size c ready table o n ≡ Refused PayloadTooLong
        rule_long h = last_test ∙ cond_true _ _ _ (lt-ltb (free_of size ready table) n h)

        pub rule_stored : n ≤ free_of size ready table → rule_of size c ready table o n ≡ Stored
        rule_stored h = last_test ∙ cond_false _ _ _ (le-ltb (free_of size ready table) n h)

-- ---- the answer: 19, 18, then the rule

module _ (s : ReceiveBuffer) (size : ℕ) (number : SeqNum) (n : ℕ) where
  pub answer_unsound : sound_of s ≡ false → answer_of s size number n ≡ Refused NotSound
  unfolding answer_of
  answer_unsound h = cond_false _ _ _ h

  pub answer_other : sound_of s ≡ true → (size ≡ s.length → ⊥) → answer_of s size number n ≡ Refused OtherLength
  unfolding answer_of
  answer_other h e = cond_true _ _ _ h ∙ cond_false _ _ _ (ne_eqb size s.length e)

  pub answer_rule : sound_of s ≡ true → size ≡ s.length
      → answer_of s size number n ≡ rule_of s.length s.count s.ready (table_of s) (offset_of number s.initial).0 n
  unfolding answer_of
  answer_rule h e = cond_true _ _ _ h ∙ cond_true _ _ _ (eq-eqb size s.length e)

-- ---- what is known where the answer is that it was stored

pub record Storable (size c ready : ℕ) (table : List ℕ) (o n : ℕ) : Type 0 where
  pub new : there_of c table o ≡ false
  pub low : o ≤ 60000
  pub near : o ≤ c + 256
  pub short : n ≤ free_of size ready table

pub record Stores (s : ReceiveBuffer) (size o n : ℕ) : Type 0 where
  pub sound : Sound s
  pub same : size ≡ s.length
  pub past : s.count < o
  pub low : o ≤ 60000
  pub near : o ≤ s.count + 256
  pub new : waits (get_or (table_of s) (o - (s.count + 1)) 0) ≡ false
  pub room : s.ready + bytes_in (table_of s) + n ≤ s.length

-- a test whose first case is another answer has failed, and one whose second case is has passed
failed : (b : Bool) (x y z : Writing) → cond b x y ≡ z → (x ≡ z → ⊥) → (b ≡ false) × (y ≡ z)
failed true x y z e other = absurd (other e)
failed false x y z e other = (refl, e)

passed : (b : Bool) (x y z : Writing) → cond b x y ≡ z → (y ≡ z → ⊥) → (b ≡ true) × (x ≡ z)
passed true x y z e other = (refl, e)
passed false x y z e other = absurd (other e)

other_answer : AlreadyThere ≡ Stored → ⊥
other_answer e = let z : ◌≡◌ {A = ℕ} 0 1 = cc in omega arith

not_refused : (r : _) → Refused r ≡ Stored → ⊥
not_refused r e = let z : ◌≡◌ {A = ℕ} 0 1 = cc in omega arith

pub storable : (size c ready : ℕ) (table : List ℕ) (o n : ℕ) → rule_of size c ready table o n ≡ Stored → Storable size c ready table o n
unfolding rule_of
storable size c ready table o n e =
    let f0 = failed _ _ _ _ e other_answer in
    let f1 = failed _ _ _ _ f0.1 (not_refused _) in
    let f2 = failed _ _ _ _ f1.1 (not_refused _) in
    let f3 = failed _ _ _ _ f2.1 (not_refused _) in
    record { new = f0.0; low = ltb-false _ _ f1.0; near = ltb-false _ _ f2.0; short = ltb-false _ _ f3.0 }

module _ (s : ReceiveBuffer) (size : ℕ) (number : SeqNum) (n : ℕ) (e : answer_of s size number n ≡ Stored) where
  ruled : Writing
  ruled = rule_of s.length s.count s.ready (table_of s) (offset_of number s.initial).0 n

  sound_first : (sound_of s ≡ true) × (cond (eqb size s.length) ruled (Refused OtherLength) ≡ Stored)
  unfolding answer_of ruled
  sound_first = passed (sound_of s) (cond (eqb size s.length) ruled (Refused OtherLength)) (Refused NotSound) Stored e (not_refused NotSound)

  length_next : (eqb size s.length ≡ true) × (ruled ≡ Stored)
  length_next = passed (eqb size s.length) ruled (Refused OtherLength) Stored sound_first.1 (not_refused OtherLength)

  pub stored_sound : sound_of s ≡ true
  stored_sound = sound_first.0

  pub stored_length : size ≡ s.length
  stored_length = eqb-true _ _ length_next.0

  pub stored_rule : Storable s.length s.count s.ready (table_of s) (offset_of number s.initial).0 n
  unfolding ruled
  stored_rule = storable _ _ _ _ _ _ length_next.1

  -- all that the code needs to know
  pub stores : Stores s size (offset_of number s.initial).0 n
  stores =
      let rule = stored_rule in
      let sound = sound_facts s stored_sound in
      let new = not_there _ _ _ rule.new in
      record { sound = sound; same = stored_length; past = new.0; low = rule.low; near = rule.near; new = new.1; room = omega arith }

-- ---- an answer with the state and the buffer that go with it

module _ (s : ReceiveBuffer) (buf : List ℕ) (number : SeqNum) (payload : List ℕ) (a : Writing) (e : answer_of s (length buf) number (length payload) ≡ a) where
  pub written_is : (after : ReceiveBuffer) → after ≡ changed a (state_of s.waiting (after_write s buf number payload)) s
      → record { answer = a; state = after } ≡ written_of s buf number payload
  written_is after h = rw (e, h)

  pub written_room_is : (after : List ℕ) → after ≡ changed a (room_of buf (after_write s buf number payload)) buf → after ≡ written_room_of s buf number payload
  written_room_is after h = rw (e, h)
