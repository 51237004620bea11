-- What the receiver has stored, by what was first stored under each offset: it stays stored, and an acknowledgement that is built says only what is stored then.
use Rattle.std.specs.Prelude.{ℕ, zero, suc, ◌+◌, ◌-◌, ◌^◌, ◌≤◌, ◌<◌, Bool, true, false, ◌&&◌, cond, List, [], ◌∷◌, ◌⊎◌, ◌≡◌, refl, leb, ltb, eqb, length, take, drop, get_or}
use Rattle.std.proofs.Common.{arith, append-nil, inl, inr, ◌∙◌, ap, sym, subst, leb-true, leb-false, eqb-true}
use Rattle.std.proofs.Math.Option.{Option, none, some}
use Rattle.std.proofs.Math.Seq.{take-append_seam}
use Rattle.seq.specs.Seq.{offset_of}
use Rattle.packet.specs.Sack.{bit_of}
use Rattle.seq.specs.Laws.{offset_of_plus}
use Rattle.seq.specs.declared.SeqNum.{SeqNum}
use Rattle.recv.specs.declared.ReceiveBuffer.{ReceiveBuffer}
use Rattle.recv.specs.declared.Answered.{Answered}
use Rattle.recv.specs.declared.Refusal.TheVariants.{NotSound, NoRoom}
use Rattle.recv.specs.declared.Told.{Told}
use Rattle.recv.specs.declared.Told.TheVariants.{Is, Refused as told-refused}
use Rattle.recv.specs.declared.Writing.{Writing}
use Rattle.recv.specs.declared.Writing.TheVariants.{Stored, AlreadyThere, Refused}
use Rattle.recv.specs.Table.{waits, sack_of}
use Rattle.recv.specs.State.{table_of, sound_of, ack_of}
use Rattle.recv.specs.Receiver.{changed, stored_of, read_of}
use Rattle.recv.specs.Calls.{payloads_of, receiver_of, over, written_of, taken_of, answer_of, state_of, ready_for}
use Rattle.recv.specs.Runs.{Call, write, read, Entry, Run, first_stored, or_else, step_of}
use Rattle.recv.specs.Laws.State.{sound_facts}
use Rattle.recv.specs.Laws.Sack.{bit_means}
use Rattle.recv.specs.Laws.Runs as RecvLaws
use Rattle.recv.specs.Laws.Payloads as RecvPayloads
use Rattle.delivery.specs.Run.{Acknowledgement, Answers, Stored as Has, in_order, waiting}
use Rattle.delivery.specs.Laws.Marks.{Speaks, itself, bit, before}

-- Something was stored under the offset.
abbrev pub IsStored : List Entry → ℕ → Type 0
IsStored log o = first_stored log o ≡ none → ⊥

pub stored_more : (e : Entry) (log : List Entry) (o : ℕ) → IsStored log o → IsStored (e ∷ log) o
stored_more e log o h = by_first (first_stored log o) refl
  where
    by_first : (x : Option (List ℕ)) → first_stored log o ≡ x → or_else x (cond (eqb e.offset o) (some e.payload) none) ≡ none → ⊥
    by_first none t f = h t
    by_first (some p) t f = let z : ◌≡◌ {A = ℕ} 0 1 = cc in omega arith

pub stored_changed : (w : Writing) (e : Entry) (log : List Entry) (o : ℕ) → IsStored log o → IsStored (changed w (e ∷ log) log) o
stored_changed Stored e log o h = stored_more e log o h
stored_changed AlreadyThere e log o h = h
stored_changed (Refused why) e log o h = h

-- What a log tells of an offset: an entry before, or this one.
pub first-changed :
    (w : Writing) (e : Entry) (log : List Entry) (o : ℕ) (p : List ℕ) (P : Type 0)
    → (first_stored log o ≡ some p → P) → (e.offset ≡ o → e.payload ≡ p → P)
    → first_stored (changed w (e ∷ log) log) o ≡ some p → P
first-changed AlreadyThere e log o p P old new f = old f
first-changed (Refused why) e log o p P old new f = old f
first-changed Stored e log o p P old new f = by_first (first_stored log o) refl f
  where
    by_offset : (b : Bool) → eqb e.offset o ≡ b → cond b (some e.payload) none ≡ some p → P
    by_offset true t g = new (eqb-true _ _ t) (cc)
    by_offset false t g = let z : ◌≡◌ {A = ℕ} 0 1 = cc in absurd (omega arith)

    by_first : (x : Option (List ℕ)) → first_stored log o ≡ x → or_else x (cond (eqb e.offset o) (some e.payload) none) ≡ some p → P
    by_first none t g = by_offset (eqb e.offset o) refl g
    by_first (some q) t g = old (t ∙ g)

-- ---- the table and what was stored

waits_some : (t bytes : List ℕ) (i : ℕ) → waits (get_or t i 0) ≡ true → get_or (payloads_of t bytes) i none ≡ none → ⊥
waits_some [] bytes i h e = let z : ◌≡◌ {A = ℕ} 0 1 = cc in omega arith
waits_some (zero ∷ t) bytes zero h e = let z : ◌≡◌ {A = ℕ} 0 1 = cc in omega arith
waits_some (suc n ∷ t) bytes zero h e = let z : ◌≡◌ {A = ℕ} 0 1 = cc in omega arith
waits_some (zero ∷ t) bytes (suc i) h e = waits_some t bytes i h e
waits_some (suc n ∷ t) bytes (suc i) h e = waits_some t (drop n bytes) i h e

-- A sound receiver whose buffer holds what was stored.
pub record Well (r : Run) : Type 0 where
  pub sound : sound_of r.state ≡ true
  pub kept : RecvLaws.Kept (receiver_of r.state r.bytes) r.stored r.read

module _ (r : Run) (good : Well r) where
  abbrev c : ℕ
  c = r.state.count

  abbrev table : List ℕ
  table = table_of r.state

  in_order_stored : (o : ℕ) → 1 ≤ o → o ≤ c → IsStored r.stored o
  in_order_stored o least most e =
      let place : o - 1 + 1 ≡ o = omega arith in
      good.kept.all_there (o - 1) (omega arith) (ap (first_stored r.stored) place ∙ e)

  waiting_stored : (i : ℕ) → waits (get_or table i 0) ≡ true → IsStored r.stored (c + i + 1)
  waiting_stored i w e = waits_some table (drop r.state.ready r.bytes) i w (good.kept.waiting i ∙ e)

  -- What was stored under an offset was put in order, or waits.
  pub has_stored : (o : ℕ) (p : List ℕ) → first_stored r.stored o ≡ some p → Has r o p
  has_stored o p h = by_order (leb o c) refl
    where
      by_order : (b : Bool) → leb o c ≡ b → Has r o p
      by_order true e = in_order (leb-true o c e) h
      by_order false e =
          let past : c < o = leb-false o c e in
          let place : c + (o - c - 1) + 1 ≡ o = omega arith in
          waiting past (good.kept.waiting (o - c - 1) ∙ (ap (first_stored r.stored) place ∙ h))

  -- The offset next in order is not stored.
  pub next_missing : first_stored r.stored (c + 1) ≡ none
  next_missing =
      let facts = sound_facts r.state good.sound in
      let place : c + 0 + 1 ≡ c + 1 = omega arith in
      ap (first_stored r.stored) (sym place) ∙ (sym (good.kept.waiting 0) ∙ RecvPayloads.none-payloads table (drop r.state.ready r.bytes) 0 facts.first)

  -- ---- an acknowledgement that is built

  module _ (room : List ℕ) (a : Acknowledgement) (told : Answers r.state room a) (fits : r.state.initial.0 < 2 ^ 16) where
    number_is_ack : a.number ≡ ack_of r.state
    number_is_ack = by_sound (sound_of r.state) told.number_told
      where
        by_sound : (b : Bool) → cond b (Is (ack_of r.state)) (told-refused NotSound) ≡ Is a.number → a.number ≡ ack_of r.state
        by_sound true e = cc
        by_sound false e = let z : ◌≡◌ {A = ℕ} 0 1 = cc in absurd (omega arith)

    mask_is_sack : a.mask ≡ sack_of table
    mask_is_sack = by_tests (sound_of r.state) (leb (length (sack_of table)) (length room)) told.size_told told.bytes_told
      where
        by_tests :
            (b k : Bool) → cond b (cond k (Is (length (sack_of table))) (told-refused NoRoom)) (told-refused NotSound) ≡ Is told.size
            → take told.size (cond (b && k) (over (sack_of table) room) room) ≡ a.mask
            → a.mask ≡ sack_of table
        by_tests true true e f =
            let size : length (sack_of table) ≡ told.size = cc in
            sym f ∙ (ap (λ (n : ℕ). take n (over (sack_of table) room)) (sym size) ∙ take-append_seam (sack_of table) (drop (length (sack_of table)) room))
        by_tests true false e f = let z : ◌≡◌ {A = ℕ} 0 1 = cc in absurd (omega arith)
        by_tests false k e f = let z : ◌≡◌ {A = ℕ} 0 1 = cc in absurd (omega arith)

    pub ack_offset : (offset_of a.number r.state.initial).0 ≡ c
    ack_offset =
        let facts = sound_facts r.state good.sound in
        ap (λ (n : SeqNum). (offset_of n r.state.initial).0) number_is_ack ∙ offset_of_plus r.state.initial c fits (omega (arith, facts.reach))

    -- Whatever it speaks of is stored.
    pub speaks_stored : (x : ℕ) → 1 ≤ x → Speaks c a.mask x → IsStored r.stored x
    speaks_stored x above (itself e) = in_order_stored x above (omega arith)
    speaks_stored x above (before least less) = in_order_stored x above (omega arith)
    speaks_stored x above (bit i set e) = λ n. waiting_stored (i + 1) it_waits (ap (first_stored r.stored) place ∙ n)
      where
        place : c + (i + 1) + 1 ≡ x
        place = omega arith

        it_waits : waits (get_or table (i + 1) 0) ≡ true
        it_waits = by_past (ltb c (c + 2 + i)) (sym (bit_means c table i) ∙ (ap (λ (m : List ℕ). bit_of m i) (sym mask_is_sack) ∙ set))
          where
            index : c + 2 + i - (c + 1) ≡ i + 1
            index = omega arith

            by_past : (b : Bool) → (b && waits (get_or table (c + 2 + i - (c + 1)) 0)) ≡ true → waits (get_or table (i + 1) 0) ≡ true
            by_past true f = ap (λ (k : ℕ). waits (get_or table k 0)) (sym index) ∙ f
            by_past false f = let z : ◌≡◌ {A = ℕ} 0 1 = cc in absurd (omega arith)

-- ---- over calls

-- A receiver goes on well, and its buffer has the length named at the start; or it has another length.
pub record Receives (r : Run) : Type 0 where
  pub well : Well r
  pub lengths : RecvLaws.Delivered r ⊎ (eqb (length r.bytes) r.state.length ≡ false)

pub receives_well : (r : Run) → RecvLaws.Delivered r → Receives r
receives_well r good = record { well = record { sound = good.sound; kept = good.kept }; lengths = inl good }

-- With another length every call is refused with 18, and leaves all as it was.
other_stays : (r : Run) → sound_of r.state ≡ true → eqb (length r.bytes) r.state.length ≡ false → (c : Call) → step_of r c ≡ r
unfolding answer_of
other_stays r sound other (write number payload) = simp (sound, other)
other_stays r sound other (read out) = simp (sound, other, append-nil)

pub receives_step : (r : Run) → Receives r → (c : Call) → Receives (step_of r c)
receives_step r good c = by_length good.lengths
  where
    by_length : RecvLaws.Delivered r ⊎ (eqb (length r.bytes) r.state.length ≡ false) → Receives (step_of r c)
    by_length (inl same) = receives_well (step_of r c) (RecvLaws.step_well r same c)
    by_length (inr other) = subst Receives (sym (other_stays r good.well.sound other c)) good

-- ---- the initial number stays

pub write_initial : (s : ReceiveBuffer) (buf : List ℕ) (number : SeqNum) (payload : List ℕ) → (written_of s buf number payload).state.initial ≡ s.initial
unfolding stored_of
write_initial s buf number payload = by_answer (answer_of s (length buf) number (length payload))
  where
    by_answer : (w : Writing) → (changed w (state_of s.waiting (stored_of (receiver_of s buf) (offset_of number s.initial).0 payload)) s).initial ≡ s.initial
    by_answer Stored = refl
    by_answer AlreadyThere = refl
    by_answer (Refused why) = refl

pub read_initial : (s : ReceiveBuffer) (buf out : List ℕ) → (taken_of s buf out).state.initial ≡ s.initial
unfolding read_of
read_initial s buf out = either (ready_for s (length buf)) _ _ refl refl
  where
    either : (b : Bool) (x y : Answered (Told ℕ) ReceiveBuffer) → x.state.initial ≡ s.initial → y.state.initial ≡ s.initial → (cond b x y).state.initial ≡ s.initial
    either true x y e f = e
    either false x y e f = f
