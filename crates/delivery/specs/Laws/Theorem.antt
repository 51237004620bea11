-- The theorem of demand 3: one invariant over the events of a run, a lemma for each kind of event, and what follows from it.
use Prim.Native.Nat.{ℕ, zero, suc, ◌+◌, ◌-◌, ◌^◌, ◌≤◌, ◌<◌}
use native.Mathlib.Omega.{arith}
use Rattle.std.specs.Prelude.{Bool, ◌&&◌, ◌⊎◌, leb, ltb, eqb, take, replicate}
use Rattle.std.proofs.Math.Bool.{true, false, not, cond}
use mathlib.Core.List.{List, [], ◌∷◌, ◌++◌}
use Rattle.std.proofs.Common.{inl, inr, ⊎_elim, ◌∙◌, length-set}
use Rattle.std.proofs.Math.Option.{Option, none, some}
use Rattle.std.proofs.Math.Path.{◌≡◌, refl, ap, ap₂, sym, subst, subst₂}
use Rattle.std.proofs.Math.ListN.{length, get_or, length-append, get_or-append}
use Rattle.std.proofs.lemmas.List.{length-replicate}
use Rattle.std.proofs.Math.Seq.{get_or-append_seam, take-length}
use borrow.Author.Tests.{leb-true, leb-false, ltb-true, ltb-false, eqb-true, eqb-false}
use Rattle.seq.specs.Seq.{offset_of}
use Rattle.seq.specs.declared.SeqNum.{SeqNum}
use Rattle.sent.specs.declared.state.SentPackets.{SentPackets}
use Rattle.outgoing.specs.declared.kept.Packet.{Packet}
use Rattle.outgoing.specs.Tracker.{Tracker, offset_in, is_kept, packet_at, with_packet_at, clocked_of, gone_of}
use Rattle.outgoing.specs.Transmit.{with_resent, resent_of, recorded_of, first_sent, sent_of}
use Rattle.outgoing.specs.Sound.{timeout_of}
use Rattle.sent.specs.State.{tracker_of, timeout_answer, new_answer}
use Rattle.recv.specs.declared.Writing.{Writing}
use Rattle.recv.specs.declared.ReceiveBuffer.{ReceiveBuffer}
use Rattle.recv.specs.declared.Answered.{Answered}
use Rattle.recv.specs.declared.Creation.{Creation}
use Rattle.recv.specs.declared.Creation.TheVariants.{Made}
use Rattle.recv.specs.State.{sound_of, created_of, fresh_of, no_receiver_of}
use Rattle.recv.specs.Receiver.{joined}
use Rattle.recv.specs.Table.{tabled}
use Rattle.recv.specs.Calls.{answer_of}
use Rattle.recv.specs.Runs as Recv
use Rattle.recv.specs.Runs.{first_stored, Run, Entry, fresh_run}
use Rattle.recv.specs.Laws.Runs as RecvLaws
use Rattle.delivery.specs.Run.{Datagram, Acknowledgement, Transmit, SenderCall, transmit, hear, time_out, ReceiverCall, write, read, build, Event, at_sender, at_receiver, goes_out, Start, sender_after, receiver_after, receiver_left, accepted, is_first, payloads, Happens, Happened, carried, Sent, FirstSent, Answers, Built, Fresh, Premises, joined_all, marks_of, held_acked, stream_of, AllAcked, Delivered}
use Rattle.delivery.specs.Laws.Marks.{marks_recorded, marks_resent, Speaks, acked_by_of, ack_stays, ack_grown}
use Rattle.delivery.specs.Laws.Calls.{transmit_accepted, transmit_refused, Heard, unheard, heard, ack_heard, timeout_stays}
use Rattle.delivery.specs.Laws.Stored.{IsStored, stored_changed, first-changed, Well, Receives, receives_well, receives_step, has_stored, next_missing, ack_offset, speaks_stored, write_initial, read_initial}

-- ---- the invariant

-- The payload that was first sent under an offset.
pub record Good (ps : List (List ℕ)) (o : ℕ) (payload : List ℕ) : Type 0 where
  pub least : 1 ≤ o
  pub most : o ≤ length ps
  pub same : get_or ps (o - 1) [] ≡ payload

good_more : (ps qs : List (List ℕ)) (o : ℕ) (p : List ℕ) → Good ps o p → Good (ps ++ qs) o p
good_more ps qs o p g =
    record {
      least = g.least;
      most = omega (arith, g.most, length-append ps qs);
      same = get_or-append ps qs [] (o - 1) (omega (arith, g.least, g.most)) ∙ g.same;
    }

abbrev offset_from : SeqNum → SeqNum → ℕ
offset_from initial number = (offset_of number initial).0

abbrev GoodAt : SeqNum → List (List ℕ) → Datagram → Type 0
GoodAt initial ps d = Good ps (offset_from initial d.number) d.payload

-- What an acknowledgement speaks of is stored.
abbrev SpeaksTrue : SeqNum → List Entry → Acknowledgement → Type 0
SpeaksTrue initial log a = (x : ℕ) → 1 ≤ x → Speaks (offset_from initial a.number) a.mask x → IsStored log x

-- Of the sender's tracker.
record Sends (initial : SeqNum) (ps : List (List ℕ)) (t : Tracker) : Type 0 where
  initial_same : t.initial ≡ initial
  count : t.sent ≡ length ps
  kept : length t.packets ≤ t.sent

-- Of both ends: what the receiver stored was sent, and what the sender holds as acknowledged was stored.
record Ends (initial : SeqNum) (ps : List (List ℕ)) (t : Tracker) (r : Run) : Type 0 where
  sends : Sends initial ps t
  receives : Receives r
  receiver_initial : r.state.initial ≡ initial
  stored_good : (o : ℕ) (p : List ℕ) → first_stored r.stored o ≡ some p → Good ps o p
  held_stored : (x : ℕ) → 1 ≤ x → held_acked t x ≡ true → IsStored r.stored x

-- Of what went between them so far.
record Between (initial : SeqNum) (ps : List (List ℕ)) (log : List Entry) (run : List Event) : Type 0 where
  sent_good : (d : Datagram) → Sent d run → GoodAt initial ps d
  out_good : (d : Datagram) → Happened (goes_out d) run → GoodAt initial ps d
  built_stored : (a : Acknowledgement) → Built a run → SpeaksTrue initial log a

record Inv (b : Start) (initial : SeqNum) (run : List Event) : Type 0 where
  ends : Ends initial (payloads run) (tracker_of (sender_after b run)) (receiver_after b run)
  between : Between initial (payloads run) (receiver_after b run).stored run

-- ---- one event more

-- What an event adds to what went between the ends: an accepted transmit, a datagram that goes out, an acknowledgement that is built.
record Adds (initial : SeqNum) (ps : List (List ℕ)) (log : List Entry) (e : Event) : Type 0 where
  sent : (s : SentPackets) (x : Transmit) → e ≡ at_sender s (transmit x) → accepted s x ≡ true → GoodAt initial ps (carried x)
  out : (d : Datagram) → e ≡ goes_out d → GoodAt initial ps d
  built : (s : ReceiveBuffer) (buf room : List ℕ) (a : Acknowledgement) → e ≡ at_receiver s buf (build room) → Answers s room a → SpeaksTrue initial log a

between_more :
    (initial : SeqNum) (ps : List (List ℕ)) (log : List Entry) (e : Event) (run : List Event) → Between initial ps log run → Adds initial ps log e → Between initial ps log (e ∷ run)
unfolding Happened
between_more initial ps log e run inv adds =
    record {
      sent_good = λ d h.
          subst (GoodAt initial ps) h.carries
          (⊎_elim (λ k. adds.sent h.sender h.asked k h.is_accepted)
          (λ k. inv.sent_good (carried h.asked) (record { sender = h.sender; asked = h.asked; happened = k; is_accepted = h.is_accepted; carries = refl }))
          h.happened);
      out_good = λ d h. ⊎_elim (adds.out d) (inv.out_good d) h;
      built_stored = λ a h.
          ⊎_elim (λ k. adds.built h.receiver h.buffer h.room a k h.answers)
          (λ k. inv.built_stored a (record { receiver = h.receiver; buffer = h.buffer; room = h.room; happened = k; answers = h.answers }))
          h.happened;
    }

-- With more payloads, and with more stored, it still holds.
between-sent : (initial : SeqNum) (ps qs : List (List ℕ)) (log : List Entry) (run : List Event) → Between initial ps log run → Between initial (ps ++ qs) log run
between-sent initial ps qs log run inv =
    record {
      sent_good = λ d h. good_more ps qs _ _ (inv.sent_good d h);
      out_good = λ d h. good_more ps qs _ _ (inv.out_good d h);
      built_stored = inv.built_stored;
    }

between_stored :
    (initial : SeqNum) (ps : List (List ℕ)) (log more : List Entry) (run : List Event) → ((o : ℕ) → IsStored log o → IsStored more o) → Between initial ps log run → Between initial ps more run
between_stored initial ps log more run grows inv =
    record {
      sent_good = inv.sent_good;
      out_good = inv.out_good;
      built_stored = λ a h x least spoken. grows x (inv.built_stored a h x least spoken);
    }

-- Which kind of event it is: 0 a transmit, 2 a call that builds an acknowledgement, 3 a datagram that goes out, 1 any other call.
abbrev sender_kind : SenderCall → ℕ
sender_kind (transmit x) = 0
sender_kind (hear a delay clock) = 1
sender_kind time_out = 1

abbrev receiver_kind : ReceiverCall → ℕ
receiver_kind (write d) = 1
receiver_kind (read out) = 1
receiver_kind (build room) = 2

abbrev kind_of : Event → ℕ
kind_of (at_sender s call) = sender_kind call
kind_of (at_receiver s buf call) = receiver_kind call
kind_of (goes_out d) = 3

-- Any other call adds nothing.
adds_nothing : (initial : SeqNum) (ps : List (List ℕ)) (log : List Entry) (e : Event) → kind_of e ≡ 1 → Adds initial ps log e
adds_nothing initial ps log e kind =
    record {
      sent = λ s x k. let z : kind_of e ≡ 0 = ap kind_of k in absurd (omega arith);
      out = λ d k. let z : kind_of e ≡ 3 = ap kind_of k in absurd (omega arith);
      built = λ s buf room a k. let z : kind_of e ≡ 2 = ap kind_of k in absurd (omega arith);
    }

-- ---- trackers

sends_same : (initial : SeqNum) (ps : List (List ℕ)) (t next : Tracker) → next.initial ≡ t.initial → next.sent ≡ t.sent → length next.packets ≤ next.sent → Sends initial ps t → Sends initial ps next
sends_same initial ps t next i n k g = record { initial_same = i ∙ g.initial_same; count = n ∙ g.count; kept = k }

resent_stays : (t : Tracker) (o : ℕ) → length t.packets ≤ t.sent → ((resent_of t o).initial ≡ t.initial) × ((resent_of t o).sent ≡ t.sent) × (length (resent_of t o).packets ≤ (resent_of t o).sent)
resent_stays t o h = by_test (is_kept t o)
  where
    next : Tracker
    next = with_packet_at t o (with_resent (packet_at t o))

    by_test : (b : Bool) → ((cond b next t).initial ≡ t.initial) × ((cond b next t).sent ≡ t.sent) × (length (cond b next t).packets ≤ (cond b next t).sent)
    by_test true = (refl, refl, rw (length-set t.packets (o - gone_of t - 1) (with_resent (packet_at t o))) h)
    by_test false = (refl, refl, h)

-- A mark that is not set adds none.
unmarked : (m : List Bool) (j : ℕ) → get_or (m ++ (false ∷ [])) j false ≡ true → get_or m j false ≡ true
unmarked [] zero e = e
unmarked [] (suc j) e = e
unmarked (x ∷ m) zero e = e
unmarked (x ∷ m) (suc j) e = unmarked m j e

-- ---- one lemma for each kind of event

module _ (b : Start) (initial : SeqNum) (fits : initial.0 < 2 ^ 16) (before : List Event) (inv : Inv b initial before) where
  abbrev ps : List (List ℕ)
  ps = payloads before

  abbrev s : SentPackets
  s = sender_after b before

  abbrev t : Tracker
  t = tracker_of s

  abbrev r : Run
  r = receiver_after b before

  offset_is : (number : SeqNum) → offset_in t number ≡ offset_from initial number
  offset_is number = ap (λ (i : SeqNum). (offset_of number i).0) inv.ends.sends.initial_same

  -- A call of the sender that leaves the payloads as they were, and the tracker as this one.
  sender_called :
      (call : SenderCall) (next : Tracker)
      → payloads (at_sender s call ∷ before) ≡ ps
      → tracker_of (sender_after b (at_sender s call ∷ before)) ≡ next
      → Sends initial ps next
      → ((x : ℕ) → 1 ≤ x → held_acked next x ≡ true → IsStored r.stored x)
      → Adds initial ps r.stored (at_sender s call)
      → Inv b initial (at_sender s call ∷ before)
  unfolding receiver_after
  sender_called call next same is sends held adds =
      record {
        ends = subst₂ (λ (qs : List (List ℕ)) (k : Tracker). Ends initial qs k r) (sym same) (sym is) moved;
        between =
            subst (λ (qs : List (List ℕ)). Between initial qs r.stored (at_sender s call ∷ before)) (sym same)
            (between_more initial ps r.stored (at_sender s call) before inv.between adds);
      }
    where
      moved : Ends initial ps next r
      moved =
          record {
            sends = sends;
            receives = inv.ends.receives;
            receiver_initial = inv.ends.receiver_initial;
            stored_good = inv.ends.stored_good;
            held_stored = held;
          }

  -- ---- a transmit

  module _ (x : Transmit) where
    abbrev o : ℕ
    o = offset_in t x.number

    abbrev p : Packet
    p = first_sent x.type x.tag x.len x.clock

    abbrev run : List Event
    run = at_sender s (transmit x) ∷ before

    abbrev qs : List (List ℕ)
    qs = ps ++ x.payload ∷ []

    -- What a transmit adds, if it is accepted.
    transmit_adds : (all : List (List ℕ)) → (accepted s x ≡ true → GoodAt initial all (carried x)) → Adds initial all r.stored (at_sender s (transmit x))
    transmit_adds all good =
        record {
          sent = same;
          out = λ d k. let z : ◌≡◌ {A = ℕ} 0 3 = ap kind_of k in absurd (omega arith);
          built = λ s' buf room a k. let z : ◌≡◌ {A = ℕ} 0 2 = ap kind_of k in absurd (omega arith);
        }
      where
        same : (s' : SentPackets) (x' : Transmit) → at_sender s (transmit x) ≡ at_sender s' (transmit x') → accepted s' x' ≡ true → GoodAt initial all (carried x')
        same s' x' k h =
            let states : s ≡ s' = cc in
            let asked : x ≡ x' = cc in
            subst (λ (y : Transmit). GoodAt initial all (carried y)) asked (good (subst₂ (λ (q : SentPackets) (y : Transmit). accepted q y ≡ true) (sym states) (sym asked) h))

    refused_case : accepted s x ≡ false → Inv b initial run
    unfolding sender_after payloads
    refused_case out =
        sender_called (transmit x) t
        (ap (λ (a : Bool). cond (a && is_first s x) qs ps) out)
        (ap tracker_of (transmit_refused s x out))
        inv.ends.sends
        inv.ends.held_stored
        (transmit_adds ps (λ h. let z : ◌≡◌ {A = ℕ} 0 1 = clash h out in absurd (omega arith)))
      where
        clash : {y : Bool} → y ≡ true → y ≡ false → ◌≡◌ {A = ℕ} 0 1
        clash e f = cc

    again_case : accepted s x ≡ true → leb o t.sent ≡ true → (is_first s x ≡ false → FirstSent (carried x) before) → Inv b initial run
    unfolding sender_after payloads sent_of
    again_case done-so old same =
        let again : is_first s x ≡ false = ap not old in
        let stays = resent_stays t o inv.ends.sends.kept in
        sender_called (transmit x) (clocked_of (resent_of t o) x.clock)
        (ap₂ (λ (a f : Bool). cond (a && f) qs ps) done-so again)
        ((transmit_accepted s x done-so).0 ∙ ap (λ (y : Bool). clocked_of (cond y (resent_of t o) (recorded_of t p)) x.clock) old)
        (sends_same initial ps t (clocked_of (resent_of t o) x.clock) stays.0 stays.1 stays.2 inv.ends.sends)
        (λ y above marked. inv.ends.held_stored y above (ap (λ (m : List Bool). get_or m (y - 1) false) (sym (marks_resent t o)) ∙ marked))
        (transmit_adds ps (λ h. inv.between.sent_good (carried x) (same again).sent))

    first_case : accepted s x ≡ true → leb o t.sent ≡ false → Inv b initial run
    unfolding sender_after receiver_after payloads sent_of
    first_case done-so new =
        let told = transmit_accepted s x done-so in
        let past : t.sent < o = leb-false o t.sent new in
        let last : offset_from initial x.number ≡ length ps + 1 = sym (offset_is x.number) ∙ omega (arith, told.2, inv.ends.sends.count) in
        let size : length qs ≡ length ps + 1 = length-append ps (x.payload ∷ []) in
        let same : payloads run ≡ qs = ap₂ (λ (a y : Bool). cond (a && not y) qs ps) done-so new in
        let next : tracker_of (sender_after b run) ≡ clocked_of (recorded_of t p) x.clock =
        told.0 ∙ ap (λ (y : Bool). clocked_of (cond y (resent_of t o) (recorded_of t p)) x.clock) new in
        let good : GoodAt initial qs (carried x) =
        record {
          least = omega arith;
          most = omega arith;
          same = ap (λ (n : ℕ). get_or qs n []) (place last) ∙ get_or-append_seam ps x.payload [] [];
        } in
        record {
          ends = subst₂ (λ (k : List (List ℕ)) (m : Tracker). Ends initial k m r) (sym same) (sym next) more;
          between =
              subst (λ (k : List (List ℕ)). Between initial k r.stored run) (sym same)
              (between_more initial qs r.stored (at_sender s (transmit x)) before
              (between-sent initial ps (x.payload ∷ []) r.stored before inv.between)
              (transmit_adds qs (λ h. good)));
        }
      where
        place : offset_from initial x.number ≡ length ps + 1 → offset_from initial x.number - 1 ≡ length ps
        place e = omega arith

        more : Ends initial qs (clocked_of (recorded_of t p) x.clock) r
        more =
            record {
              sends =
                  record {
                    initial_same = inv.ends.sends.initial_same;
                    count = omega (arith, inv.ends.sends.count, length-append ps (x.payload ∷ []));
                    kept = simp length-append (omega (arith, inv.ends.sends.kept));
                  };
              receives = inv.ends.receives;
              receiver_initial = inv.ends.receiver_initial;
              stored_good = λ y q e. good_more ps (x.payload ∷ []) y q (inv.ends.stored_good y q e);
              held_stored = λ y above marked.
                  inv.ends.held_stored y above
                  (unmarked (marks_of t) (y - 1) (ap (λ (m : List Bool). get_or m (y - 1) false) (sym (marks_recorded t p inv.ends.sends.kept)) ∙ marked));
            }

    after_transmit : (accepted s x ≡ true → is_first s x ≡ false → FirstSent (carried x) before) → Inv b initial run
    after_transmit same = by_accepted (accepted s x) refl
      where
        by_first : accepted s x ≡ true → (y : Bool) → leb o t.sent ≡ y → Inv b initial run
        by_first done-so true old = again_case done-so old (same done-so)
        by_first done-so false new = first_case done-so new

        by_accepted : (a : Bool) → accepted s x ≡ a → Inv b initial run
        by_accepted false out = refused_case out
        by_accepted true done-so = by_first done-so (leb o t.sent) refl

  -- ---- an ack is heard, a timeout

  after_hearing : (a : Acknowledgement) (delay clock : ℕ) → Built a before → Inv b initial (at_sender s (hear a delay clock) ∷ before)
  unfolding sender_after payloads
  after_hearing a delay clock made = by_heard (ack_heard s a.number a.mask delay clock)
    where
      at : ℕ
      at = offset_in t a.number

      adds : Adds initial ps r.stored (at_sender s (hear a delay clock))
      adds = adds_nothing initial ps r.stored (at_sender s (hear a delay clock)) refl

      by_heard : Heard s a.number a.mask delay clock → Inv b initial (at_sender s (hear a delay clock) ∷ before)
      by_heard (unheard same) = sender_called (hear a delay clock) t refl (ap tracker_of same) inv.ends.sends inv.ends.held_stored adds
      by_heard (heard above next) =
          let stays = ack_stays t at a.mask delay clock inv.ends.sends.kept in
          sender_called (hear a delay clock) (clocked_of (acked_by_of t at a.mask delay clock) clock) refl next
          (sends_same initial ps t (clocked_of (acked_by_of t at a.mask delay clock) clock) stays.initial stays.sent stays.kept inv.ends.sends)
          (λ x least marked.
          ⊎_elim (inv.ends.held_stored x least)
          (λ spoken. inv.between.built_stored a made x least (subst (λ (n : ℕ). Speaks n a.mask x) (offset_is a.number) spoken))
          (ack_grown t at a.mask delay clock inv.ends.sends.kept above x least marked))
          adds

  after_timeout : Inv b initial (at_sender s time_out ∷ before)
  unfolding sender_after payloads
  after_timeout = by_answer (timeout_stays s)
    where
      adds : Adds initial ps r.stored (at_sender s time_out)
      adds = adds_nothing initial ps r.stored (at_sender s time_out) refl

      by_answer : ((timeout_answer s).1 ≡ s) ⊎ (tracker_of (timeout_answer s).1 ≡ timeout_of t) → Inv b initial (at_sender s time_out ∷ before)
      by_answer (inl same) = sender_called time_out t refl (ap tracker_of same) inv.ends.sends inv.ends.held_stored adds
      by_answer (inr next) =
          sender_called time_out (timeout_of t) refl next (sends_same initial ps t (timeout_of t) refl refl inv.ends.sends.kept inv.ends.sends) inv.ends.held_stored adds

  -- ---- a datagram goes out

  after_out : (d : Datagram) → Sent d before → Inv b initial (goes_out d ∷ before)
  unfolding sender_after receiver_after payloads
  after_out d made = record { ends = inv.ends; between = between_more initial ps r.stored (goes_out d) before inv.between adds }
    where
      adds : Adds initial ps r.stored (goes_out d)
      adds =
          record {
            sent = λ s' x k. let z : ◌≡◌ {A = ℕ} 3 0 = ap kind_of k in absurd (omega arith);
            out = λ y k. let same : d ≡ y = cc in subst (GoodAt initial ps) same (inv.between.sent_good d made);
            built = λ s' buf room a k. let z : ◌≡◌ {A = ℕ} 3 2 = ap kind_of k in absurd (omega arith);
          }

  -- ---- calls of the receiver

  -- A call that changes the receiver and adds nothing.
  receiver_called :
      (call : ReceiverCall)
      → kind_of (at_receiver r.state r.bytes call) ≡ 1
      → Receives (receiver_left r call)
      → (receiver_left r call).state.initial ≡ r.state.initial
      → ((o : ℕ) (p : List ℕ) → first_stored (receiver_left r call).stored o ≡ some p → Good ps o p)
      → ((o : ℕ) → IsStored r.stored o → IsStored (receiver_left r call).stored o)
      → Inv b initial (at_receiver r.state r.bytes call ∷ before)
  unfolding sender_after receiver_after payloads
  receiver_called call kind receives first good grows =
      record {
        ends =
            record {
              sends = inv.ends.sends;
              receives = receives;
              receiver_initial = first ∙ inv.ends.receiver_initial;
              stored_good = good;
              held_stored = λ x above marked. grows x (inv.ends.held_stored x above marked);
            };
        between =
            between_more initial ps (receiver_left r call).stored (at_receiver r.state r.bytes call) before
            (between_stored initial ps r.stored (receiver_left r call).stored before grows inv.between)
            (adds_nothing initial ps (receiver_left r call).stored (at_receiver r.state r.bytes call) kind);
      }

  after_write : (d : Datagram) → Happened (goes_out d) before → Inv b initial (at_receiver r.state r.bytes (write d) ∷ before)
  after_write d came =
      receiver_called (write d) refl
      (receives_step r inv.ends.receives (Recv.write d.number d.payload))
      (write_initial r.state r.bytes d.number d.payload)
      (λ o p e. first-changed answer entry r.stored o p (Good ps o p) (inv.ends.stored_good o p) (here o p) e)
      (λ o h. stored_changed answer entry r.stored o h)
    where
      answer : Writing
      answer = answer_of r.state (length r.bytes) d.number (length d.payload)

      entry : Entry
      entry = record { offset = (offset_of d.number r.state.initial).0; payload = d.payload }

      here : (o : ℕ) (p : List ℕ) → entry.offset ≡ o → entry.payload ≡ p → Good ps o p
      here o p e f =
          let at : offset_from initial d.number ≡ o = ap (λ (i : SeqNum). (offset_of d.number i).0) (sym inv.ends.receiver_initial) ∙ e in
          subst₂ (λ (n : ℕ) (q : List ℕ). Good ps n q) at f (inv.between.out_good d came)

  after_read : (out : List ℕ) → Inv b initial (at_receiver r.state r.bytes (read out) ∷ before)
  after_read out =
      receiver_called (read out) refl
      (receives_step r inv.ends.receives (Recv.read out))
      (read_initial r.state r.bytes out)
      inv.ends.stored_good
      (λ o h. h)

  after_build : (room : List ℕ) → Inv b initial (at_receiver r.state r.bytes (build room) ∷ before)
  unfolding sender_after receiver_after payloads
  after_build room = record { ends = inv.ends; between = between_more initial ps r.stored (at_receiver r.state r.bytes (build room)) before inv.between adds }
    where
      small : r.state.initial.0 < 2 ^ 16
      small = rw inv.ends.receiver_initial fits

      says : (a : Acknowledgement) → Answers r.state room a → SpeaksTrue initial r.stored a
      says a told x above spoken =
          let well = inv.ends.receives.well in
          let at : offset_from initial a.number ≡ r.state.count =
          ap (λ (i : SeqNum). (offset_of a.number i).0) (sym inv.ends.receiver_initial) ∙ ack_offset r well room a told small in
          speaks_stored r well room a told small x above (subst (λ (n : ℕ). Speaks n a.mask x) at spoken)

      same :
          (s' : ReceiveBuffer) (buf room' : List ℕ) (a : Acknowledgement)
          → at_receiver r.state r.bytes (build room) ≡ at_receiver s' buf (build room')
          → Answers s' room' a
          → SpeaksTrue initial r.stored a
      same s' buf room' a k told =
          let states : r.state ≡ s' = cc in
          let rooms : room ≡ room' = cc in
          says a (subst₂ (λ (q : ReceiveBuffer) (m : List ℕ). Answers q m a) (sym states) (sym rooms) told)

      adds : Adds initial ps r.stored (at_receiver r.state r.bytes (build room))
      adds =
          record {
            sent = λ s' x k. let z : ◌≡◌ {A = ℕ} 2 0 = ap kind_of k in absurd (omega arith);
            out = λ d k. let z : ◌≡◌ {A = ℕ} 2 3 = ap kind_of k in absurd (omega arith);
            built = same;
          }

-- ---- the start

both_hold : (a b : Bool) → (a && b) ≡ true → (a ≡ true) × (b ≡ true)
both_hold true true e = (refl, refl)
both_hold true false e = let z : ◌≡◌ {A = ℕ} 0 1 = cc in absurd (omega arith)
both_hold false b e = let z : ◌≡◌ {A = ℕ} 0 1 = cc in absurd (omega arith)

receiver_made : (initial : SeqNum) (size : ℕ) (r : ReceiveBuffer) → created_of initial size ≡ record { answer = Made; state = r } → (1 ≤ size) × (size ≤ 65536) × (r ≡ fresh_of initial size)
receiver_made initial size r = by_test (leb 1 size && leb size 65536) refl
  where
    by_test :
        (b : Bool) → (leb 1 size && leb size 65536) ≡ b
        → cond b (record { answer = Made; state = fresh_of initial size }) (no_receiver_of initial) ≡ record { answer = Made; state = r }
        → (1 ≤ size) × (size ≤ 65536) × (r ≡ fresh_of initial size)
    by_test true t e = let range = both_hold (leb 1 size) (leb size 65536) t in (leb-true _ _ range.0, leb-true _ _ range.1, sym (ap (λ (k : Answered Creation ReceiveBuffer). k.state) e))
    by_test false t e = let f = ap (λ (k : Answered Creation ReceiveBuffer). k.answer) e in let z : ◌≡◌ {A = ℕ} 0 1 = cc in absurd (omega arith)

-- A fresh receiver goes on well, over a buffer of any length.
fresh_receives : (initial : SeqNum) (size : ℕ) (buf : List ℕ) → 1 ≤ size → size ≤ 65536 → Receives (record { state = fresh_of initial size; bytes = buf; stored = []; read = [] })
fresh_receives initial size buf least most = by_length (eqb (length buf) size) refl
  where
    sound : sound_of (fresh_of initial size) ≡ true
    sound =
        let zeros : List ℕ = replicate size 0 in
        let all : length zeros ≡ size = length-replicate size 0 in
        subst (λ (n : ℕ). sound_of (fresh_of initial n) ≡ true) all (RecvLaws.delivered initial zeros (rw all least) (rw all most) []).sound

    by_length : (b : Bool) → eqb (length buf) size ≡ b → Receives (record { state = fresh_of initial size; bytes = buf; stored = []; read = [] })
    by_length true e =
        let same : length buf ≡ size = eqb-true _ _ e in
        subst (λ (n : ℕ). Receives (record { state = fresh_of initial n; bytes = buf; stored = []; read = [] })) same
        (receives_well (fresh_run initial buf) (RecvLaws.delivered initial buf (rw same least) (rw same most) []))
    by_length false e =
        record {
          well = record { sound = sound; kept = record { in_order = refl; all_there = λ k less. absurd (omega arith); waiting = λ i. refl } };
          lengths = inr e;
        }

at_start : (b : Start) (fresh : Fresh b) → Inv b fresh.initial []
unfolding sender_after receiver_after payloads Happened
at_start b fresh =
    record {
      ends = subst₂ (λ (k : SentPackets) (q : ReceiveBuffer). Ends fresh.initial [] (tracker_of k) (record { state = q; bytes = b.buffer; stored = []; read = [] })) sender_is receiver_is ends;
      between =
          record {
            sent_good = λ d h. absurd h.happened;
            out_good = λ d h. absurd h;
            built_stored = λ a h. absurd h.happened;
          };
    }
  where
    made : (1 ≤ fresh.receiver.size) × (fresh.receiver.size ≤ 65536) × (b.receiver ≡ fresh_of fresh.initial fresh.receiver.size)
    made = receiver_made fresh.initial fresh.receiver.size b.receiver fresh.receiver.made

    sender_is : (new_answer fresh.initial fresh.sender.settings).1 ≡ b.sender
    sender_is = ap (λ (x : _). x.1) fresh.sender.made

    receiver_is : fresh_of fresh.initial fresh.receiver.size ≡ b.receiver
    receiver_is = sym made.2

    ends :
        Ends fresh.initial [] (tracker_of (new_answer fresh.initial fresh.sender.settings).1)
        (record { state = fresh_of fresh.initial fresh.receiver.size; bytes = b.buffer; stored = []; read = [] })
    ends =
        record {
          sends = record { initial_same = refl; count = refl; kept = omega arith };
          receives = fresh_receives fresh.initial fresh.receiver.size b.buffer made.0 made.1;
          receiver_initial = refl;
          stored_good = λ o p e. let z : ◌≡◌ {A = ℕ} 0 1 = cc in absurd (omega arith);
          held_stored = λ x above marked. let z : ◌≡◌ {A = ℕ} 0 1 = cc in absurd (omega arith);
        }

-- ---- every run

-- The premises hold of what happened earlier.
pub earlier : (b : Start) (e : Event) (run : List Event) → Premises b (e ∷ run) → Premises b run
unfolding Happens
earlier b e _ k =
    record {
      fresh = k.fresh;
      channel = λ s buf d before h. k.channel s buf d before (inr h);
      retransmission = λ s x before h. k.retransmission s x before (inr h);
      only_accepted = λ d before h. k.only_accepted d before (inr h);
      built = λ s a delay clock before h. k.built s a delay clock before (inr h);
      sender_goes_on = λ s call before h. k.sender_goes_on s call before (inr h);
      receiver_goes_on = λ s buf call before h. k.receiver_goes_on s buf call before (inr h);
      buffer_goes_on = λ s buf call before h. k.buffer_goes_on s buf call before (inr h);
    }

module _ (b : Start) (initial : SeqNum) (fits : initial.0 < 2 ^ 16) (run : List Event) (inv : Inv b initial run) where
  sender_step : (s : SentPackets) (call : SenderCall) → Premises b (at_sender s call ∷ run) → Inv b initial (at_sender s call ∷ run)
  unfolding Happens
  sender_step s (transmit x) k =
      subst (λ (q : SentPackets). (accepted q x ≡ true → is_first q x ≡ false → FirstSent (carried x) run) → Inv b initial (at_sender q (transmit x) ∷ run))
      (sym (k.sender_goes_on s (transmit x) run (inl (refl, refl))))
      (after_transmit b initial fits run inv x)
      (k.retransmission s x run (inl (refl, refl)))
  sender_step s (hear a delay clock) k =
      subst (λ (q : SentPackets). Inv b initial (at_sender q (hear a delay clock) ∷ run))
      (sym (k.sender_goes_on s (hear a delay clock) run (inl (refl, refl))))
      (after_hearing b initial fits run inv a delay clock (k.built s a delay clock run (inl (refl, refl))))
  sender_step s time_out k =
      subst (λ (q : SentPackets). Inv b initial (at_sender q time_out ∷ run)) (sym (k.sender_goes_on s time_out run (inl (refl, refl)))) (after_timeout b initial fits run inv)

  receiver_step : (s : ReceiveBuffer) (buf : List ℕ) (call : ReceiverCall) → Premises b (at_receiver s buf call ∷ run) → Inv b initial (at_receiver s buf call ∷ run)
  unfolding Happens
  receiver_step s buf call k =
      subst₂ (λ (q : ReceiveBuffer) (m : List ℕ). Inv b initial (at_receiver q m call ∷ run))
      (sym (k.receiver_goes_on s buf call run (inl (refl, refl))))
      (sym (k.buffer_goes_on s buf call run (inl (refl, refl))))
      (after call k)
    where
      after : (c : ReceiverCall) → Premises b (at_receiver s buf c ∷ run) → Inv b initial (at_receiver (receiver_after b run).state (receiver_after b run).bytes c ∷ run)
      after (write d) h = after_write b initial fits run inv d (h.channel s buf d run (inl (refl, refl)))
      after (read out) h = after_read b initial fits run inv out
      after (build room) h = after_build b initial fits run inv room

always : (b : Start) (run : List Event) (k : Premises b run) → Inv b k.fresh.initial run
unfolding Happens earlier
always b [] k = at_start b k.fresh
always b (at_sender s call ∷ run) k = sender_step b k.fresh.initial k.fresh.fits run (always b run (earlier b (at_sender s call) run k)) s call k
always b (at_receiver s buf call ∷ run) k = receiver_step b k.fresh.initial k.fresh.fits run (always b run (earlier b (at_receiver s buf call) run k)) s buf call k
always b (goes_out d ∷ run) k =
    after_out b k.fresh.initial k.fresh.fits run (always b run (earlier b (goes_out d) run k)) d (k.only_accepted d run (inl (refl, refl)))

-- ---- what follows

joined-first :
    (qs : List (List ℕ)) (c : ℕ) (f : ℕ → Option (List ℕ)) → c ≤ length qs → ((k : ℕ) → k < c → f k ≡ some (get_or qs k [])) → joined (tabled c f) ≡ joined_all (take c qs)
joined-first qs zero f h e = refl
joined-first [] (suc c) f h e = absurd (omega arith)
joined-first (q ∷ qs) (suc c) f h e =
    let rest = joined-first qs c (λ k. f (suc k)) (omega arith) (λ k less. e (suc k) (omega arith)) in
    ap (λ (x : Option (List ℕ)). joined (x ∷ tabled c (λ k. f (suc k)))) (e 0 (omega arith)) ∙ ap (λ (l : List ℕ). q ++ l) rest

module _ (b : Start) (initial : SeqNum) (run : List Event) (inv : Inv b initial run) where
  abbrev received : Run
  received = receiver_after b run

  abbrev c : ℕ
  c = received.state.count

  abbrev well : Well received
  well = inv.ends.receives.well

  -- What was stored under an offset is what was first sent under it.
  stored_some : (o : ℕ) → IsStored received.stored o → (o ≤ length (payloads run)) × (first_stored received.stored o ≡ some (get_or (payloads run) (o - 1) []))
  stored_some o h = by_first (first_stored received.stored o) refl
    where
      by_first : (x : Option (List ℕ)) → first_stored received.stored o ≡ x → (o ≤ length (payloads run)) × (first_stored received.stored o ≡ some (get_or (payloads run) (o - 1) []))
      by_first none e = absurd (h e)
      by_first (some p) e = let good = inv.ends.stored_good o p e in (good.most, e ∙ ap some (sym good.same))

  in_order_some : (k : ℕ) → k < c → first_stored received.stored (k + 1) ≡ some (get_or (payloads run) k [])
  in_order_some k less =
      let place : k + 1 - 1 ≡ k = omega arith in
      (stored_some (k + 1) (well.kept.all_there k less)).1 ∙ ap (λ (n : ℕ). some (get_or (payloads run) n [])) place

  among : c ≤ length (payloads run)
  among = by_count (eqb c 0) refl
    where
      by_count : (e : Bool) → eqb c 0 ≡ e → c ≤ length (payloads run)
      by_count true e = omega (arith, eqb-true c 0 e)
      by_count false e =
          let some_in : 1 ≤ c = omega (arith, eqb-false c 0 e) in
          omega (arith, (stored_some (c - 1 + 1) (well.kept.all_there (c - 1) (omega arith))).0)

  stream : stream_of received ≡ joined_all (take c (payloads run))
  stream = well.kept.in_order ∙ joined-first (payloads run) c (λ k. first_stored received.stored (k + 1)) among in_order_some

  -- Where all is acknowledged nothing is missing.
  whole_count : AllAcked (tracker_of (sender_after b run)) → c ≡ length (payloads run)
  whole_count all = by_less (ltb c (length (payloads run))) refl
    where
      by_less : (e : Bool) → ltb c (length (payloads run)) ≡ e → c ≡ length (payloads run)
      by_less true e =
          let less : c < length (payloads run) = ltb-true _ _ e in
          let marked = all (c + 1) (omega arith) (omega (arith, inv.ends.sends.count)) in
          absurd (inv.ends.held_stored (c + 1) (omega arith) marked (next_missing received well))
      by_less false e = omega (arith, ltb-false c (length (payloads run)) e, among)

-- The theorem: over any run that keeps the premises, refused calls included.
pub delivered : (b : Start) (run : List Event) → Premises b run → Delivered b run
delivered b run k =
    let inv = always b run k in
    let initial = k.fresh.initial in
    record {
      first_k = stream b initial run inv;
      among_sent = among b initial run inv;
      acknowledged_stored = λ o least marked.
          has_stored (receiver_after b run) inv.ends.receives.well o (get_or (payloads run) (o - 1) []) (stored_some b initial run inv o (inv.ends.held_stored o least marked)).1;
      all_arrived = λ all.
          stream b initial run inv ∙ ap joined_all (ap (λ (n : ℕ). take n (payloads run)) (whole_count b initial run inv all) ∙ take-length (payloads run));
    }
