-- The soundness test: what it finds by parts, and what it says of a state that passes it.
use Rattle.std.specs.Prelude.{◌≡◌, refl, Bool, true, false, ◌&&◌, ◌||◌, not, cond, List, [], ◌∷◌, ℕ, suc, ◌≤◌, leb, eqb, length, take, get_or}
use Rattle.std.proofs.Common.{sym, ap, ◌∙◌, arith, le-leb, leb-true, eqb-true, eq-eqb, ne_eqb}
use Rattle.congestion.specs.Laws.Numbers.{both, and_of}
use Rattle.outgoing.specs.Read.{some_unacked, told_of}
use Rattle.outgoing.specs.Laws.Told.{told_alike}
use Rattle.congestion.specs.Numbers.{sound_of}
use Rattle.controller.specs.Delays.{delays_sound_of}
use Rattle.outgoing.specs.declared.kept.Packet.{Packet}
use Rattle.sent.specs.declared.state.SentPackets.{SentPackets}
use Rattle.outgoing.specs.Loss.{is_unacked}
use Rattle.outgoing.specs.Tracker.{Tracker, places, most_sent, no_packet}
use Rattle.common.specs.Answer.{Answer, done, refused}
use Rattle.outgoing.specs.Sound.{starts_unacked, packets_sound_of, in_flight_of, tracker_sound_of}
use Rattle.sent.specs.State.{tracker_of, state_sound_of, when_state_sound, read_of}
use Rattle.sent.specs.Laws.Kept.{kept_length, starts_at_first}

-- the test of its parts
abbrev parts : ℕ → ℕ → ℕ → Bool → Bool → Bool → Bool → ℕ → Bool
parts flight sent live numbers delays starts packets sum =
    leb live sent && leb sent most_sent && numbers && delays && starts && packets && eqb sum flight

parts_agree : (flight sent : ℕ) {l l' : ℕ} {n n' d d' s s' p p' : Bool} {f f' : ℕ} → l ≡ l' → n ≡ n' → d ≡ d' → s ≡ s' → p ≡ p' → f ≡ f'
    → parts flight sent l n d s p f ≡ parts flight sent l' n' d' s' p' f'
parts_agree flight sent a b c d e g = cc

pub sound_by_parts : (s : SentPackets) (numbers delays first packets : Bool) (sum : ℕ) → s.live ≤ places → s.live ≤ length s.packets
    → numbers ≡ sound_of s.numbers → delays ≡ delays_sound_of s.numbers.last s.delays → first ≡ is_unacked (get_or s.packets 0 no_packet)
    → packets ≡ packets_sound_of s.numbers.last (take s.live s.packets) → sum ≡ in_flight_of (take s.live s.packets)
    → parts s.numbers.in_flight s.count s.live numbers delays (eqb s.live 0 || first) packets sum ≡ state_sound_of s
unfolding tracker_sound_of state_sound_of
sound_by_parts s numbers delays first packets sum h k n d f p i =
    parts_agree s.numbers.in_flight s.count (sym (kept_length s.packets s.live k)) n d
    (ap (λ (t : Bool). eqb s.live 0 || t) f ∙ sym (starts_at_first s.packets s.live k)) p i
    ∙ sym (ap (λ (t : Bool). t && tracker_sound_of (tracker_of s)) (le-leb s.live places h))

-- 19 before everything.
pub read_sound : {A : Type 0} (s : SentPackets) (f : Tracker → A) → state_sound_of s ≡ true → read_of s f ≡ done (f (tracker_of s))
read_sound s f e = ap (λ (t : Bool). cond t (done (f (tracker_of s))) (refused 19)) e

-- A question is answered by whether the state is sound and by what is read of a sound one.
pub read_told : {A : Type 0} (s : SentPackets) (f : Tracker → A) (b : Bool) (a : A) → b ≡ state_sound_of s → (state_sound_of s ≡ true → a ≡ f (tracker_of s)) → told_of b a ≡ read_of s f
read_told s f b a e same = ap (λ (t : Bool). told_of t a) e ∙ told_alike (state_sound_of s) a (f (tracker_of s)) same

pub unsound_refused : {A : Type 0} (s : SentPackets) (a : Answer A) → state_sound_of s ≡ false → when_state_sound s a ≡ refused 19
unsound_refused s a e = ap (λ (t : Bool). cond t a (refused 19)) e

pub sound_answered : {A : Type 0} (s : SentPackets) (a : Answer A) → state_sound_of s ≡ true → when_state_sound s a ≡ a
sound_answered s a e = ap (λ (t : Bool). cond t a (refused 19)) e

-- ---- what it says

pub record SoundTracker (t : Tracker) : Type 0 where
  pub kept_of_sent : length t.packets ≤ t.sent
  pub sent_to : t.sent ≤ most_sent
  pub numbers_sound : sound_of t.numbers ≡ true
  pub delays_sound : delays_sound_of t.numbers.last t.delays ≡ true
  pub starts : starts_unacked t.packets ≡ true
  pub packets_sound : packets_sound_of t.numbers.last t.packets ≡ true
  pub in_flight_is_sum : in_flight_of t.packets ≡ t.numbers.in_flight

pub tracker_facts : (t : Tracker) → tracker_sound_of t ≡ true → SoundTracker t
unfolding tracker_sound_of
tracker_facts t e =
    let f = both _ (eqb (in_flight_of t.packets) t.numbers.in_flight) e in
    let p = both _ (packets_sound_of t.numbers.last t.packets) f.0 in
    let s = both _ (starts_unacked t.packets) p.0 in
    let d = both _ (delays_sound_of t.numbers.last t.delays) s.0 in
    let n = both _ (sound_of t.numbers) d.0 in
    let m = both _ (leb t.sent most_sent) n.0 in
    record {
      kept_of_sent = leb-true _ _ m.0;
      sent_to = leb-true _ _ m.1;
      numbers_sound = n.1;
      delays_sound = d.1;
      starts = s.1;
      packets_sound = p.1;
      in_flight_is_sum = eqb-true _ _ f.1;
    }

pub tracker_from : (t : Tracker) → SoundTracker t → tracker_sound_of t ≡ true
unfolding tracker_sound_of
tracker_from t s =
    and_of _ _ (and_of _ _ (and_of _ _ (and_of _ _ (and_of _ _ (and_of _ _ (le-leb _ _ s.kept_of_sent) (le-leb _ _ s.sent_to)) s.numbers_sound) s.delays_sound) s.starts)
    s.packets_sound)
    (eq-eqb _ _ s.in_flight_is_sum)

pub state_facts : (s : SentPackets) → state_sound_of s ≡ true → (s.live ≤ places) × SoundTracker (tracker_of s)
unfolding state_sound_of
state_facts s e = let b = both (leb s.live places) (tracker_sound_of (tracker_of s)) e in (leb-true _ _ b.0, tracker_facts (tracker_of s) b.1)

pub state_from : (s : SentPackets) → s.live ≤ places → SoundTracker (tracker_of s) → state_sound_of s ≡ true
unfolding state_sound_of
state_from s h t = and_of (leb s.live places) (tracker_sound_of (tracker_of s)) (le-leb _ _ h) (tracker_from (tracker_of s) t)

-- The counts of a sound state, in the state's own words.
abbrev pub CountsOf : SentPackets → Type 0
CountsOf s = (s.live ≤ places) × (s.live ≤ s.count) × (s.count ≤ most_sent) × (length (take s.live s.packets) ≡ s.live)

pub state_counts : (s : SentPackets) → state_sound_of s ≡ true → length s.packets ≡ places → CountsOf s
state_counts s e full =
    let f = state_facts s e in
    let len = kept_length s.packets s.live (omega (arith, f.0)) in
    (f.0, omega (arith, len, f.1.kept_of_sent), f.1.sent_to, len)

-- One kept packet starts unacknowledged, so where one is kept one is unacknowledged.
pub some_unacked_lem : (l : List Packet) → starts_unacked l ≡ true → some_unacked l ≡ not (eqb (length l) 0)
unfolding some_unacked
some_unacked_lem [] e = refl
some_unacked_lem (p ∷ l) e = simp (e, ne_eqb (suc (length l)) 0 (λ z. omega arith))
