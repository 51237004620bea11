-- The tracker in parts: what its arrays hold is what stands in the state, and what a call leaves of them.
use Rattle.std.specs.Prelude.{◌≡◌, refl, Bool, true, false, cond, List, ◌∷◌, ℕ, zero, suc, ◌*◌, length, replicate}
use Rattle.std.proofs.Common.{sym, ap, subst, ◌∙◌, arith}
use Rattle.common.specs.Answer.{Answer, done, refused}
use Rattle.packet.specs.Kind.{type_answer}
use Rattle.packet.specs.declared.kind.PacketType.{PacketType}
use Rattle.seq.specs.declared.SeqNum.{SeqNum}
use Rattle.congestion.specs.declared.settings.Settings.{Settings}
use Rattle.controller.specs.Delays.{no_sample}
use Rattle.outgoing.specs.Tracker.{no_packet}
use Rattle.sent.specs.declared.head.Head.{Head}
use Rattle.sent.specs.declared.state.SentPackets.{SentPackets}
use Rattle.sent.specs.State.{fresh_of, new_answer, state_sound_of, timeout_answer, transmit_answer}
use Rattle.sent.specs.Whole.{head_of, headed}
use Rattle.sent.specs.Laws.Leaves.{timeout_delays, timeout_packets, transmit_delays}
use Rattle.sent_lent.specs.declared.columns.Columns.{Columns}
use Rattle.sent_lent.specs.declared.pairs.Pairs.{Pairs}
use Rattle.sent_lent.specs.Lent.{Places, samples_in, packets_in, columns_of, pairs_as, times_of, sizes_of, marks_of, pairs_of, whole_in}
use Rattle.sent_lent.specs.Laws.LentState.{pairs_are, columns_back, pairs_back, times_back, sizes_back, marks_back}
use Rattle.ribsaddle.specs.Answer.{number_of}
use Rattle.ribsaddle.specs.Tracker.{Heading, Sized, Tracking, created_as, heading_as, heading_of, parts_of, started_as, started_with, timeout_of, tracking_of, transmit_as, transmit_of, whole_of}
use Rattle.ribsaddle.specs.declared.tracker.Tracker.{Tracker}

-- ---- a new tracker's arrays hold zeros

pub times_none : (n : ℕ) → times_of (replicate n no_packet) ≡ replicate n 0
unfolding times_of
times_none zero = refl
times_none (suc n) = ap (λ (l : List ℕ). 0 ∷ l) (times_none n)

pub sizes-none : (n : ℕ) → sizes_of (replicate n no_packet) ≡ replicate (2 * n) 0
unfolding sizes_of
sizes-none zero = refl
sizes-none (suc n) = let e : suc (suc (2 * n)) ≡ 2 * suc n = omega arith in ap (λ (l : List ℕ). 0 ∷ 0 ∷ l) (sizes-none n) ∙ ap (λ (k : ℕ). replicate k 0) e

pub marks-none : (n : ℕ) → marks_of (replicate n no_packet) ≡ replicate (4 * n) 0
unfolding marks_of
marks-none zero = refl
marks-none (suc n) = let e : suc (suc (suc (suc (4 * n)))) ≡ 4 * suc n = omega arith in ap (λ (l : List ℕ). 0 ∷ 0 ∷ 0 ∷ 0 ∷ l) (marks-none n) ∙ ap (λ (k : ℕ). replicate k 0) e

pub pairs_none : (n : ℕ) → pairs_of (replicate n no_sample) ≡ replicate (2 * n) 0
unfolding pairs_of
pairs_none zero = refl
pairs_none (suc n) = let e : suc (suc (2 * n)) ≡ 2 * suc n = omega arith in ap (λ (l : List ℕ). 0 ∷ 0 ∷ l) (pairs_none n) ∙ ap (λ (k : ℕ). replicate k 0) e

pub fresh_parts : (initial : SeqNum) (settings : Settings) → parts_of (fresh_of initial settings) ≡ started_with (head_of (fresh_of initial settings))
fresh_parts initial settings = λ i.
    record {
      head = head_of (fresh_of initial settings);
      samples = record { pairs = pairs_none 1024 i };
      packets = record { times = times_none 512 i; sizes = sizes-none 512 i; marks = marks-none 512 i };
    }

pub started : (old : Tracker) (initial : SeqNum) (settings : Settings) → started_as old (headed (new_answer initial settings)) ≡ created_as old (new_answer initial settings)
started old initial settings = by_answer (new_answer initial settings).0
  where
    by_answer : (a : Answer (Unit {0})) → started_as old (a, head_of (fresh_of initial settings)) ≡ created_as old (a, fresh_of initial settings)
    by_answer (done u) = ap (λ (t : Tracker). record { answer = 0; state = t }) (sym (fresh_parts initial settings))
    by_answer (refused n) = refl

-- ---- what a call leaves

-- Head, samples and packets as the parts of one state.
pub parts_are : (s : SentPackets) (h : Head) (samples : Pairs) (packets : Columns) → h ≡ head_of s → samples ≡ pairs_as s.delays.kept → packets ≡ columns_of s.packets
    → ◌≡◌ {A = Tracker} (record { head = h; samples = samples; packets = packets }) (parts_of s)
parts_are s h samples packets e held lie = λ i. record { head = e i; samples = held i; packets = lie i }

-- A tracker in memory is the parts of the state that it makes up, so a call that hands this state back, as a refusal does, leaves every place of the arrays.
pub parts_whole : (t : Tracker) → Sized t.samples.pairs t.packets.times t.packets.sizes t.packets.marks → parts_of (whole_of t) ≡ t
parts_whole t sized = sym (parts_are (whole_of t) t.head t.samples t.packets refl (sym (pairs_are t.samples sized.0)) (sym (columns_back t.packets sized.1)))

-- A known type goes to the tracker.
pub known_left : (t : Tracker) (number kind tag len clock : ℕ) (type : PacketType) → done type ≡ type_answer kind → (n : ℕ) (h : Head) (packets : Columns)
    → n ≡ number_of (transmit_answer (whole_of t) (record { 0 = number }) type tag len clock).0
    → h ≡ head_of (transmit_answer (whole_of t) (record { 0 = number }) type tag len clock).1
    → t.samples ≡ pairs_as (transmit_answer (whole_of t) (record { 0 = number }) type tag len clock).1.delays.kept
    → packets ≡ columns_of (transmit_answer (whole_of t) (record { 0 = number }) type tag len clock).1.packets
    → (n ≡ (transmit_of (whole_of t) number kind tag len clock).answer)
    × (◌≡◌ {A = Tracker} (record { head = h; samples = t.samples; packets = packets }) (parts_of (transmit_of (whole_of t) number kind tag len clock).state))
unfolding transmit_of
known_left t number kind tag len clock type known n h packets a e held lie =
    subst
    (λ (x : Answer PacketType). (n ≡ number_of (transmit_as (whole_of t) number x tag len clock).0)
    × (◌≡◌ {A = Tracker} (record { head = h; samples = t.samples; packets = packets }) (parts_of (transmit_as (whole_of t) number x tag len clock).1)))
    known
    (a, parts_are (transmit_answer (whole_of t) (record { 0 = number }) type tag len clock).1 h t.samples packets e held lie)

-- A type above 4 is refused with 2, behind 19, and nothing is changed.
pub unknown_left : (t : Tracker) (number kind tag len clock : ℕ) → refused 2 ≡ type_answer kind → (n : ℕ) (b : Bool) → b ≡ state_sound_of (whole_of t) → n ≡ cond b 2 19
    → pairs_as (samples_in t.samples.pairs) ≡ t.samples → columns_of (packets_in t.packets.times t.packets.sizes t.packets.marks) ≡ t.packets
    → (n ≡ (transmit_of (whole_of t) number kind tag len clock).answer) × (t ≡ parts_of (transmit_of (whole_of t) number kind tag len clock).state)
unfolding transmit_of
unknown_left t number kind tag len clock known n b sound e held lie =
    let s = whole_of t in
    subst (λ (x : Answer PacketType). (n ≡ number_of (transmit_as s number x tag len clock).0) × (t ≡ parts_of (transmit_as s number x tag len clock).1)) known (
      e ∙ by_test b ∙ ap (λ (c : Bool). number_of {A = Unit {0}} (cond c (refused 2) (refused 19))) sound,
      parts_are s t.head t.samples t.packets refl (sym held) (sym lie),
    )
  where
    by_test : (c : Bool) → cond c 2 19 ≡ number_of {A = Unit {0}} (cond c (refused 2) (refused 19))
    by_test true = refl
    by_test false = refl

-- ---- a new tracker

pub created_done : (old : Tracker) (a : Answer (Unit {0}) × SentPackets) → a.0 ≡ done tt → created_as old a ≡ record { answer = 0; state = parts_of a.1 }
created_done old a e = ap (λ (x : Answer (Unit {0})). created_as old (x, a.1)) e

pub created_refused : (old : Tracker) (a : Answer (Unit {0}) × SentPackets) (n : ℕ) → a.0 ≡ refused n → created_as old a ≡ record { answer = n; state = old }
created_refused old a n e = ap (λ (x : Answer (Unit {0})). created_as old (x, a.1)) e

-- ---- what a call leaves of each array

sizes_fit : {times sizes marks : List ℕ} → Places times sizes marks → length sizes ≡ 2 * length times
sizes_fit p = p.sizes_1024 ∙ sym (ap (λ (n : ℕ). 2 * n) p.times_512)

marks_fit : {times sizes marks : List ℕ} → Places times sizes marks → length marks ≡ 4 * length times
marks_fit p = p.marks_2048 ∙ sym (ap (λ (n : ℕ). 4 * n) p.times_512)

-- The answer and the head beside it, and the arrays on exit, are the definition's.
abbrev pub Left : Heading → (samples times sizes marks : List ℕ) → Tracking → Type 0
Left r samples times sizes marks t =
    (r ≡ heading_of t) × (samples ≡ pairs_of t.state.delays.kept) × (times ≡ times_of t.state.packets) × (sizes ≡ sizes_of t.state.packets) × (marks ≡ marks_of t.state.packets)

-- A call after which packets and samples stand as they did leaves the arrays.
pub left_alone : (h : Head) (samples times sizes marks : List ℕ) → length samples ≡ 2048 → Places times sizes marks → (r : Heading) (t : Tracking)
    → r ≡ heading_of t → t.state.delays ≡ (whole_in h samples times sizes marks).delays → t.state.packets ≡ packets_in times sizes marks → Left r samples times sizes marks t
left_alone h samples times sizes marks k places r t e d p = (
  e,
  sym (ap (λ x. pairs_of x.kept) d ∙ pairs_back 1024 samples k),
  sym (ap times_of p ∙ times_back times sizes marks),
  sym (ap sizes_of p ∙ sizes_back times sizes marks (sizes_fit places)),
  sym (ap marks_of p ∙ marks_back times sizes marks (marks_fit places)),
)

-- ---- a timeout

pub left_timed_out : (h : Head) (samples times sizes marks : List ℕ) → length samples ≡ 2048 → Places times sizes marks → (r : Heading)
    → r ≡ heading_as (headed (timeout_answer (whole_in h samples times sizes marks))) → Left r samples times sizes marks (timeout_of (whole_in h samples times sizes marks))
unfolding timeout_of
left_timed_out h samples times sizes marks k places r e =
    left_alone h samples times sizes marks k places r (tracking_of (timeout_answer (whole_in h samples times sizes marks))) e (timeout_delays (whole_in h samples times sizes marks)) (timeout_packets (whole_in h samples times sizes marks))

-- ---- a transmit

-- A type above 4 is refused, and nothing is changed.
pub left_unknown : (h : Head) (samples times sizes marks : List ℕ) → length samples ≡ 2048 → Places times sizes marks → (number kind tag len clock : ℕ) → refused 2 ≡ type_answer kind → (n : ℕ) (b : Bool)
    → b ≡ state_sound_of (whole_in h samples times sizes marks) → n ≡ cond b 2 19
    → Left (record { answer = n; head = h }) samples times sizes marks (transmit_of (whole_in h samples times sizes marks) number kind tag len clock)
unfolding transmit_of
left_unknown h samples times sizes marks k places number kind tag len clock known n b sound e =
    let s = whole_in h samples times sizes marks in
    subst (λ (a : Answer PacketType). Left (record { answer = n; head = h }) samples times sizes marks (tracking_of (transmit_as s number a tag len clock))) known
    (left_alone h samples times sizes marks k places (record { answer = n; head = h }) (tracking_of (transmit_as s number (refused 2) tag len clock))
    (ap (λ (m : ℕ). record { answer = m; head = h }) (e ∙ by_test b ∙ ap (λ (t : Bool). number_of {A = Unit {0}} (cond t (refused 2) (refused 19))) sound)) refl refl)
  where
    by_test : (t : Bool) → cond t 2 19 ≡ number_of {A = Unit {0}} (cond t (refused 2) (refused 19))
    by_test true = refl
    by_test false = refl

-- A transmit leaves the samples.
pub left_transmitted : (h : Head) (samples times sizes marks : List ℕ) → length samples ≡ 2048 → (number kind tag len clock : ℕ) (type : PacketType) → done type ≡ type_answer kind → (r : Heading) (times₁ sizes₁ marks₁ : List ℕ)
    → r ≡ heading_as (headed (transmit_answer (whole_in h samples times sizes marks) (record { 0 = number }) type tag len clock))
    → times₁ ≡ times_of (transmit_answer (whole_in h samples times sizes marks) (record { 0 = number }) type tag len clock).1.packets
    → sizes₁ ≡ sizes_of (transmit_answer (whole_in h samples times sizes marks) (record { 0 = number }) type tag len clock).1.packets
    → marks₁ ≡ marks_of (transmit_answer (whole_in h samples times sizes marks) (record { 0 = number }) type tag len clock).1.packets
    → Left r samples times₁ sizes₁ marks₁ (transmit_of (whole_in h samples times sizes marks) number kind tag len clock)
unfolding transmit_of
left_transmitted h samples times sizes marks k number kind tag len clock type known r times₁ sizes₁ marks₁ e et es em =
    let s = whole_in h samples times sizes marks in
    subst (λ (a : Answer PacketType). Left r samples times₁ sizes₁ marks₁ (tracking_of (transmit_as s number a tag len clock))) known
    (e, sym (ap (λ d. pairs_of d.kept) (transmit_delays s (record { 0 = number }) type tag len clock) ∙ pairs_back 1024 samples k), et, es, em)
