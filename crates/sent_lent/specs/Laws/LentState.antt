-- The tracker in lent memory: the way back from the lists to the arrays, so that one equation of the whole state tells each array.
use Rattle.std.specs.Prelude.{◌≡◌, refl, true, List, [], ◌∷◌, ℕ, zero, suc, ◌*◌, ◌≤◌, leb, length, drop}
use Rattle.std.proofs.Common.{sym, ap, ◌∙◌, arith, leb-true}
use Rattle.common.specs.Answer.{Answer}
use Rattle.controller.specs.Delays.{most, list_of, kept_sound_of}
use Rattle.congestion.specs.Laws.Numbers.{both}
use Rattle.sent.specs.declared.state.SentPackets.{SentPackets}
use Rattle.sent.specs.declared.head.Head.{Head}
use Rattle.sent.specs.Whole.{headed}
use Rattle.sent_lent.specs.declared.columns.Columns.{Columns}
use Rattle.sent_lent.specs.declared.pairs.Pairs.{Pairs}
use Rattle.sent_lent.specs.Lent.{packets_in, times_of, sizes_of, marks_of, samples_in, pairs_of, pairs_as, Places, columns_of, whole_in}
use Rattle.sent.specs.State.{state_sound_of}
use Rattle.sent.specs.Laws.Sound.{state_facts}

-- A sound state keeps at most 1,024 samples.
pub samples_few : (s : SentPackets) → state_sound_of s ≡ true → s.delays.count ≤ 1024
samples_few s e =
    let d = s.delays in
    leb-true d.count most (both (leb d.count most) (kept_sound_of s.numbers.last (list_of d)) (state_facts s e).1.delays_sound).0

-- ---- the way back

pub times_back : (times sizes marks : List ℕ) → times_of (packets_in times sizes marks) ≡ times
unfolding packets_in times_of
times_back [] sizes marks = refl
times_back (at ∷ times) sizes marks = ap (λ (l : List ℕ). at ∷ l) (times_back times (drop 2 sizes) (drop 4 marks))

pub sizes_back : (times sizes marks : List ℕ) → length sizes ≡ 2 * length times → sizes_of (packets_in times sizes marks) ≡ sizes
unfolding packets_in sizes_of
sizes_back [] [] marks h = refl
sizes_back [] (tag ∷ sizes) marks h = absurd (omega arith)
sizes_back (at ∷ times) [] marks h = absurd (omega arith)
sizes_back (at ∷ times) (tag ∷ []) marks h = absurd (omega arith)
sizes_back (at ∷ times) (tag ∷ len ∷ sizes) marks h = ap (λ (l : List ℕ). tag ∷ len ∷ l) (sizes_back times sizes (drop 4 marks) (omega arith))

pub marks_back : (times sizes marks : List ℕ) → length marks ≡ 4 * length times → marks_of (packets_in times sizes marks) ≡ marks
unfolding packets_in marks_of
marks_back [] sizes [] h = refl
marks_back [] sizes (kind ∷ marks) h = absurd (omega arith)
marks_back (at ∷ times) sizes [] h = absurd (omega arith)
marks_back (at ∷ times) sizes (kind ∷ []) h = absurd (omega arith)
marks_back (at ∷ times) sizes (kind ∷ acked ∷ []) h = absurd (omega arith)
marks_back (at ∷ times) sizes (kind ∷ acked ∷ lost ∷ []) h = absurd (omega arith)
marks_back (at ∷ times) sizes (kind ∷ acked ∷ lost ∷ resent ∷ marks) h =
    ap (λ (l : List ℕ). kind ∷ acked ∷ lost ∷ resent ∷ l) (marks_back times (drop 2 sizes) marks (omega arith))

pub pairs_back : (n : ℕ) (samples : List ℕ) → length samples ≡ 2 * n → pairs_of (samples_in samples) ≡ samples
unfolding samples_in pairs_of
pairs_back n [] h = refl
pairs_back zero (delay ∷ samples) h = absurd (omega arith)
pairs_back (suc n) (delay ∷ []) h = absurd (omega arith)
pairs_back (suc n) (delay ∷ at ∷ samples) h = ap (λ (l : List ℕ). delay ∷ at ∷ l) (pairs_back n samples (omega arith))

-- Arrays of the right lengths are those of the samples and of the packets that stand in them.
pub pairs_are : (s : Pairs) → length s.pairs ≡ 2048 → pairs_as (samples_in s.pairs) ≡ s
pairs_are s long = ap (λ (l : List ℕ). record { pairs = l }) (pairs_back 1024 s.pairs long)

pub columns_back : (c : Columns) → Places c.times c.sizes c.marks → columns_of (packets_in c.times c.sizes c.marks) ≡ c
columns_back c p = λ i.
    record {
      times = times_back c.times c.sizes c.marks i;
      sizes = sizes_back c.times c.sizes c.marks (omega (arith, p.times_512, p.sizes_1024)) i;
      marks = marks_back c.times c.sizes c.marks (omega (arith, p.times_512, p.marks_2048)) i;
    }

-- What one equation of the answer and the whole state says of the head and of each array.
module _ (o : Answer (Unit {0})) (h : Head) (samples times sizes marks : List ℕ) (p : Places times sizes marks) (x : Answer (Unit {0}) × SentPackets)
    (e : (o, whole_in h samples times sizes marks) ≡ x) where
  pub headed_is : (o, h) ≡ headed x
  headed_is = ap headed e

  pub times_are : times ≡ times_of x.1.packets
  times_are = sym (times_back times sizes marks) ∙ ap (λ (y : Answer (Unit {0}) × SentPackets). times_of y.1.packets) e

  pub sizes_are : sizes ≡ sizes_of x.1.packets
  sizes_are = sym (sizes_back times sizes marks (omega (arith, p.times_512, p.sizes_1024))) ∙ ap (λ (y : Answer (Unit {0}) × SentPackets). sizes_of y.1.packets) e

  pub marks_are : marks ≡ marks_of x.1.packets
  marks_are = sym (marks_back times sizes marks (omega (arith, p.times_512, p.marks_2048))) ∙ ap (λ (y : Answer (Unit {0}) × SentPackets). marks_of y.1.packets) e

  pub samples_are : length samples ≡ 2048 → samples ≡ pairs_of x.1.delays.kept
  samples_are l = sym (pairs_back 1024 samples (omega (arith, l))) ∙ ap (λ (y : Answer (Unit {0}) × SentPackets). pairs_of y.1.delays.kept) e
