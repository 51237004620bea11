-- A tracker whose packets and samples lie in arrays of integers: where each stands in them, and the state that head and arrays make up. Definitions only;
-- Laws.LentState shows that arrays of the right lengths and the lists that stand in them determine each other.
use Rattle.std.specs.Prelude.{ℕ, List, [], ◌∷◌, ◌≡◌, length, get_or, drop}
use Rattle.controller.specs.declared.delays.Sample.{Sample}
use Rattle.controller.specs.declared.delays.Delays.{Delays}
use Rattle.outgoing.specs.declared.kept.Packet.{Packet}
use Rattle.sent.specs.declared.head.Head.{Head}
use Rattle.sent.specs.declared.state.SentPackets.{SentPackets}
use Rattle.sent.specs.Whole.{whole_of}
use Rattle.sent_lent.specs.declared.columns.Columns.{Columns}
use Rattle.sent_lent.specs.declared.pairs.Pairs.{Pairs}

-- ---- packets: a time; a tag and a length; and a kind and three marks

unfoldable pub packets_in : (times sizes marks : List ℕ) → List Packet
packets_in [] sizes marks = []
packets_in (at ∷ times) sizes marks =
    record {
      sent_at = at;
      tag = get_or sizes 0 0;
      len = get_or sizes 1 0;
      kind = get_or marks 0 0;
      acked = get_or marks 1 0;
      lost = get_or marks 2 0;
      resent = get_or marks 3 0;
    }
    ∷ packets_in times (drop 2 sizes) (drop 4 marks)

unfoldable pub times_of : List Packet → List ℕ
times_of [] = []
times_of (p ∷ l) = p.sent_at ∷ times_of l

unfoldable pub sizes_of : List Packet → List ℕ
sizes_of [] = []
sizes_of (p ∷ l) = p.tag ∷ p.len ∷ sizes_of l

unfoldable pub marks_of : List Packet → List ℕ
marks_of [] = []
marks_of (p ∷ l) = p.kind ∷ p.acked ∷ p.lost ∷ p.resent ∷ marks_of l

-- ---- samples: a delay and a time

unfoldable pub samples_in : List ℕ → List Sample
samples_in [] = []
samples_in (delay ∷ []) = []
samples_in (delay ∷ at ∷ samples) = record { delay = delay; at = at } ∷ samples_in samples

unfoldable pub pairs_of : List Sample → List ℕ
pairs_of [] = []
pairs_of (s ∷ l) = s.delay ∷ s.at ∷ pairs_of l

abbrev pub delays_in : List ℕ → ℕ → Delays
delays_in samples count = record { kept = samples_in samples; count = count }

-- ---- the arrays have their lengths

pub record Places (times sizes marks : List ℕ) : Type 0 where
  pub times_512 : length times ≡ 512
  pub sizes_1024 : length sizes ≡ 1024
  pub marks_2048 : length marks ≡ 2048

-- ---- the two places

abbrev pub pairs_as : List Sample → Pairs
pairs_as l = record { pairs = pairs_of l }

abbrev pub columns_of : List Packet → Columns
columns_of l = record { times = times_of l; sizes = sizes_of l; marks = marks_of l }

-- ---- the state

abbrev pub whole_in : Head → (samples times sizes marks : List ℕ) → SentPackets
whole_in h samples times sizes marks = whole_of h (samples_in samples) (packets_in times sizes marks)
