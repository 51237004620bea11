-- Sequence numbers and offsets (document 01, "Sent packets" and "Receiving"). Definitions only.
use Rattle.std.specs.Prelude.{ℕ, zero, suc, ◌+◌, ◌-◌, ◌%◌, ◌^◌, Bool, true, false, cond, List, [], ◌∷◌, ◌==◌, nat_le}
use Rattle.seq.specs.declared.SeqNum.{SeqNum}
use Rattle.seq.specs.declared.Offset.{Offset}
use Rattle.seq.specs.declared.CircularRangeInclusive.{CircularRangeInclusive}
use Rattle.seq.specs.declared.Step.{Step}
use Rattle.seq.specs.declared.Step.TheVariants.{Item, Done}

-- the number that lies n past s, modulo 65,536
abbrev pub plus_of : SeqNum → ℕ → SeqNum
plus_of s n = record { 0 = (s.0 + n) % 2 ^ 16 }

-- offset = number - initial, modulo 65,536
abbrev pub offset_of : SeqNum → SeqNum → Offset
offset_of s initial = record { 0 = (s.0 + (2 ^ 16 - initial.0)) % 2 ^ 16 }

-- The numbers from start up to end, both among them, of which none was handed out yet.
abbrev pub range_of : SeqNum → SeqNum → CircularRangeInclusive
range_of start end = record { start = start; end = end; exhausted = false }

-- A number is among them if it lies no further past the start than the end does.
abbrev pub contains_of : SeqNum → SeqNum → SeqNum → Bool
contains_of start end item = nat_le (offset_of item start).0 (offset_of end start).0

-- A step of the walk upward: the start, and then the rest, until the end was handed out.
abbrev pub next_of : CircularRangeInclusive → Step
next_of r =
    cond r.exhausted
    Done
    (cond (r.start.0 == r.end.0)
    (Item r.end (record { start = r.start; end = r.end; exhausted = true }))
    (Item r.start (record { start = plus_of r.start 1; end = r.end; exhausted = false })))

-- The inclusive walk upward modulo 65,536: a number and then each of the next `more`.
abbrev pub walk : SeqNum → ℕ → List SeqNum
walk s zero = s ∷ []
walk s (suc more) = s ∷ walk (plus_of s 1) more

-- What a range has still to hand out.
abbrev pub walk_of : CircularRangeInclusive → List SeqNum
walk_of r = cond r.exhausted [] (walk r.start (offset_of r.end r.start).0)
