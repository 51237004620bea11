-- The kept delay samples (document 01, "A newly acknowledged packet", 1). Definitions only.
use Rattle.std.specs.Prelude.{ℕ, suc, ◌+◌, ◌-◌, Bool, true, false, ◌&&◌, cond, List, [], ◌∷◌, ◌++◌, leb, ltb, eqb, length, take, drop, replicate}
use Rattle.controller.specs.declared.delays.Sample.{Sample}
use Rattle.controller.specs.declared.delays.Delays.{Delays}
use Rattle.congestion.specs.Settings.{latest}

-- ---- lists

-- Drop from the front all that pass the test.
abbrev pub drop_front : (Sample → Bool) → List Sample → List Sample
drop_front p [] = []
drop_front p (x ∷ l) = cond (p x) (drop_front p l) (x ∷ l)

-- x before what is kept behind it. Only where nothing is may x be dropped too.
abbrev pub onto : Bool → Sample → List Sample → List Sample
onto true x [] = []
onto false x [] = x ∷ []
onto t x (y ∷ l) = x ∷ y ∷ l

-- Drop from the back all that pass the test.
abbrev pub drop_back : (Sample → Bool) → List Sample → List Sample
drop_back p [] = []
drop_back p (x ∷ l) = onto (p x) x (drop_back p l)

-- ---- the rule

-- At most 1,024 samples are kept.
abbrev pub most : ℕ
most = 1024

-- now is at or past the sample's time plus the delay window
abbrev pub expired_of : ℕ → ℕ → Sample → Bool
expired_of window clock s = leb (s.at + window) clock

-- its delay is not smaller than the new one
abbrev pub not_smaller_of : ℕ → Sample → Bool
not_smaller_of delay s = leb delay s.delay

-- What remains: drop from the front all that are expired; drop from the back all whose delay is not smaller than the new one.
unfoldable pub remaining_of : ℕ → ℕ → ℕ → List Sample → List Sample
remaining_of window delay clock l = drop_back (not_smaller_of delay) (drop_front (expired_of window clock) l)

-- If 1,024 remain, drop the last.
unfoldable pub room_of : List Sample → List Sample
room_of l = cond (eqb (length l) most) (take (most - 1) l) l

-- Take the sample (delay, now): append it to those that remain.
unfoldable pub take_of : ℕ → ℕ → ℕ → List Sample → List Sample
take_of window delay clock l = room_of (remaining_of window delay clock l) ++ record { delay = delay; at = clock } ∷ []

-- Base delay is the first; 0 where none is kept.
abbrev pub base_of : List Sample → ℕ
base_of [] = 0
base_of (s ∷ l) = s.delay

-- ---- in the state

-- Samples that lie in order, of which so many are kept.
abbrev pub delays_of : List Sample → ℕ → Delays
delays_of kept count = record { kept = kept; count = count }

-- The list stands at the front of the array.
abbrev pub list_of : Delays → List Sample
list_of d = take d.count d.kept

abbrev pub no_sample : Sample
no_sample = record { delay = 0; at = 0 }

abbrev pub no_delays : Delays
no_delays = record { kept = replicate most no_sample; count = 0 }

-- A new list is written over the front of the old array, and what stands past it is left as it was.
abbrev pub written_of : Delays → List Sample → Delays
written_of d l = record { kept = l ++ drop (length l) d.kept; count = length l }

-- More than 1,024 are never kept: such a value is handed back as it came.
abbrev pub taken_of : Delays → ℕ → ℕ → ℕ → Delays
taken_of d delay clock window = cond (leb d.count most) (written_of d (take_of window delay clock (list_of d))) d

-- ---- the soundness test: delays rise and times do not fall from each to the next, up to 2^50 and the last accepted now

abbrev pub delay_below : List Sample → ℕ
delay_below [] = suc latest
delay_below (s ∷ l) = s.delay

abbrev pub time_by : ℕ → List Sample → ℕ
time_by last [] = last
time_by last (s ∷ l) = s.at

abbrev pub kept_sound_of : ℕ → List Sample → Bool
kept_sound_of last [] = true
kept_sound_of last (s ∷ l) = ltb s.delay (delay_below l) && leb s.at (time_by last l) && kept_sound_of last l

abbrev pub delays_sound_of : ℕ → Delays → Bool
delays_sound_of last d = leb d.count most && kept_sound_of last (list_of d)

-- ---- the same in places of the array, for the functions that do a part of the work

-- `left` samples from `first` on, moved down over the front
abbrev pub moved_down_of : Delays → ℕ → ℕ → Delays
moved_down_of d first left = record { kept = take left (drop first d.kept) ++ drop left d.kept; count = d.count }

abbrev pub room_count_of : ℕ → ℕ
room_count_of left = cond (eqb left most) (most - 1) left
