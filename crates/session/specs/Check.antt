-- What the check of a file hands on: how many events there are, and the place from which the SACK bytes run to the end. Definitions only.
use Rattle.std.specs.Prelude.{ℕ, ◌+◌, ◌*◌, ◌-◌, cond, List, length, Option, Some, None}
use Rattle.common.specs.Answer.{Answer, done, refused}
use Rattle.session.specs.declared.check.Layout.{Layout}
use Rattle.session.specs.declared.event.Event.{Event}
use Rattle.session.specs.Format.{setting_count, setting_size, event_size, all_known, sack_total, Session, session_of, ◌into◌}

abbrev pub checked : Option Layout → Answer Layout
checked None = refused 20
checked (Some l) = done l

-- How many SACK bytes events use up in all, where each of them is known.
abbrev pub known_total : List Event → Option ℕ
known_total es = cond (all_known es) (Some (sack_total es)) None

-- The place of an event: behind the settings' section and the events' count.
abbrev pub event_place : ℕ → ℕ
event_place index = 4 + setting_size * setting_count + 4 + event_size * index

abbrev pub layout_in : List ℕ → Session → Layout
layout_in file s = record { count = length s.events; sack_at = length file - length s.sack }

unfoldable pub check_of : List ℕ → Answer Layout
check_of file = session_of file into λ s. done (layout_in file s)
