-- An ack in places of the array, for the functions that do a part of the work: the base delay is worked out before, and the steps are counted. Definitions only;
-- Laws.Hear shows that they come to what document 01 says (Ack.antt).
use Rattle.std.specs.Prelude.{ℕ, zero, suc, ◌+◌, ◌-◌, Bool, true, false, ◌&&◌, cond, List, [], ◌∷◌, ◌++◌, leb, ltb, eqb, get_or, set, take, drop}
use Rattle.packet.specs.Sack.{bit_of}
use Rattle.congestion.specs.declared.numbers.Numbers.{Numbers}
use Rattle.outgoing.specs.declared.kept.Packet.{Packet}
use Rattle.outgoing.specs.declared.ack.Ack.{Ack}
use Rattle.outgoing.specs.declared.ack.Heard.{Heard}
use Rattle.outgoing.specs.declared.ack.Run.{Run}
use Rattle.outgoing.specs.Loss.{is_unacked, loss_marked_of, loss_counted_of}
use Rattle.outgoing.specs.Tracker.{no_packet}
use Rattle.outgoing.specs.Ack.{with_acked, credited_by}

abbrev pub keeps_of : Ack → ℕ → Bool
keeps_of a o = ltb a.gone o && leb o a.count

abbrev pub place_of : Ack → ℕ → ℕ
place_of a o = o - a.gone - 1

-- Nothing heard yet.
abbrev pub unheard_of : List Packet → Numbers → Heard
unheard_of packets numbers = record { packets = packets; numbers = numbers; news = false }

unfoldable pub newly_heard_of : Ack → Heard → ℕ → Heard
newly_heard_of a h o =
    record {
      packets = set h.packets (place_of a o) (with_acked (get_or h.packets (place_of a o) no_packet));
      numbers = credited_by a.base a.delay a.clock (get_or h.packets (place_of a o) no_packet) h.numbers;
      news = true;
    }

abbrev pub heard_step : Ack → Heard → ℕ → Heard
heard_step a h o = cond (keeps_of a o && is_unacked (get_or h.packets (place_of a o) no_packet)) (newly_heard_of a h o) h

unfoldable pub all_heard_of : Ack → Heard → List ℕ → Heard
all_heard_of a h [] = h
all_heard_of a h (o ∷ os) = all_heard_of a (heard_step a h o) os

-- The offset that step j speaks of, or 0: the number itself, a SACK bit, an earlier one that is kept.
abbrev pub heard_at : Ack → List ℕ → ℕ → ℕ → ℕ
heard_at a mask bits j = cond (eqb j 0) a.offset (cond (leb j bits) (cond (bit_of mask (j - 1)) (a.offset + 1 + j) 0) (a.gone + (j - bits)))

unfoldable pub steps_from : (ℕ → ℕ) → ℕ → ℕ → List ℕ
steps_from f j zero = []
steps_from f j (suc k) = f j ∷ steps_from f (j + 1) k

-- What the steps of a run speak of.
abbrev pub run_of : (ℕ → ℕ) → Run → List ℕ
run_of f r = steps_from f r.from r.count

-- Step j of the steps of a run and then those of another.
abbrev pub step_of : Run → Run → ℕ → ℕ
step_of r t j = cond (ltb j r.count) (r.from + j) (t.from + (j - r.count))

-- Loss from place i on, with `live` packets kept: what stands before it is not looked at yet.
unfoldable pub loss_from_of : Heard → ℕ → ℕ → Heard
loss_from_of h live i =
    record {
      packets = take i h.packets ++ (loss_marked_of (drop i (take live h.packets)) ++ drop live h.packets);
      numbers = loss_counted_of (drop i (take live h.packets)) h.numbers;
      news = h.news;
    }

unfoldable pub loss_heard_of : Heard → ℕ → Heard
loss_heard_of h live =
    record {
      packets = loss_marked_of (take live h.packets) ++ drop live h.packets;
      numbers = loss_counted_of (take live h.packets) h.numbers;
      news = h.news;
    }
