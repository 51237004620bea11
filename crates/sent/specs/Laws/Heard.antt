-- An ack's step, by what was read at a place and what was stored there; and its two runs, by how many earlier ones there are.
use Rattle.std.specs.Prelude.{◌≡◌, true, false, List, ◌++◌, ℕ, ◌+◌, ◌-◌, ◌*◌, ◌≤◌, length, get_or, set}
use Rattle.std.proofs.Common.{sym, ap, ap₂, ◌∙◌}
use Rattle.congestion.specs.declared.numbers.Numbers.{Numbers}
use Rattle.outgoing.specs.declared.kept.Packet.{Packet}
use Rattle.outgoing.specs.declared.ack.Ack.{Ack}
use Rattle.outgoing.specs.declared.ack.Heard.{Heard}
use Rattle.outgoing.specs.Ack.{with_acked, credited_by, heard_of}
use Rattle.outgoing.specs.Hear.{keeps_of, place_of, newly_heard_of, heard_step, all_heard_of, heard_at, run_of}
use Rattle.outgoing.specs.Loss.{is_unacked}
use Rattle.outgoing.specs.Tracker.{no_packet}
use Rattle.outgoing.specs.Laws.Hear.{acked_same, unacked_heard, runs_heard}

-- A packet that is kept and acknowledged already.
pub heard_again : (a : Ack) (h : Heard) (o : ℕ) (p : Packet) → p ≡ get_or h.packets (place_of a o) no_packet → keeps_of a o ≡ true → is_unacked p ≡ false → heard_step a h o ≡ h
heard_again a h o p read keeps test = acked_same a h o keeps (sym (ap is_unacked read) ∙ test)

-- One that is newly acknowledged.
pub heard_new : (a : Ack) (h : Heard) (o : ℕ) (p q : Packet) (l : List Packet) (n : Numbers) → p ≡ get_or h.packets (place_of a o) no_packet → keeps_of a o ≡ true → is_unacked p ≡ true
    → q ≡ with_acked p → l ≡ set h.packets (place_of a o) q → n ≡ credited_by a.base a.delay a.clock p h.numbers
    → heard_step a h o ≡ record { packets = l; numbers = n; news = true }
unfolding newly_heard_of
heard_new a h o p q l n read keeps test acked stored credited =
    unacked_heard a h o keeps (sym (ap is_unacked read) ∙ test)
    ∙ sym (ap₂ (λ (x : List Packet) (y : Numbers). record { packets = x; numbers = y; news = true })
    (stored ∙ ap (set h.packets (place_of a o)) (acked ∙ ap with_acked read))
    (credited ∙ ap (λ (x : Packet). credited_by a.base a.delay a.clock x h.numbers) read))

-- The steps of the two runs are those that document 01 names, in its order.
pub heard_all : (h start : Heard) (a : Ack) (mask : List ℕ) (bits earlier : ℕ) → bits ≡ 8 * length mask → 1 ≤ a.offset → earlier ≡ a.offset - 1 - a.gone
    → h ≡ all_heard_of a start (run_of (heard_at a mask bits) (record { from = 0; count = 1 + bits }) ++ run_of (heard_at a mask bits) (record { from = 1 + bits; count = earlier }))
    → h ≡ all_heard_of a start (heard_of a.count a.offset mask)
heard_all h start a mask bits earlier b k e g =
    g
    ∙ ap
    (λ (n : ℕ). all_heard_of a start (run_of (heard_at a mask bits) (record { from = 0; count = 1 + bits }) ++ run_of (heard_at a mask bits) (record { from = 1 + bits; count = n })))
    e
    ∙ runs_heard a mask start bits b k
