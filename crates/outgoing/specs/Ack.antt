-- Ack (document 01, "Sent packets" and "A newly acknowledged packet"). Definitions only.
use Rattle.std.specs.Prelude.{ℕ, zero, suc, ◌+◌, ◌-◌, ◌*◌, Bool, ◌&&◌, cond, List, [], ◌∷◌, ◌++◌, leb, eqb, length, set}
use Rattle.common.specs.Answer.{Answer, done, refused, ◌then◌}
use Rattle.seq.specs.declared.SeqNum.{SeqNum}
use Rattle.packet.specs.Sack.{bit_of, mask_answer}
use Rattle.congestion.specs.declared.numbers.Numbers.{Numbers}
use Rattle.controller.specs.declared.delays.Delays.{Delays}
use Rattle.congestion.specs.Settings.{latest}
use Rattle.congestion.specs.Numbers.{acked_of}
use Rattle.controller.specs.Delays.{list_of, base_of, taken_of}
use Rattle.outgoing.specs.declared.kept.Packet.{Packet}
use Rattle.outgoing.specs.Loss.{is_unacked, loss_marked_of, loss_counted_of}
use Rattle.outgoing.specs.Tracker.{Tracker, offset_in, is_kept, packet_at, gone_of, clocked_of, clock_answer}

-- ---- the checks, in their order, with n packets sent

-- 11: a delay above 2^50.
abbrev pub delay_answer : ℕ → Answer (Unit {0})
delay_answer delay = cond (leb delay latest) (done tt) (refused 11)

-- 12 unless the offset is 1 to n.
abbrev pub may_ack : ℕ → ℕ → Bool
may_ack n o = leb 1 o && leb o n

-- 11, 5, 6, 8, then 12. An empty SACK means none.
unfoldable pub ack_check : ℕ → ℕ → ℕ → ℕ → ℕ → ℕ → Answer (Unit {0})
ack_check last n o bytes delay clock =
    clock_answer last clock then delay_answer delay then mask_answer bytes then cond (may_ack n o) (done tt) (refused 12)

-- ---- which packets an ack speaks of

-- Each set SACK bit upward, stopping past n: `left` bits from bit i on. Bit i means ack + 2 + i.
unfoldable pub sacked_from : List ℕ → ℕ → ℕ → ℕ → ℕ → List ℕ
sacked_from mask n ack i zero = []
sacked_from mask n ack i (suc left) = cond (leb (ack + 2 + i) n) (cond (bit_of mask i) ((ack + 2 + i) ∷ []) [] ++ sacked_from mask n ack (i + 1) left) []

-- `count` offsets from o on.
unfoldable pub offsets_from : ℕ → ℕ → List ℕ
offsets_from o zero = []
offsets_from o (suc count) = o ∷ offsets_from (o + 1) count

-- Acknowledge the number; each set SACK bit upward, stopping past n; then every earlier one, oldest first.
unfoldable pub heard_of : ℕ → ℕ → List ℕ → List ℕ
heard_of n ack mask = ack ∷ (sacked_from mask n ack 0 (8 * length mask) ++ offsets_from 1 (ack - 1))

-- ---- a newly acknowledged packet

abbrev pub with_acked : Packet → Packet
with_acked p =
    record {
      sent_at = p.sent_at;
      tag = p.tag;
      len = p.len;
      kind = p.kind;
      acked = 1;
      lost = 0;
      resent = p.resent;
    }

-- 2 to 5: the window, in flight, and if it was sent once the round trip.
abbrev pub credited_by : ℕ → ℕ → ℕ → Packet → Numbers → Numbers
credited_by base delay clock p n = acked_of n base delay p.len (eqb p.resent 0) (clock - p.sent_at)

-- 1: take the sample (delay, now); then 2 to 5 by the base delay that this gives.
abbrev pub sampled_of : Tracker → ℕ → ℕ → Delays
sampled_of t delay clock = taken_of t.delays delay clock t.numbers.delay_window

unfoldable pub newly_acked_of : Tracker → ℕ → ℕ → ℕ → Tracker
newly_acked_of t delay clock o =
    record {
      initial = t.initial;
      sent = t.sent;
      packets = set t.packets (o - gone_of t - 1) (with_acked (packet_at t o));
      numbers = credited_by (base_of (list_of (sampled_of t delay clock))) delay clock (packet_at t o) t.numbers;
      delays = sampled_of t delay clock;
    }

-- Acknowledged again: nothing. What is no longer kept was acknowledged.
abbrev pub acknowledged_of : ℕ → ℕ → Tracker → ℕ → Tracker
acknowledged_of delay clock t o = cond (is_kept t o && is_unacked (packet_at t o)) (newly_acked_of t delay clock o) t

unfoldable pub all_acknowledged_of : ℕ → ℕ → Tracker → List ℕ → Tracker
all_acknowledged_of delay clock t [] = t
all_acknowledged_of delay clock t (o ∷ os) = all_acknowledged_of delay clock (acknowledged_of delay clock t o) os

-- ---- then loss, and the places of the acknowledged run are free

abbrev pub loss_of : Tracker → Tracker
loss_of t =
    record {
      initial = t.initial;
      sent = t.sent;
      packets = loss_marked_of t.packets;
      numbers = loss_counted_of t.packets t.numbers;
      delays = t.delays;
    }

-- Places run from the first unacknowledged packet to the last sent.
unfoldable pub from_unacked : List Packet → List Packet
from_unacked [] = []
from_unacked (p ∷ l) = cond (is_unacked p) (p ∷ l) (from_unacked l)

abbrev pub released_of : Tracker → Tracker
released_of t =
    record {
      initial = t.initial;
      sent = t.sent;
      packets = from_unacked t.packets;
      numbers = t.numbers;
      delays = t.delays;
    }

-- ---- all of it

-- The packets as an ack leaves them, before the places of the acknowledged run are free.
unfoldable pub marked_of : Tracker → ℕ → List ℕ → ℕ → ℕ → Tracker
marked_of t o mask delay clock = loss_of (all_acknowledged_of delay clock t (heard_of t.sent o mask))

unfoldable pub ack_of : Tracker → SeqNum → List ℕ → ℕ → ℕ → Answer Tracker
ack_of t number mask delay clock =
    ack_check t.numbers.last t.sent (offset_in t number) (length mask) delay clock
    then done (clocked_of (released_of (marked_of t (offset_in t number) mask delay clock)) clock)
