-- Loss (document 01, "Sent packets"). Definitions only, over a list of packets in the order of their offsets.
use Rattle.std.specs.Prelude.{ℕ, ◌+◌, Bool, ◌&&◌, cond, List, [], ◌∷◌, leb, eqb}
use Rattle.congestion.specs.declared.numbers.Numbers.{Numbers}
use Rattle.congestion.specs.Numbers.{lost_of, when_sound}
use Rattle.outgoing.specs.declared.kept.Packet.{Packet}

-- How many acknowledged later packets make a packet lost.
abbrev pub loss_threshold : ℕ
loss_threshold = 3

abbrev pub is_unacked : Packet → Bool
is_unacked p = eqb p.acked 0

-- How many of them are acknowledged.
abbrev pub acked_one : Packet → ℕ
acked_one p = cond (is_unacked p) 0 1

unfoldable pub acked_count_of : List Packet → ℕ
acked_count_of [] = 0
acked_count_of (p ∷ l) = acked_count_of l + acked_one p

-- An unacknowledged packet with three or more acknowledged later ones is lost.
abbrev pub is_lost_of : Packet → ℕ → Bool
is_lost_of p later = is_unacked p && leb loss_threshold later

-- It is counted against the window once, when it was not lost before.
abbrev pub is_newly_lost_of : Packet → ℕ → Bool
is_newly_lost_of p later = is_lost_of p later && eqb p.lost 0

abbrev pub with_lost : Packet → ℕ → Packet
with_lost p lost =
    record {
      sent_at = p.sent_at;
      tag = p.tag;
      len = p.len;
      kind = p.kind;
      acked = p.acked;
      lost = lost;
      resent = p.resent;
    }

-- The packets with those that are newly lost marked: a packet stays lost until it is acknowledged.
unfoldable pub loss_marked_of : List Packet → List Packet
loss_marked_of [] = []
loss_marked_of (p ∷ l) = cond (is_newly_lost_of p (acked_count_of l)) (with_lost p 1) p ∷ loss_marked_of l

-- A new loss halves the maximum: once for each.
unfoldable pub loss_counted_of : List Packet → Numbers → Numbers
loss_counted_of [] n = n
loss_counted_of (p ∷ l) n = cond (is_newly_lost_of p (acked_count_of l)) (when_sound (loss_counted_of l n) (lost_of (loss_counted_of l n))) (loss_counted_of l n)
