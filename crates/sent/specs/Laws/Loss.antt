-- Loss, walked from the back; and what the soundness test says of it.
use Rattle.std.specs.Prelude.{◌≡◌, Bool, true, false, ◌&&◌, ℕ, suc, ◌+◌, ◌-◌, ◌≤◌, ◌<◌, leb, eqb, length}
use Rattle.std.proofs.Math.Path.{refl, sym, ap, ap₂}
use Rattle.std.proofs.Common.{◌∙◌, arith, take-append-drop, length-take-le, drop-cons, eqb-true}
use Rattle.std.proofs.Math.Bool.{cond}
use mathlib.Core.List.{List, [], ◌∷◌, ◌++◌}
use Rattle.std.proofs.Math.ListN.{take, drop, get_or, set}
use Rattle.std.proofs.Math.Seq.{set_at, get_or_at}
use Rattle.congestion.specs.declared.numbers.Numbers.{Numbers}
use Rattle.congestion.specs.Numbers.{lost_of, when_sound}
use Rattle.congestion.specs.Laws.Numbers.{both}
use Rattle.outgoing.specs.declared.kept.Packet.{Packet}
use Rattle.outgoing.specs.declared.ack.Heard.{Heard}
use Rattle.outgoing.specs.Loss.{is_unacked, acked_one, acked_count_of, is_lost_of, is_newly_lost_of, with_lost, loss_marked_of, loss_counted_of}
use Rattle.outgoing.specs.Tracker.{no_packet}
use Rattle.outgoing.specs.Ack.{from_unacked}
use Rattle.outgoing.specs.Hear.{loss_from_of, loss_heard_of}
use Rattle.outgoing.specs.Sound.{packet_sound_of, packets_sound_of, starts_unacked}
use Rattle.sent.specs.Laws.Kept.{kept_behind, kept_end}
use Rattle.outgoing.specs.Laws.Move.{front_last}

pub marked-length : (l : List Packet) → length (loss_marked_of l) ≡ length l
unfolding loss_marked_of
marked-length [] = refl
marked-length (p ∷ l) = ap suc (marked-length l)

module _ (h : Heard) (live : ℕ) (few : live ≤ length h.packets) where
  list : ℕ → List Packet
  list i = drop i (take live h.packets)

  pub loss_starts : h ≡ loss_from_of h live live
  unfolding loss_from_of loss_marked_of loss_counted_of
  loss_starts =
      let none = kept_end h.packets live few in
      ap₂ (λ (p : List Packet) (n : Numbers). record { packets = p; numbers = n; news = h.news })
      (sym (take-append-drop live h.packets) ∙ ap (λ (l : List Packet). take live h.packets ++ (loss_marked_of l ++ drop live h.packets)) (sym none))
      (ap (λ (l : List Packet). loss_counted_of l h.numbers) (sym none))

  pub loss_ends : loss_from_of h live 0 ≡ loss_heard_of h live
  unfolding loss_from_of loss_heard_of
  loss_ends = refl

  module _ (i : ℕ) (some : 0 < i) (within : i ≤ live) where
    p : Packet
    p = get_or h.packets (i - 1) no_packet

    pub loss_read : get_or (loss_from_of h live i).packets (i - 1) no_packet ≡ get_or h.packets (i - 1) no_packet
    unfolding loss_from_of
    loss_read =
        ap (λ (l : List Packet). get_or l (i - 1) no_packet) (front_last h.packets _ i no_packet some (omega arith))
        ∙ get_or_at (take (i - 1) h.packets) (get_or h.packets (i - 1) no_packet) _ no_packet (i - 1) (length-take-le (i - 1) h.packets (omega arith))

    behind : drop (i - 1) (take live h.packets) ≡ p ∷ drop i (take live h.packets)
    unfolding p
    behind = kept_behind h.packets live i few some within

    pub loss_same : is_newly_lost_of (get_or h.packets (i - 1) no_packet) (acked_count_of (drop i (take live h.packets))) ≡ false
        → loss_from_of h live i ≡ loss_from_of h live (i - 1)
    unfolding loss_from_of loss_marked_of loss_counted_of p
    loss_same e =
        let l = drop i (take live h.packets) in
        ap₂ (λ (q : List Packet) (n : Numbers). record { packets = q; numbers = n; news = h.news })
        (front_last h.packets (loss_marked_of l ++ drop live h.packets) i no_packet some (omega arith)
        ∙ sym (ap (λ (t : Bool). take (i - 1) h.packets ++ ((cond t (with_lost p 1) p ∷ loss_marked_of l) ++ drop live h.packets)) e)
        ∙ sym (ap (λ (m : List Packet). take (i - 1) h.packets ++ (loss_marked_of m ++ drop live h.packets)) behind))
        (sym (ap (λ (t : Bool). cond t (when_sound (loss_counted_of l h.numbers) (lost_of (loss_counted_of l h.numbers))) (loss_counted_of l h.numbers)) e)
        ∙ sym (ap (λ (m : List Packet). loss_counted_of m h.numbers) behind))

    pub loss_new : (q : Packet) (n : Numbers) → is_newly_lost_of (get_or h.packets (i - 1) no_packet) (acked_count_of (drop i (take live h.packets))) ≡ true
        → q ≡ with_lost (get_or h.packets (i - 1) no_packet) 1 → n ≡ when_sound (loss_from_of h live i).numbers (lost_of (loss_from_of h live i).numbers)
        → record { packets = set (loss_from_of h live i).packets (i - 1) q; numbers = n; news = h.news } ≡ loss_from_of h live (i - 1)
    unfolding loss_from_of loss_marked_of loss_counted_of p
    loss_new q n e stored counted =
        let l = drop i (take live h.packets) in
        ap₂ (λ (x : List Packet) (y : Numbers). record { packets = x; numbers = y; news = h.news })
        (ap (λ (x : List Packet). set x (i - 1) q) (front_last h.packets (loss_marked_of l ++ drop live h.packets) i no_packet some (omega arith))
        ∙ set_at (take (i - 1) h.packets) p (loss_marked_of l ++ drop live h.packets) q (i - 1) (length-take-le (i - 1) h.packets (omega arith))
        ∙ ap (λ (x : Packet). take (i - 1) h.packets ++ x ∷ (loss_marked_of l ++ drop live h.packets)) stored
        ∙ sym (ap (λ (t : Bool). take (i - 1) h.packets ++ ((cond t (with_lost p 1) p ∷ loss_marked_of l) ++ drop live h.packets)) e)
        ∙ sym (ap (λ (m : List Packet). take (i - 1) h.packets ++ (loss_marked_of m ++ drop live h.packets)) behind))
        (counted
        ∙ sym (ap (λ (t : Bool). cond t (when_sound (loss_counted_of l h.numbers) (lost_of (loss_counted_of l h.numbers))) (loss_counted_of l h.numbers)) e)
        ∙ sym (ap (λ (m : List Packet). loss_counted_of m h.numbers) behind))

    -- how many of those from the place on are acknowledged
    pub count_behind : acked_count_of (drop (i - 1) (take live h.packets)) ≡ acked_count_of (drop i (take live h.packets)) + acked_one (get_or h.packets (i - 1) no_packet)
    unfolding acked_count_of p
    count_behind = ap acked_count_of behind

-- A newly lost packet is not acknowledged.
pub newly_lost_unacked : (p : Packet) (later : ℕ) → is_newly_lost_of p later ≡ true → acked_one p ≡ 0
newly_lost_unacked p later e =
    ap (λ (t : Bool). cond t 0 1) (both (is_unacked p) (leb 3 later) (both (is_lost_of p later) (eqb p.lost 0) e).0).0

-- ---- packets that pass the soundness test

-- Their marks are right already: none is newly lost.
not_newly : (p : Packet) (later : ℕ) → p.lost ≡ cond (is_lost_of p later) 1 0 → is_newly_lost_of p later ≡ false
not_newly p later e = by_test (is_lost_of p later) refl
  where
    by_test : (t : Bool) → is_lost_of p later ≡ t → is_newly_lost_of p later ≡ false
    by_test true q = ap₂ (λ (x : Bool) (n : ℕ). x && eqb n 0) q (e ∙ ap (λ (t : Bool). cond t 1 0) q)
    by_test false q = ap (λ (t : Bool). t && eqb p.lost 0) q

pub loss_none : (last : ℕ) (l : List Packet) (n : Numbers) → packets_sound_of last l ≡ true → (loss_marked_of l ≡ l) × (loss_counted_of l n ≡ n)
unfolding packets_sound_of loss_marked_of loss_counted_of
loss_none last [] n e = (refl, refl)
loss_none last (p ∷ l) n e =
    let b = both (packets_sound_of last l) (packet_sound_of last p (acked_count_of l)) e in
    let again = loss_none last l n b.0 in
    let mark = eqb-true p.lost (cond (is_lost_of p (acked_count_of l)) 1 0) (both (leb p.kind 4 && leb p.acked 1 && leb p.resent 1 && leb p.sent_at last) (eqb p.lost (cond (is_lost_of p (acked_count_of l)) 1 0)) b.1).1 in
    let same = not_newly p (acked_count_of l) mark in (
      ap₂ (λ (t : Bool) (m : List Packet). cond t (with_lost p 1) p ∷ m) same again.0,
      ap (λ (t : Bool). cond t (when_sound (loss_counted_of l n) (lost_of (loss_counted_of l n))) (loss_counted_of l n)) same ∙ again.1,
    )

-- ---- the acknowledged run

pub run_stays : (l : List Packet) → starts_unacked l ≡ true → from_unacked l ≡ l
unfolding from_unacked
run_stays [] e = refl
run_stays (p ∷ l) e = ap (λ (t : Bool). cond t (p ∷ l) (from_unacked l)) e

pub run_stops : (l : List Packet) (i : ℕ) → i < length l → is_unacked (get_or l i no_packet) ≡ true → from_unacked (drop i l) ≡ drop i l
unfolding from_unacked
run_stops l i h e =
    ap from_unacked (drop-cons l i no_packet h)
    ∙ ap (λ (t : Bool). cond t (get_or l i no_packet ∷ drop (suc i) l) (from_unacked (drop (suc i) l))) e
    ∙ sym (drop-cons l i no_packet h)

pub run-goes_on : (l : List Packet) (i : ℕ) → i < length l → is_unacked (get_or l i no_packet) ≡ false → from_unacked (drop i l) ≡ from_unacked (drop (suc i) l)
unfolding from_unacked
run-goes_on l i h e =
    ap from_unacked (drop-cons l i no_packet h)
    ∙ ap (λ (t : Bool). cond t (get_or l i no_packet ∷ drop (suc i) l) (from_unacked (drop (suc i) l))) e
