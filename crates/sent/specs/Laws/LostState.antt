-- The lost list of a state: what is past the wrap comes first, each part in the order of its offsets.
use Rattle.std.specs.Prelude.{◌≡◌, Bool, cond, ℕ, ◌+◌, ◌-◌, ◌≤◌, ◌<◌, ltb, length, take, get_or}
use Rattle.std.proofs.Math.Path.{refl, ap, subst⁻¹}
use Rattle.std.proofs.Common.{sym, ap₂, ◌∙◌, length-append, take-append-drop, get_or-append-add, get_or-take, get_or-drop, length-take-le, take-take}
use Rattle.std.proofs.Math.Bool.{true, false}
use mathlib.Core.List.{List, [], ◌++◌}
use native.Mathlib.Omega.{arith}
use Rattle.std.proofs.Math.Dec.{leb}
use Rattle.std.proofs.Math.ListN.{get_or-append}
use Rattle.std.proofs.Math.Seq.{slice, length-slice}
use borrow.Author.Tests.{le-leb, lt-leb, leb-true, leb-false, ltb-true, ltb-false}
use Rattle.common.specs.Answer.{done, refused}
use Rattle.seq.specs.declared.SeqNum.{SeqNum}
use Rattle.outgoing.specs.declared.kept.Packet.{Packet}
use Rattle.sent.specs.declared.state.SentPackets.{SentPackets}
use Rattle.outgoing.specs.declared.answer.LostPacket.{LostPacket}
use Rattle.outgoing.specs.Tracker.{places, gone_of, no_packet}
use Rattle.outgoing.specs.Lost.{lost_packet_of, lost_from, ascending_of, lost_list_of, no_lost, lost_at_of, lost_count_of, nth_lost, wrap_place, lost_place_of}
use Rattle.sent.specs.State.{tracker_of, state_sound_of}
use Rattle.outgoing.specs.Read.{lost_count_in}
use Rattle.sent.specs.Laws.Kept.{kept_end}
use Rattle.sent.specs.Laws.Sound.{state_counts}
use Rattle.outgoing.specs.Laws.Lost.{lost_length, nth_within, nth_is, lost_append, Rising, Below, swapped_sorted, sorted_length, rising_offsets, below_offsets}

-- How many are lost past the wrap, and before it, where the wrap was worked out.
pub past_wrap : (s : SentPackets) (wrap n : ℕ) → wrap ≡ wrap_place s.initial (s.count - s.live) s.live
    → n ≡ lost_count_of (slice wrap s.live s.packets) → n ≡ lost_count_of (slice (wrap_place s.initial (s.count - s.live) s.live) s.live s.packets)
past_wrap s wrap n w e = e ∙ ap (λ (k : ℕ). lost_count_of (slice k s.live s.packets)) w

pub before_wrap : (s : SentPackets) (wrap n : ℕ) → wrap ≡ wrap_place s.initial (s.count - s.live) s.live
    → n ≡ lost_count_of (slice 0 wrap s.packets) → n ≡ lost_count_of (slice 0 (wrap_place s.initial (s.count - s.live) s.live) s.packets)
before_wrap s wrap n w e = e ∙ ap (λ (k : ℕ). lost_count_of (slice 0 k s.packets)) w

module _ (s : SentPackets) (full : length s.packets ≡ places) (e : state_sound_of s ≡ true) (fits : s.initial < 65536) where
  abbrev a : List Packet
  a = s.packets

  abbrev initial : SeqNum
  initial = record { 0 = s.initial }

  abbrev gone : ℕ
  gone = s.count - s.live

  abbrev w : ℕ
  w = wrap_place s.initial (s.count - s.live) s.live

  few : s.live ≤ length a
  few = omega (arith, (state_counts s e full).0, full)

  -- before the wrap, and past it
  abbrev before : List LostPacket
  before = lost_from initial (gone + 1) (take w a)

  abbrev past : List LostPacket
  past = lost_from initial (gone + 1 + w) (slice w s.live a)

  front_length : length (take w a) ≡ w
  front_length = length-take-le w a (omega (arith, few))

  parts : lost_from initial (gone_of (tracker_of s) + 1) (take s.live a) ≡ before ++ past
  parts =
      let q = state_counts s e full in
      ap (λ (n : ℕ). lost_from initial (s.count - n + 1) (take s.live a)) q.3
      ∙ ap (lost_from initial (gone + 1)) (sym (take-append-drop w (take s.live a)) ∙ ap (λ (l : List Packet). l ++ slice w s.live a) (take-take w s.live a (omega arith)))
      ∙ lost_append initial (take w a) (slice w s.live a) (gone + 1)
      ∙ ap (λ (n : ℕ). before ++ lost_from initial (gone + 1 + n) (slice w s.live a)) front_length

  rising_before : Rising (s.initial + gone + 1) before
  unfolding lost_from
  rising_before = by_test (leb (s.initial + gone + 1) 65536) refl
    where
      by_test : (t : Bool) → leb (s.initial + gone + 1) 65536 ≡ t → Rising (s.initial + gone + 1) before
      by_test true q =
          let h = leb-true (s.initial + gone + 1) 65536 q in
          rising_offsets initial 0 (take w a) (gone + 1) (s.initial + gone + 1) (omega arith) (omega (arith, front_length)) (omega arith)
      by_test false q =
          let h = leb-false (s.initial + gone + 1) 65536 q in
          let none : w ≡ 0 = omega arith in
          subst⁻¹ (λ (n : ℕ). Rising (s.initial + gone + 1) (lost_from initial (gone + 1) (take n a))) none tt

  past_length : length (slice w s.live a) ≡ s.live - w
  past_length = length-slice w s.live a few

  none_past : s.live ≤ 65536 - (s.initial + gone + 1) → slice w s.live a ≡ []
  none_past h = let all : w ≡ s.live = omega arith in ap (λ (n : ℕ). slice n s.live a) all ∙ kept_end a s.live few

  rising_past : (Rising 0 past) × (Below (s.initial + gone + 1) past)
  unfolding lost_from
  rising_past = by_test (leb s.live (65536 - (s.initial + gone + 1))) refl
    where
      by_test : (t : Bool) → leb s.live (65536 - (s.initial + gone + 1)) ≡ t → (Rising 0 past) × (Below (s.initial + gone + 1) past)
      by_test true q =
          let none = none_past (leb-true s.live (65536 - (s.initial + gone + 1)) q) in (
            subst⁻¹ (λ (l : List Packet). Rising 0 (lost_from initial (gone + 1 + w) l)) none tt,
            subst⁻¹ (λ (l : List Packet). Below (s.initial + gone + 1) (lost_from initial (gone + 1 + w) l)) none tt,
          )
      by_test false q =
          let h = leb-false s.live (65536 - (s.initial + gone + 1)) q in
          let c = state_counts s e full in
          let n = past_length in (
            rising_offsets initial 1 (slice w s.live a) (gone + 1 + w) 0 (omega arith) (omega (arith, c.1, c.2)) (omega arith),
            below_offsets initial 1 (slice w s.live a) (gone + 1 + w) (s.initial + gone + 1) (omega arith) (omega (arith, c.1, c.2)) (omega (arith, c.1, c.2)),
          )

  list_is : lost_list_of (tracker_of s) ≡ past ++ before
  unfolding lost_list_of
  list_is = ap ascending_of parts ∙ swapped_sorted (s.initial + gone + 1) 0 before past rising_before rising_past.0 rising_past.1

  count_is : lost_count_in (tracker_of s) ≡ lost_count_of (slice w s.live a) + lost_count_of (take w a)
  count_is =
      ap length list_is ∙ length-append past before
      ∙ ap₂ (λ (x y : ℕ). x + y) (lost_length initial (slice w s.live a) (gone + 1 + w)) (lost_length initial (take w a) (gone + 1))

  pub count_all : lost_count_in (tracker_of s) ≡ lost_count_of (take s.live a)
  unfolding lost_list_of
  count_all = sorted_length _ ∙ lost_length initial (take s.live a) (gone_of (tracker_of s) + 1)

  module _ (k wrapped : ℕ) (wrapped_is : wrapped ≡ lost_count_of (slice w s.live a)) where
    pub none_there : wrapped + lost_count_of (take w a) ≤ k → refused 12 ≡ lost_at_of (tracker_of s) k
    none_there h =
        sym (ap (λ (t : Bool). cond t (refused 12) (done (get_or (lost_list_of (tracker_of s)) k no_lost))) (le-leb (lost_count_in (tracker_of s)) k (omega (arith, count_is, wrapped_is))))

    -- the packet that is found there, and where
    abbrev found : ℕ → LostPacket
    found place = lost_packet_of initial (gone + 1 + place) (get_or a place no_packet)

    by_part : k < wrapped + lost_count_of (take w a) → (t : Bool) → ltb k wrapped ≡ t
        → (cond t (w + nth_lost (slice w s.live a) k) (nth_lost (slice 0 w a) (k - wrapped)) < s.live)
        × (get_or (past ++ before) k no_lost ≡ found (cond t (w + nth_lost (slice w s.live a) k) (nth_lost (slice 0 w a) (k - wrapped))))
    by_part h true q =
        let l = slice w s.live a in
        let c : k < lost_count_of l = omega (arith, ltb-true k wrapped q, wrapped_is) in
        let n = nth_within initial l k c in
        let o : gone + 1 + w + nth_lost l k ≡ gone + 1 + (w + nth_lost l k) = omega arith in (
          omega (arith, n, past_length),
          get_or-append past before no_lost k (omega (arith, c, lost_length initial l (gone + 1 + w)))
              ∙ nth_is initial l (gone + 1 + w) k c
              ∙ ap₂ (λ (x : ℕ) (p : Packet). lost_packet_of initial x p) o
              (get_or-drop w (take s.live a) (nth_lost l k) no_packet ∙ get_or-take s.live a (w + nth_lost l k) no_packet (omega (arith, n, past_length))),
        )
    by_part h false q =
        let l = take w a in
        let g = ltb-false k wrapped q in
        let c : k - wrapped < lost_count_of l = omega arith in
        let n = nth_within initial l (k - wrapped) c in
        let len : length past ≡ wrapped = lost_length initial (slice w s.live a) (gone + 1 + w) ∙ sym wrapped_is in
        let at : k ≡ length past + (k - wrapped) = omega arith in (
          omega (arith, n, front_length),
          ap (λ (j : ℕ). get_or (past ++ before) j no_lost) at
              ∙ get_or-append-add past before (k - wrapped) no_lost
              ∙ nth_is initial l (gone + 1) (k - wrapped) c
              ∙ ap (λ (p : Packet). lost_packet_of initial (gone + 1 + nth_lost l (k - wrapped)) p) (get_or-take w a (nth_lost l (k - wrapped)) no_packet (omega (arith, n, front_length))),
        )

    pub one_there : (place : ℕ) → k < wrapped + lost_count_of (take w a) → place ≡ lost_place_of a w s.live wrapped k
        → (place < s.live) × (done (found place) ≡ lost_at_of (tracker_of s) k)
    one_there place h p =
        let r = by_part h (ltb k wrapped) refl in (
          omega (arith, r.0, p),
          ap (λ (n : ℕ). done (found n)) p ∙ ap done (sym r.1 ∙ sym (ap (λ (l : List LostPacket). get_or l k no_lost) list_is))
              ∙ sym (ap (λ (t : Bool). cond t (refused 12) (done (get_or (lost_list_of (tracker_of s)) k no_lost))) (lt-leb (lost_count_in (tracker_of s)) k (omega (arith, count_is, wrapped_is)))),
        )
