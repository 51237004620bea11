-- The lost list (document 01, "Sent packets"). Definitions only.
use Rattle.std.specs.Prelude.{ℕ, ◌+◌, ◌-◌, ◌^◌, min, cond, List, [], ◌∷◌, ◌++◌, leb, ltb, eqb, length, get_or}
use Rattle.std.proofs.Math.Seq.{slice}
use Rattle.common.specs.Answer.{Answer, done, refused}
use Rattle.seq.specs.declared.SeqNum.{SeqNum}
use Rattle.seq.specs.Seq.{plus_of}
use Rattle.packet.specs.Kind.{type_of}
use Rattle.outgoing.specs.declared.kept.Packet.{Packet}
use Rattle.outgoing.specs.declared.answer.LostPacket.{LostPacket}
use Rattle.outgoing.specs.Tracker.{Tracker, gone_of, no_packet}

-- Each lost packet gives number, type and tag.
abbrev pub lost_packet_of : SeqNum → ℕ → Packet → LostPacket
lost_packet_of initial o p = record { seq_num = plus_of initial o; packet_type = type_of p.kind; tag = p.tag }

-- The lost ones of a list of packets whose first has offset o.
unfoldable pub lost_from : SeqNum → ℕ → List Packet → List LostPacket
lost_from initial o [] = []
lost_from initial o (p ∷ l) = cond (eqb p.lost 0) [] (lost_packet_of initial o p ∷ []) ++ lost_from initial (o + 1) l

-- In ascending order of the 16-bit number.
unfoldable pub insert_of : LostPacket → List LostPacket → List LostPacket
insert_of x [] = x ∷ []
insert_of x (y ∷ l) = cond (leb x.seq_num.0 y.seq_num.0) (x ∷ y ∷ l) (y ∷ insert_of x l)

unfoldable pub ascending_of : List LostPacket → List LostPacket
ascending_of [] = []
ascending_of (x ∷ l) = insert_of x (ascending_of l)

unfoldable pub lost_list_of : Tracker → List LostPacket
lost_list_of t = ascending_of (lost_from t.initial (gone_of t + 1) t.packets)

abbrev pub no_lost : LostPacket
no_lost = lost_packet_of (record { 0 = 0 }) 0 no_packet

-- Read by position from 0; a position at or past the count gives 12.
abbrev pub lost_at_of : Tracker → ℕ → Answer LostPacket
lost_at_of t k = cond (leb (length (lost_list_of t)) k) (refused 12) (done (get_or (lost_list_of t) k no_lost))

-- ---- the same in places of the array, for the functions that do a part of the work

abbrev pub lost_one : Packet → ℕ
lost_one p = cond (eqb p.lost 0) 0 1

unfoldable pub lost_count_of : List Packet → ℕ
lost_count_of [] = 0
lost_count_of (p ∷ l) = lost_one p + lost_count_of l

-- The index of the k-th lost packet, or past the end.
unfoldable pub nth_lost : List Packet → ℕ → ℕ
nth_lost [] k = 0
nth_lost (p ∷ l) k = cond (eqb p.lost 0) (1 + nth_lost l k) (cond (eqb k 0) 0 (1 + nth_lost l (k - 1)))

-- The first place whose number is past the wrap.
abbrev pub wrap_place : ℕ → ℕ → ℕ → ℕ
wrap_place initial gone live = min live (2 ^ 16 - (initial + gone + 1))

abbrev pub lost_place_of : List Packet → ℕ → ℕ → ℕ → ℕ → ℕ
lost_place_of packets wrap live wrapped k =
    cond (ltb k wrapped) (wrap + nth_lost (slice wrap live packets) k) (nth_lost (slice 0 wrap packets) (k - wrapped))
