-- Those past the wrap come first, so the position is looked for there and then before it.
use Rattle.std.proofs.Common.{◌≡◌, ℕ, ◌<◌, ◌+◌, ◌-◌, length, take, get_or, true, sym, ap, ap₂, ◌∙◌, arith}
use Rattle.std.proofs.Math.Seq.{slice}
use Rattle.common.specs.Answer.{done}
use Rattle.seq.specs.declared.SeqNum.{SeqNum}
use Rattle.packet.specs.declared.kind.PacketType.{PacketType}
use Rattle.outgoing.specs.declared.answer.LostPacket.{LostPacket}
use Rattle.outgoing.specs.declared.kept.Packet.{Packet}
use Rattle.outgoing.specs.Lost.{lost_packet_of, lost_at_of, lost_count_of, wrap_place, lost_place_of}
use Rattle.outgoing.specs.Tracker.{no_packet}
use Rattle.sent.specs.declared.state.SentPackets.{SentPackets}
use Rattle.sent.specs.State.{state_sound_of, tracker_of}
use Rattle.sent.specs.Whole.{whole_of}
use Rattle.sent.specs.Laws.LostState.{past_wrap, before_wrap, none_there, one_there}
use Rattle.sent.specs.Laws.Sound.{sound_answered, state_counts}
use Rattle.sent.proofs.head.Head.lost_at.Goals as goal

-- the packet at a position below their count
found_at : (s : SentPackets) (w n m place k : ℕ) → length s.packets ≡ 512 → state_sound_of s ≡ true → s.initial < 65536
    → w ≡ wrap_place s.initial (s.count - s.live) s.live → n ≡ lost_count_of (slice w s.live s.packets) → m ≡ lost_count_of (slice 0 w s.packets)
    → k < n + m → place ≡ lost_place_of s.packets w s.live n k
    → (place < s.live) × (done (lost_packet_of (record { 0 = s.initial }) (s.count - s.live + 1 + place) (get_or s.packets place no_packet)) ≡ lost_at_of (tracker_of s) k)
found_at s w n m place k full sound fits wrap wrapped others within at =
    one_there s full sound fits k n (past_wrap s w n wrap wrapped) place (omega (arith, before_wrap s w m wrap others, within))
    (at ∙ ap (λ (x : ℕ). lost_place_of s.packets x s.live n k) wrap)

abbrev lost_as : SeqNum → PacketType → ℕ → LostPacket
lost_as x t tag = record { seq_num = x; packet_type = t; tag = tag }

pub overflow_sub-gone : goal.overflow_sub-gone
overflow_sub-gone g c =
    let a = c.args in
    let s = whole_of a.self (g.S.Samples.samples a.samples.now) (g.P.Packets.packets a.packets.now) in
    (state_counts s (sym c.sound.ensures.sound ∙ c.if-not-sound.false) c.sound.ensures.full.count).1

pub lost_between-wrapped-requires-clause-within : goal.lost_between-wrapped-requires-clause-within
lost_between-wrapped-requires-clause-within g c =
    let a = c.args in
    let s = whole_of a.self (g.S.Samples.samples a.samples.now) (g.P.Packets.packets a.packets.now) in
    let q = state_counts s (sym c.sound.ensures.sound ∙ c.if-not-sound.false) c.sound.ensures.full.count in
    (omega (arith, c.wrap_place-wrap.ensures), q.0)

pub lost_between-requires-clause-within : goal.lost_between-requires-clause-within
lost_between-requires-clause-within g c =
    let a = c.args in
    let s = whole_of a.self (g.S.Samples.samples a.samples.now) (g.P.Packets.packets a.packets.now) in
    let q = state_counts s (sym c.sound.ensures.sound ∙ c.if-not-sound.false) c.sound.ensures.full.count in
    (omega arith, omega (arith, c.wrap_place-wrap.ensures, q.0))

pub returns-then-wrapped-lost_between : goal.returns-then-wrapped-lost_between
returns-then-wrapped-lost_between g c =
    let a = c.args in
    let s = whole_of a.self (g.S.Samples.samples a.samples.now) (g.P.Packets.packets a.packets.now) in
    let full = c.sound.ensures.full.count in
    let sound = sym c.sound.ensures.sound ∙ c.if-not-sound.false in
    let wrap = c.wrap_place-wrap in
    let wrapped = c.lost_between-wrapped in
    let others = before_wrap s wrap.result c.lost_between.result wrap.ensures c.lost_between.ensures.count in
    none_there s full sound (omega arith) a.position wrapped.result (past_wrap s wrap.result wrapped.result wrap.ensures wrapped.ensures.count) (omega (arith, others, c.if-wrapped-lost_between.true))
    ∙ sym (sound_answered s (lost_at_of (tracker_of s) a.position) sound)

pub place_at-place-requires-clause-within : goal.place_at-place-requires-clause-within
place_at-place-requires-clause-within g c =
    let a = c.args in
    let s = whole_of a.self (g.S.Samples.samples a.samples.now) (g.P.Packets.packets a.packets.now) in
    let q = state_counts s (sym c.sound.ensures.sound ∙ c.if-not-sound.false) c.sound.ensures.full.count in
    (omega (arith, c.wrap_place-wrap.ensures), q.0)

pub invariant_of-packet_at : goal.invariant_of-packet_at
invariant_of-packet_at g c =
    let a = c.args in
    let s = whole_of a.self (g.S.Samples.samples a.samples.now) (g.P.Packets.packets a.packets.now) in
    let full = c.sound.ensures.full.count in
    let sound = sym c.sound.ensures.sound ∙ c.if-not-sound.false in
    let q = state_counts s sound full in
    let found = found_at s c.wrap_place-wrap.result c.lost_between-wrapped.result c.lost_between.result c.place_at-place.result a.position full sound (omega arith) c.wrap_place-wrap.ensures
    c.lost_between-wrapped.ensures.count c.lost_between.ensures.count c.if-wrapped-lost_between.false c.place_at-place.ensures in
    record { in_range = omega (arith, found.0, q.0) }

pub overflow_add-gone-2 : goal.overflow_add-gone-2
overflow_add-gone-2 g c =
    let a = c.args in
    let s = whole_of a.self (g.S.Samples.samples a.samples.now) (g.P.Packets.packets a.packets.now) in
    let full = c.sound.ensures.full.count in
    let sound = sym c.sound.ensures.sound ∙ c.if-not-sound.false in
    let q = state_counts s sound full in
    let found = found_at s c.wrap_place-wrap.result c.lost_between-wrapped.result c.lost_between.result c.place_at-place.result a.position full sound (omega arith) c.wrap_place-wrap.ensures
    c.lost_between-wrapped.ensures.count c.lost_between.ensures.count c.if-wrapped-lost_between.false c.place_at-place.ensures in
    omega (arith, q.0, q.1, q.2, found.0)

pub overflow_cast-gone-2 : goal.overflow_cast-gone-2
overflow_cast-gone-2 g c =
    let a = c.args in
    let s = whole_of a.self (g.S.Samples.samples a.samples.now) (g.P.Packets.packets a.packets.now) in
    let full = c.sound.ensures.full.count in
    let sound = sym c.sound.ensures.sound ∙ c.if-not-sound.false in
    let q = state_counts s sound full in
    let found = found_at s c.wrap_place-wrap.result c.lost_between-wrapped.result c.lost_between.result c.place_at-place.result a.position full sound (omega arith) c.wrap_place-wrap.ensures
    c.lost_between-wrapped.ensures.count c.lost_between.ensures.count c.if-wrapped-lost_between.false c.place_at-place.ensures in
    omega (arith, q.0, q.1, q.2, found.0)

pub returns : goal.returns
returns g c =
    let a = c.args in
    let s = whole_of a.self (g.S.Samples.samples a.samples.now) (g.P.Packets.packets a.packets.now) in
    let full = c.sound.ensures.full.count in
    let sound = sym c.sound.ensures.sound ∙ c.if-not-sound.false in
    let place = c.place_at-place.result in
    let p = c.packet_at-p in
    let found = found_at s c.wrap_place-wrap.result c.lost_between-wrapped.result c.lost_between.result place a.position full sound (omega arith) c.wrap_place-wrap.ensures
    c.lost_between-wrapped.ensures.count c.lost_between.ensures.count c.if-wrapped-lost_between.false c.place_at-place.ensures in
    ap₂ (λ (x : SeqNum) (t : PacketType). done (lost_as x t p.result.tag)) c.plus.ensures c.type_of.ensures
    ∙ ap (λ (q : Packet). done (lost_packet_of (record { 0 = s.initial }) (s.count - s.live + 1 + place) q)) p.ensures.found
    ∙ found.1
    ∙ sym (sound_answered s (lost_at_of (tracker_of s) a.position) sound)
