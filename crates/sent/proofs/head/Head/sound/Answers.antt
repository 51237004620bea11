-- With at most 512 kept, each part of the test is the definition's, in its order.
use Rattle.std.proofs.Common.{◌≡◌, refl, Bool, true, false, ◌&&◌, ◌||◌, ℕ, leb, eqb, take, arith, ap, ◌∙◌}
use Rattle.std.specs.Prelude.{Option, Some}
use Rattle.std.specs.Bool.{then_some}
use Rattle.std.specs.Option.{option_eq}
use Rattle.std.proofs.lemmas.Bool.{lt-leb}
use Rattle.outgoing.specs.Loss.{is_unacked}
use Rattle.outgoing.specs.Sound.{packets_sound_of, in_flight_of}
use Rattle.outgoing.specs.Tracker.{most_sent}
use Rattle.sent.specs.State.{state_sound_of}
use Rattle.sent.specs.Whole.{whole_of}
use Rattle.sent.specs.Laws.Sound.{sound_by_parts}
use Rattle.sent.proofs.head.Head.sound.Goals as goal

-- The walk answers the sum where the packets pass, and that is compared with the count.
of_sum : (before packets : Bool) (sum flight : ℕ) → (before && option_eq eqb (then_some packets sum) (Some flight)) ≡ (before && packets && eqb sum flight)
of_sum true true sum flight = refl
of_sum true false sum flight = refl
of_sum false packets sum flight = refl

same_sum : (before packets : Bool) (sum flight : ℕ) {walk : Option ℕ} {same : Bool} → walk ≡ then_some packets sum → same ≡ option_eq eqb walk (Some flight)
    → (before && same) ≡ (before && packets && eqb sum flight)
same_sum before packets sum flight w e = ap (λ (b : Bool). before && b) (e ∙ ap (λ (o : Option ℕ). option_eq eqb o (Some flight)) w) ∙ of_sum before packets sum flight

pub returns-then-self-gt-PLACES-clause-sound : goal.returns-then-self-gt-PLACES-clause-sound
unfolding state_sound_of
returns-then-self-gt-PLACES-clause-sound g c = simp (lt-leb c.args.self.live 512 c.if-self-gt-PLACES.true)

pub returns-clause-sound : goal.returns-clause-sound
returns-clause-sound g c =
    let a = c.args in
    let s = whole_of a.self (g.S.Samples.samples a.samples.now) (g.P.Packets.packets a.packets.now) in
    let kept = take s.live s.packets in
    let packets = packets_sound_of s.numbers.last kept in
    let sum = in_flight_of kept in
    let first = c.packet_at-first.ensures in
    let few = c.if-self-gt-PLACES.false in
    let before = leb s.live s.count && leb s.count most_sent && c.sound.result && c.sound-delays_sound.result && (eqb s.live 0 || c.unacked.result) in
    same_sum before packets sum s.numbers.in_flight c.walked-in_flight.ensures c.eq.ensures
    ∙ sound_by_parts s c.sound.result c.sound-delays_sound.result c.unacked.result packets sum few (omega (arith, first.full.count, few))
    c.sound.ensures c.sound-delays_sound.ensures.sound (c.unacked.ensures ∙ ap is_unacked first.found) refl refl
