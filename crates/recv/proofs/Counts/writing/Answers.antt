-- The tests stand in document 01's order, so each return is the rule at the tests that led there.
use Rattle.std.proofs.Common.{◌≡◌, ℕ, sym, ap, ◌∙◌, arith}
use Rattle.seq.specs.Seq.{offset_of}
use Rattle.seq.specs.declared.Offset.{Offset}
use Rattle.recv.specs.Lent.{whole}
use Rattle.recv.specs.Table.{there_of}
use Rattle.recv.specs.State.{table_of}
use Rattle.recv.specs.Laws.Answers.{answer_unsound, answer_other, answer_rule, rule_there, rule_limit, rule_ahead, rule_long, rule_stored}
use Rattle.recv.specs.Laws.State.{sound_facts}
use Rattle.recv.proofs.Counts.writing.Goals as goal

pub returns-then-not-is_sound : goal.returns-then-not-is_sound
returns-then-not-is_sound c = sym (answer_unsound _ _ _ _ (sym c.if-not-is_sound.ensures))

pub returns-then-size-self : goal.returns-then-size-self
returns-then-size-self c = sym (answer_other _ _ _ _ (sym c.if-not-is_sound.ensures) c.if-size-self.true)

pub returns-then-is_there : goal.returns-then-is_there
returns-then-is_there c =
    let a = c.args in
    let s = whole a.self a.waiting.now in
    let same = ap (λ (d : Offset). there_of s.count (table_of s) d.0) c.offset_from-distance.ensures in
    sym (answer_rule s a.size a.number a.n (sym c.if-not-is_sound.ensures) c.if-size-self.false
    ∙ rule_there s.length s.count s.ready (table_of s) (offset_of a.number s.initial).0 a.n (sym same ∙ sym c.if-is_there.ensures))

pub returns-then-offset-gt60000 : goal.returns-then-offset-gt60000
returns-then-offset-gt60000 c =
    let a = c.args in
    let s = whole a.self a.waiting.now in
    let o = (offset_of a.number s.initial).0 in
    let same : c.offset_from-distance.result.0 ≡ o = ap (λ (d : Offset). d.0) c.offset_from-distance.ensures in
    let new = sym (ap (λ (k : ℕ). there_of s.count (table_of s) k) same) ∙ sym c.if-is_there.ensures in
    sym (answer_rule s a.size a.number a.n (sym c.if-not-is_sound.ensures) c.if-size-self.false
    ∙ rule_limit s.length s.count s.ready (table_of s) o a.n new (omega arith))

pub overflow_add-self : goal.overflow_add-self
overflow_add-self c =
    let known = sound_facts _ (sym c.if-not-is_sound.ensures) in
    omega arith

pub returns-then-offset-self : goal.returns-then-offset-self
returns-then-offset-self c =
    let a = c.args in
    let s = whole a.self a.waiting.now in
    let o = (offset_of a.number s.initial).0 in
    let same : c.offset_from-distance.result.0 ≡ o = ap (λ (d : Offset). d.0) c.offset_from-distance.ensures in
    let new = sym (ap (λ (k : ℕ). there_of s.count (table_of s) k) same) ∙ sym c.if-is_there.ensures in
    sym (answer_rule s a.size a.number a.n (sym c.if-not-is_sound.ensures) c.if-size-self.false
    ∙ rule_ahead s.length s.count s.ready (table_of s) o a.n new (omega arith) (omega arith))

pub overflow_sub-self : goal.overflow_sub-self
overflow_sub-self c =
    let known = sound_facts _ (sym c.if-not-is_sound.ensures) in
    omega arith

pub overflow_sub-self-2 : goal.overflow_sub-self-2
overflow_sub-self-2 c =
    let known = sound_facts _ (sym c.if-not-is_sound.ensures) in
    let held = c.requires.is in
    omega arith

pub returns-then-n-self : goal.returns-then-n-self
returns-then-n-self c =
    let a = c.args in
    let s = whole a.self a.waiting.now in
    let o = (offset_of a.number s.initial).0 in
    let same : c.offset_from-distance.result.0 ≡ o = ap (λ (d : Offset). d.0) c.offset_from-distance.ensures in
    let new = sym (ap (λ (k : ℕ). there_of s.count (table_of s) k) same) ∙ sym c.if-is_there.ensures in
    let held = c.requires.is in
    sym (answer_rule s a.size a.number a.n (sym c.if-not-is_sound.ensures) c.if-size-self.false
    ∙ rule_long s.length s.count s.ready (table_of s) o a.n new (omega arith) (omega arith) (omega arith))

pub returns : goal.returns
returns c =
    let a = c.args in
    let s = whole a.self a.waiting.now in
    let o = (offset_of a.number s.initial).0 in
    let same : c.offset_from-distance.result.0 ≡ o = ap (λ (d : Offset). d.0) c.offset_from-distance.ensures in
    let new = sym (ap (λ (k : ℕ). there_of s.count (table_of s) k) same) ∙ sym c.if-is_there.ensures in
    let held = c.requires.is in
    sym (answer_rule s a.size a.number a.n (sym c.if-not-is_sound.ensures) c.if-size-self.false
    ∙ rule_stored s.length s.count s.ready (table_of s) o a.n new (omega arith) (omega arith) (omega arith))
