-- That the answer is `Stored` tells that the place is free and the bytes fit. The payload goes in behind those that wait before it (`room_stored`), and the table is `placed_stored`'s.
use Rattle.std.proofs.Common.{◌≡◌, ℕ, ◌+◌, ◌-◌, ◌≤◌, List, length, take, drop, sym, ap, ◌∙◌, arith, length-drop}
use Rattle.seq.specs.Seq.{offset_of}
use Rattle.seq.specs.declared.Offset.{Offset}
use Rattle.recv.specs.Lent.{whole}
use Rattle.recv.specs.Table.{bytes_in}
use Rattle.recv.specs.State.{table_of}
use Rattle.recv.specs.Laws.Answers.{stores}
use Rattle.recv.specs.Laws.Steps.{placed_of, inserted_of}
use Rattle.recv.specs.Laws.Stored.{placed_stored, room_stored}
use Rattle.recv.specs.Laws.Table.{bytes_in_take_le}
use Rattle.recv.proofs.Counts.store.Goals as goal

pub overflow_sub-place : goal.overflow_sub-place
overflow_sub-place c =
    let a = c.args in
    let known = stores (whole a.self a.waiting.now) (length a.buf.now) a.number (length a.payload.now) c.requires.0 in
    let same = ap (λ (d : Offset). d.0) c.offset_from-offset.ensures in
    omega arith

pub overflow_sub-place-2 : goal.overflow_sub-place-2
overflow_sub-place-2 c =
    let a = c.args in
    let known = stores (whole a.self a.waiting.now) (length a.buf.now) a.number (length a.payload.now) c.requires.0 in
    let same = ap (λ (d : Offset). d.0) c.offset_from-offset.ensures in
    omega arith

pub overflow_add-self : goal.overflow_add-self
overflow_add-self c =
    let a = c.args in
    let known = stores (whole a.self a.waiting.now) (length a.buf.now) a.number (length a.payload.now) c.requires.0 in
    let before = c.bytes_before-before.ensures ∙ ap (λ (t : List ℕ). bytes_in (take (c.offset_from-offset.result.0 - a.self.count - 1) t)) c.table.ensures in
    let less = bytes_in_take_le (table_of (whole a.self a.waiting.now)) (c.offset_from-offset.result.0 - a.self.count - 1) in
    omega (arith, known, before, less)

pub overflow_sub-held : goal.overflow_sub-held
overflow_sub-held c =
    let a = c.args in
    let before = c.bytes_before-before.ensures ∙ ap (λ (t : List ℕ). bytes_in (take (c.offset_from-offset.result.0 - a.self.count - 1) t)) c.table.ensures in
    let less = bytes_in_take_le (table_of (whole a.self a.waiting.now)) (c.offset_from-offset.result.0 - a.self.count - 1) in
    omega (arith, c.requires.1.is, before, less)

pub insert-requires : goal.insert-requires
insert-requires c =
    let a = c.args in
    let known = stores (whole a.self a.waiting.now) (length a.buf.now) a.number (length a.payload.now) c.requires.0 in
    let before = c.bytes_before-before.ensures ∙ ap (λ (t : List ℕ). bytes_in (take (c.offset_from-offset.result.0 - a.self.count - 1) t)) c.table.ensures in
    let less = bytes_in_take_le (table_of (whole a.self a.waiting.now)) (c.offset_from-offset.result.0 - a.self.count - 1) in
    omega (arith, known, c.requires.1.is, before, less)

pub overflow_cast-payload : goal.overflow_cast-payload
overflow_cast-payload c =
    let a = c.args in
    omega (arith, stores (whole a.self a.waiting.now) (length a.buf.now) a.number (length a.payload.now) c.requires.0)

pub placed-requires : goal.placed-requires
placed-requires c =
    let a = c.args in
    let known = stores (whole a.self a.waiting.now) (length a.buf.now) a.number (length a.payload.now) c.requires.0 in
    let same = ap (λ (d : Offset). d.0) c.offset_from-offset.ensures in
    record {
      within = omega (arith, known, same);
      places = known.sound.places;
      reach = known.sound.reach;
      first = known.sound.first;
      fits = omega (arith, known);
    }

pub returns : goal.returns
returns c =
    let a = c.args in
    let s = whole a.self a.waiting.now in
    let buf = a.buf.now in
    let payload = a.payload.now in
    let n = length payload in
    let o = (offset_of a.number s.initial).0 in
    let known = stores s (length buf) a.number n c.requires.0 in
    let same : c.offset_from-offset.result.0 ≡ o = ap (λ (d : Offset). d.0) c.offset_from-offset.ensures in
    let fits : s.ready ≤ length buf = omega (arith, known) in
    let held : bytes_in (table_of s) ≤ length (drop s.ready buf) = rw (length-drop s.ready buf) (omega (arith, known)) in
    let place : c.offset_from-offset.result.0 - s.count - 1 ≡ o - (s.count + 1) = omega (arith, same) in (
      c.placed.ensures ∙ ap (λ (i : ℕ). placed_of s i n) place ∙ placed_stored s buf fits held o payload,
      c.insert.ensures
          ∙ ap (λ (b : ℕ). inserted_of buf (s.ready + b) (a.held - b) payload) (c.bytes_before-before.ensures ∙ ap (λ (t : List ℕ). bytes_in (take (c.offset_from-offset.result.0 - s.count - 1) t)) c.table.ensures ∙ ap (λ (i : ℕ). bytes_in (take i (table_of s))) place)
          ∙ ap (λ (h : ℕ). inserted_of buf (s.ready + bytes_in (take (o - (s.count + 1)) (table_of s))) (h - bytes_in (take (o - (s.count + 1)) (table_of s))) payload) c.requires.1.is
          ∙ sym (room_stored s buf fits held o payload known.new),
    )
