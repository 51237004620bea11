-- The counted steps of an ack speak of the packets that document 01 names, in its order.
use Rattle.std.specs.Prelude.{◌≡◌, Bool, ◌&&◌, cond, ltb, eqb, length, get_or}
use Rattle.std.proofs.Math.Path.{refl, sym, ap, ap₂}
use Rattle.std.proofs.Common.{◌∙◌}
use Rattle.std.proofs.Math.Bool.{true, false}
use mathlib.Core.List.{List, [], ◌∷◌, ◌++◌}
use Prim.Native.Nat.{ℕ, zero, suc, ◌+◌, ◌-◌, ◌*◌, ◌≤◌, ◌<◌}
use native.Mathlib.Omega.{arith}
use Rattle.std.proofs.Math.Dec.{leb}
use Rattle.congestion.specs.Laws.Numbers.{both}
use borrow.Author.Tests.{ltb-true, lt-ltb, le-leb, lt-leb, le-ltb, ne_eqb, leb-true, leb-false}
use Rattle.packet.specs.Sack.{bit_of}
use Rattle.outgoing.specs.declared.ack.Ack.{Ack}
use Rattle.outgoing.specs.declared.ack.Heard.{Heard}
use Rattle.outgoing.specs.declared.ack.Run.{Run}
use Rattle.outgoing.specs.Loss.{is_unacked}
use Rattle.outgoing.specs.Tracker.{no_packet}
use Rattle.outgoing.specs.Ack.{sacked_from, offsets_from, heard_of}
use Rattle.outgoing.specs.Hear.{keeps_of, place_of, newly_heard_of, heard_step, all_heard_of, heard_at, steps_from, run_of, step_of}

pub steps_append : (f : ℕ → ℕ) (m k j : ℕ) → steps_from f j (m + k) ≡ steps_from f j m ++ steps_from f (j + m) k
unfolding steps_from
steps_append f zero k j =
    let e : zero + k ≡ k = omega arith in
    let g : j ≡ j + zero = omega arith in
    ap (steps_from f j) e ∙ ap (λ (n : ℕ). steps_from f n k) g
steps_append f (suc m) k j =
    let e : suc m + k ≡ suc (m + k) = omega arith in
    let g : j + 1 + m ≡ j + suc m = omega arith in
    ap (steps_from f j) e ∙ ap (λ (l : List ℕ). f j ∷ l) (steps_append f m k (j + 1)) ∙ ap (λ (n : ℕ). f j ∷ (steps_from f (j + 1) m ++ steps_from f n k)) g

-- two runs of one length that speak of the same
steps_same : (f g : ℕ → ℕ) (k i j : ℕ) → ((n : ℕ) → n < k → g (i + n) ≡ f (j + n)) → steps_from g i k ≡ steps_from f j k
unfolding steps_from
steps_same f g zero i j e = refl
steps_same f g (suc k) i j e =
    let here : i ≡ i + 0 = omega arith in
    let there : j + 0 ≡ j = omega arith in
    ap₂ (λ (x : ℕ) (l : List ℕ). x ∷ l) (ap g here ∙ e 0 (omega arith) ∙ ap f there) (steps_same f g k (i + 1) (j + 1) (λ n l. next n l))
  where
    next : (n : ℕ) → n < k → g (i + 1 + n) ≡ f (j + 1 + n)
    next n l =
        let one : i + 1 + n ≡ i + (n + 1) = omega arith in
        let two : j + (n + 1) ≡ j + 1 + n = omega arith in
        ap g one ∙ e (n + 1) (omega arith) ∙ ap f two

-- the steps of a run and then those of another, counted through
pub two_runs : (f : ℕ → ℕ) (r t : Run) → steps_from (λ j. f (step_of r t j)) 0 (r.count + t.count) ≡ run_of f r ++ run_of f t
two_runs f r t =
    let g : ℕ → ℕ = λ j. f (step_of r t j) in
    steps_append g r.count t.count 0 ∙ ap₂ (λ (x y : List ℕ). x ++ y) (steps_same f g r.count 0 r.from first) (steps_same f g t.count (0 + r.count) t.from second)
  where
    first : (n : ℕ) → n < r.count → f (step_of r t (0 + n)) ≡ f (r.from + n)
    first n l =
        let e : 0 + n ≡ n = omega arith in
        ap (λ (j : ℕ). f (step_of r t j)) e ∙ ap (λ (b : Bool). f (cond b (r.from + n) (t.from + (n - r.count)))) (lt-ltb n r.count l)

    second : (n : ℕ) → n < t.count → f (step_of r t (0 + r.count + n)) ≡ f (t.from + n)
    second n l =
        let at = 0 + r.count + n in
        let e : t.from + (at - r.count) ≡ t.from + n = omega arith in
        ap (λ (b : Bool). f (cond b (r.from + at) (t.from + (at - r.count)))) (le-ltb at r.count (omega arith)) ∙ ap f e

offsets_append : (m k o : ℕ) → offsets_from o (m + k) ≡ offsets_from o m ++ offsets_from (o + m) k
unfolding offsets_from
offsets_append zero k o =
    let e : zero + k ≡ k = omega arith in
    let g : o ≡ o + zero = omega arith in
    ap (offsets_from o) e ∙ ap (λ (n : ℕ). offsets_from n k) g
offsets_append (suc m) k o =
    let e : suc m + k ≡ suc (m + k) = omega arith in
    let g : o + 1 + m ≡ o + suc m = omega arith in
    ap (offsets_from o) e ∙ ap (λ (l : List ℕ). o ∷ l) (offsets_append m k (o + 1)) ∙ ap (λ (n : ℕ). o ∷ (offsets_from (o + 1) m ++ offsets_from n k)) g

module _ (a : Ack) where
  -- ---- a step

  pub unkept_same : (h : Heard) (o : ℕ) → keeps_of a o ≡ false → heard_step a h o ≡ h
  unkept_same h o e = ap (λ (t : Bool). cond (t && is_unacked (get_or h.packets (place_of a o) no_packet)) (newly_heard_of a h o) h) e

  pub acked_same : (h : Heard) (o : ℕ) → keeps_of a o ≡ true → is_unacked (get_or h.packets (place_of a o) no_packet) ≡ false → heard_step a h o ≡ h
  acked_same h o e u = ap₂ (λ (t v : Bool). cond (t && v) (newly_heard_of a h o) h) e u

  pub unacked_heard : (h : Heard) (o : ℕ) → keeps_of a o ≡ true → is_unacked (get_or h.packets (place_of a o) no_packet) ≡ true
      → heard_step a h o ≡ newly_heard_of a h o
  unacked_heard h o e u = ap₂ (λ (t v : Bool). cond (t && v) (newly_heard_of a h o) h) e u

  early_unkept : (o : ℕ) → o ≤ a.gone → keeps_of a o ≡ false
  early_unkept o h = ap (λ (t : Bool). t && leb o a.count) (le-ltb a.gone o h)

  late_unkept : (o : ℕ) → a.count < o → keeps_of a o ≡ false
  late_unkept o h = ap (λ (t : Bool). ltb a.gone o && t) (lt-leb o a.count h) ∙ and_false_of (ltb a.gone o)
    where
      and_false_of : (t : Bool) → (t && false) ≡ false
      and_false_of true = refl
      and_false_of false = refl

  -- ---- several

  all_append : (os ps : List ℕ) (h : Heard) → all_heard_of a h (os ++ ps) ≡ all_heard_of a (all_heard_of a h os) ps
  unfolding all_heard_of
  all_append [] ps h = refl
  all_append (o ∷ os) ps h = all_append os ps (heard_step a h o)

  all_early : (k o : ℕ) (h : Heard) → o + k ≤ a.gone + 1 → all_heard_of a h (offsets_from o k) ≡ h
  unfolding all_heard_of offsets_from
  all_early zero o h e = refl
  all_early (suc k) o h e =
      ap (λ (g : Heard). all_heard_of a g (offsets_from (o + 1) k)) (unkept_same h o (early_unkept o (omega arith))) ∙ all_early k (o + 1) h (omega arith)

  -- ---- the SACK's part

  module _ (mask : List ℕ) where
    abbrev bit_at : ℕ → ℕ
    bit_at i = cond (bit_of mask i) (a.offset + 2 + i) 0

    bit_step : (bits i : ℕ) → i < bits → heard_at a mask bits (i + 1) ≡ bit_at i
    bit_step bits i h =
        let first : eqb (i + 1) 0 ≡ false = ne_eqb (i + 1) 0 (λ z. omega arith) in
        let within : leb (i + 1) bits ≡ true = le-leb (i + 1) bits (omega arith) in
        let same : i + 1 - 1 ≡ i = omega arith in
        let means : a.offset + 1 + (i + 1) ≡ a.offset + 2 + i = omega arith in
        ap (λ (t : Bool). cond t a.offset (cond (leb (i + 1) bits) (cond (bit_of mask (i + 1 - 1)) (a.offset + 1 + (i + 1)) 0) (a.gone + (i + 1 - bits)))) first
        ∙ ap (λ (t : Bool). cond t (cond (bit_of mask (i + 1 - 1)) (a.offset + 1 + (i + 1)) 0) (a.gone + (i + 1 - bits))) within
        ∙ ap₂ (λ (x y : ℕ). cond (bit_of mask x) y 0) same means

    bit_steps : (bits left i : ℕ) → i + left ≤ bits → steps_from (heard_at a mask bits) (i + 1) left ≡ steps_from bit_at i left
    unfolding steps_from
    bit_steps bits zero i h = refl
    bit_steps bits (suc left) i h = ap₂ (λ (x : ℕ) (l : List ℕ). x ∷ l) (bit_step bits i (omega arith)) (bit_steps bits left (i + 1) (omega arith))

    none_unkept : keeps_of a 0 ≡ false
    none_unkept = early_unkept 0 (omega arith)

    -- past n no bit means a packet that was sent
    bits_past : (left i : ℕ) (h : Heard) → a.count < a.offset + 2 + i → all_heard_of a h (steps_from bit_at i left) ≡ h
    unfolding steps_from all_heard_of
    bits_past zero i h e = refl
    bits_past (suc left) i h e =
        ap (λ (g : Heard). all_heard_of a g (steps_from bit_at (i + 1) left)) (unkept_same h (bit_at i) (past (bit_of mask i))) ∙ bits_past left (i + 1) h (omega arith)
      where
        past : (t : Bool) → keeps_of a (cond t (a.offset + 2 + i) 0) ≡ false
        past true = late_unkept (a.offset + 2 + i) e
        past false = none_unkept

    bits_heard : (left i : ℕ) (h : Heard) → all_heard_of a h (steps_from bit_at i left) ≡ all_heard_of a h (sacked_from mask a.count a.offset i left)
    unfolding steps_from all_heard_of sacked_from
    bits_heard zero i h = refl
    bits_heard (suc left) i h = by_end (λ g. bits_heard left (i + 1) g) (leb (a.offset + 2 + i) a.count) refl
      where
        Again : Type 0
        Again = (g : Heard) → all_heard_of a g (steps_from bit_at (i + 1) left) ≡ all_heard_of a g (sacked_from mask a.count a.offset (i + 1) left)

        by_bit : Again → (t : Bool)
            → all_heard_of a (heard_step a h (cond t (a.offset + 2 + i) 0)) (steps_from bit_at (i + 1) left)
            ≡ all_heard_of a h (cond t ((a.offset + 2 + i) ∷ []) [] ++ sacked_from mask a.count a.offset (i + 1) left)
        by_bit again true = again (heard_step a h (a.offset + 2 + i))
        by_bit again false = ap (λ (g : Heard). all_heard_of a g (steps_from bit_at (i + 1) left)) (unkept_same h 0 none_unkept) ∙ again h

        by_end : Again → (t : Bool) → leb (a.offset + 2 + i) a.count ≡ t
            → all_heard_of a h (steps_from bit_at i (suc left))
            ≡ all_heard_of a h (cond t (cond (bit_of mask i) ((a.offset + 2 + i) ∷ []) [] ++ sacked_from mask a.count a.offset (i + 1) left) [])
        by_end again true e = by_bit again (bit_of mask i)
        by_end again false e = bits_past (suc left) i h (leb-false (a.offset + 2 + i) a.count e)

    -- ---- the earlier ones

    early_step : (bits i : ℕ) → heard_at a mask bits (bits + 1 + i) ≡ a.gone + 1 + i
    early_step bits i =
        let first : eqb (bits + 1 + i) 0 ≡ false = ne_eqb (bits + 1 + i) 0 (λ z. omega arith) in
        let past : leb (bits + 1 + i) bits ≡ false = lt-leb (bits + 1 + i) bits (omega arith) in
        let means : a.gone + (bits + 1 + i - bits) ≡ a.gone + 1 + i = omega arith in
        ap (λ (t : Bool). cond t a.offset (cond (leb (bits + 1 + i) bits) (cond (bit_of mask (bits + 1 + i - 1)) (a.offset + 1 + (bits + 1 + i)) 0) (a.gone + (bits + 1 + i - bits)))) first
        ∙ ap (λ (t : Bool). cond t (cond (bit_of mask (bits + 1 + i - 1)) (a.offset + 1 + (bits + 1 + i)) 0) (a.gone + (bits + 1 + i - bits))) past
        ∙ means

    early_steps : (bits left i : ℕ) → steps_from (heard_at a mask bits) (bits + 1 + i) left ≡ offsets_from (a.gone + 1 + i) left
    unfolding steps_from offsets_from
    early_steps bits zero i = refl
    early_steps bits (suc left) i =
        let e : bits + 1 + i + 1 ≡ bits + 1 + (i + 1) = omega arith in
        let g : a.gone + 1 + (i + 1) ≡ a.gone + 1 + i + 1 = omega arith in
        ap₂ (λ (x : ℕ) (l : List ℕ). x ∷ l) (early_step bits i)
        (ap (λ (n : ℕ). steps_from (heard_at a mask bits) n left) e ∙ early_steps bits left (i + 1) ∙ ap (λ (n : ℕ). offsets_from n left) g)

    earlier_heard : (h : Heard) → 1 ≤ a.offset
        → all_heard_of a h (offsets_from (a.gone + 1) (a.offset - 1 - a.gone)) ≡ all_heard_of a h (offsets_from 1 (a.offset - 1))
    unfolding offsets_from all_heard_of
    earlier_heard h e = by_test (leb a.gone (a.offset - 1)) refl
      where
        by_test : (t : Bool) → leb a.gone (a.offset - 1) ≡ t
            → all_heard_of a h (offsets_from (a.gone + 1) (a.offset - 1 - a.gone)) ≡ all_heard_of a h (offsets_from 1 (a.offset - 1))
        by_test true q =
            let l = leb-true a.gone (a.offset - 1) q in
            let whole : a.gone + (a.offset - 1 - a.gone) ≡ a.offset - 1 = omega arith in
            let from : a.gone + 1 ≡ 1 + a.gone = omega arith in
            ap (λ (n : ℕ). all_heard_of a h (offsets_from n (a.offset - 1 - a.gone))) from
            ∙ sym (ap (λ (g : Heard). all_heard_of a g (offsets_from (1 + a.gone) (a.offset - 1 - a.gone))) (all_early a.gone 1 h (omega arith)))
            ∙ sym (all_append (offsets_from 1 a.gone) (offsets_from (1 + a.gone) (a.offset - 1 - a.gone)) h)
            ∙ ap (all_heard_of a h) (sym (offsets_append a.gone (a.offset - 1 - a.gone) 1) ∙ ap (offsets_from 1) whole)
        by_test false q =
            let l = leb-false a.gone (a.offset - 1) q in
            let none : a.offset - 1 - a.gone ≡ 0 = omega arith in
            ap (λ (n : ℕ). all_heard_of a h (offsets_from (a.gone + 1) n)) none ∙ sym (all_early (a.offset - 1) 1 h (omega arith))

    -- ---- all of it

    pub runs_heard : (h : Heard) (bits : ℕ) → bits ≡ 8 * length mask → 1 ≤ a.offset
        → all_heard_of a h (run_of (heard_at a mask bits) (record { from = 0; count = 1 + bits }) ++ run_of (heard_at a mask bits) (record { from = 1 + bits; count = a.offset - 1 - a.gone }))
        ≡ all_heard_of a h (heard_of a.count a.offset mask)
    unfolding steps_from all_heard_of heard_of
    runs_heard h bits e k =
        let f = heard_at a mask bits in
        let rest = a.offset - 1 - a.gone in
        let one : 1 + bits ≡ suc bits = omega arith in
        let at-end : 1 + bits ≡ bits + 1 + 0 = omega arith in
        let first-early : a.gone + 1 + 0 ≡ a.gone + 1 = omega arith in
        let g = heard_step a h a.offset in
        let sack : steps_from f (0 + 1) bits ≡ steps_from bit_at 0 bits = bit_steps bits bits 0 (omega arith) in
        let early : steps_from f (1 + bits) rest ≡ offsets_from (a.gone + 1) rest =
        ap (λ (n : ℕ). steps_from f n rest) at-end ∙ early_steps bits rest 0 ∙ ap (λ (n : ℕ). offsets_from n rest) first-early in
        ap (λ (n : ℕ). all_heard_of a h (steps_from f 0 n ++ steps_from f (1 + bits) rest)) one
        ∙ ap (all_heard_of a g) (ap₂ (λ (x y : List ℕ). x ++ y) sack early)
        ∙ all_append (steps_from bit_at 0 bits) (offsets_from (a.gone + 1) rest) g
        ∙ earlier_heard (all_heard_of a g (steps_from bit_at 0 bits)) k
        ∙ ap (λ (x : Heard). all_heard_of a x (offsets_from 1 (a.offset - 1))) (bits_heard bits 0 g)
        ∙ sym (all_append (sacked_from mask a.count a.offset 0 bits) (offsets_from 1 (a.offset - 1)) g)
        ∙ ap (λ (n : ℕ). all_heard_of a g (sacked_from mask a.count a.offset 0 n ++ offsets_from 1 (a.offset - 1))) e

  -- one step of a walk
  pub next_step : (f : ℕ → ℕ) (h g : Heard) (j k o : ℕ) → j < k → o ≡ f j → heard_step a h o ≡ g
      → all_heard_of a h (steps_from f j (k - j)) ≡ all_heard_of a g (steps_from f (j + 1) (k - (j + 1)))
  unfolding steps_from all_heard_of
  next_step f h g j k o l e q =
      let one : k - j ≡ suc (k - (j + 1)) = omega arith in
      ap (λ (n : ℕ). all_heard_of a h (steps_from f j n)) one
      ∙ ap (λ (x : Heard). all_heard_of a x (steps_from f (j + 1) (k - (j + 1)))) (sym (ap (heard_step a h) e) ∙ q)

  pub no_step : (f : ℕ → ℕ) (h : Heard) (j : ℕ) → all_heard_of a h (steps_from f j 0) ≡ h
  unfolding steps_from all_heard_of
  no_step f h j = refl

  pub kept_place : (o : ℕ) → keeps_of a o ≡ true → (a.gone < o) × (o ≤ a.count)
  kept_place o e = let p = both (ltb a.gone o) (leb o a.count) e in (ltb-true _ _ p.0, leb-true _ _ p.1)
