-- The steps in which a write is worked out, on numbers alone and on bytes alone. Nothing here is to be believed: the laws tie each to the definitions.
use Prim.Native.Nat.{ℕ, zero, suc, ◌+◌, ◌-◌, ◌≤◌, ◌<◌, zero-le, suc-le-suc}
use Rattle.std.specs.Prelude.{false, ◌≡◌, get_or, replicate}
use mathlib.Core.List.{List, [], ◌∷◌, ◌++◌}
use Rattle.std.proofs.Math.Path.{refl, ap, sym}
use Rattle.std.proofs.Common.{◌∙◌, zero-add, suc-add, not-suc-le-zero, le_of_suc-le-suc, add-one, one-add, arith, take_all, take-take, drop-cons}
use Rattle.std.proofs.Math.Nat.{sub-zero}
use Rattle.std.proofs.Math.ListN.{length, take, drop, set, length-drop}
use Rattle.std.proofs.lemmas.List.{length-replicate}
use Rattle.std.proofs.Math.Seq.{paste, drop-drop, length-take-le}
use Rattle.seq.specs.declared.SeqNum.{SeqNum}
use Rattle.recv.specs.Table.{waits, bytes_in, run_of}
use Rattle.recv.specs.State.{table_of}
use Rattle.recv.specs.Receiver.{put_at}
use Rattle.recv.specs.Calls.{over}
use Rattle.recv.specs.Laws.Moves.{over_front, drop-take}
use Rattle.recv.specs.Laws.Table.{no_wait, bytes_in_take_le}
use Rattle.recv.specs.declared.ReceiveBuffer.{ReceiveBuffer}

-- a payload put in at `at`, before `count` bytes that move up
abbrev pub inserted_of : List ℕ → (at count : ℕ) → List ℕ → List ℕ
inserted_of buf at count payload = (take at buf ++ payload) ++ (take count (drop at buf) ++ drop (at + length payload + count) buf)

-- the state with a payload of n bytes at a place, and every next waiting one ready
unfoldable pub placed_of : ReceiveBuffer → (place n : ℕ) → ReceiveBuffer
placed_of s place n =
    let t = put_at 0 (table_of s) place (suc n) in
    let k = run_of t in
    record {
      initial = s.initial;
      length = s.length;
      count = s.count + k;
      ready = s.ready + bytes_in (take k t);
      span = length t - k;
      waiting = over (drop k t) s.waiting;
    }

-- what is known where a payload is stored
pub record Placeable (s : ReceiveBuffer) (place n : ℕ) : Type 0 where
  pub within : place < 256
  pub places : s.span ≤ 256
  pub reach : s.count + s.span ≤ 60000
  pub first : waits (get_or (table_of s) 0 0) ≡ false
  pub fits : s.ready + bytes_in (table_of s) + n ≤ 65536

-- ---- a payload put into a table

-- an entry put at a place
module _ (d a : ℕ) where
  pub length_put_in : (l : List ℕ) (i : ℕ) → i < length l → length (put_at d l i a) ≡ length l
  length_put_in [] i h = absurd (not-suc-le-zero h)
  length_put_in (x ∷ l) zero h = refl
  length_put_in (x ∷ l) (suc i) h = ap suc (length_put_in l i (le_of_suc-le-suc h))

  pub length_put_out : (l : List ℕ) (i : ℕ) → length l ≤ i → length (put_at d l i a) ≡ suc i
  length_put_out [] zero h = refl
  length_put_out [] (suc i) h = ap suc (length_put_out [] i (omega arith))
  length_put_out (x ∷ l) zero h = absurd (not-suc-le-zero h)
  length_put_out (x ∷ l) (suc i) h = ap suc (length_put_out l i (le_of_suc-le-suc h))

  -- written over the front of the table that it comes from
  pub over_put_in : (w : List ℕ) (n i : ℕ) → i < n → n ≤ length w → over (put_at d (take n w) i a) w ≡ set w i a
  over_put_in [] zero i h f = absurd (not-suc-le-zero h)
  over_put_in [] (suc n) i h f = absurd (not-suc-le-zero f)
  over_put_in (x ∷ w) zero i h f = absurd (not-suc-le-zero h)
  over_put_in (x ∷ w) (suc n) zero h f = ap (λ (r : List ℕ). a ∷ r) (over_front n w)
  over_put_in (x ∷ w) (suc n) (suc i) h f = ap (λ (r : List ℕ). x ∷ r) (over_put_in w n i (le_of_suc-le-suc h) (le_of_suc-le-suc f))

  over_put_none : (w : List ℕ) (g : ℕ) → g < length w → over (put_at d [] g a) w ≡ set (replicate g d ++ drop g w) g a
  over_put_none [] g h = absurd (not-suc-le-zero h)
  over_put_none (x ∷ w) zero h = refl
  over_put_none (x ∷ w) (suc g) h = ap (λ (r : List ℕ). d ∷ r) (over_put_none w g (le_of_suc-le-suc h))

  over_put_out : (w : List ℕ) (n g : ℕ) → n + g < length w → over (put_at d (take n w) (n + g) a) w ≡ set (take n w ++ replicate g d ++ drop (n + g) w) (n + g) a
  over_put_out w zero g h = rw (zero-add g) (over_put_none w g (omega arith))
  over_put_out [] (suc n) g h = absurd (not-suc-le-zero h)
  over_put_out (x ∷ w) (suc n) g h = rw (suc-add n g) (ap (λ (r : List ℕ). x ∷ r) (over_put_out w n g (omega arith)))

  pub over_put_past : (w : List ℕ) (n i : ℕ) → n ≤ i → i < length w → over (put_at d (take n w) i a) w ≡ set (paste w n (replicate (i - n) d) (i - n)) i a
  over_put_past w n i h f =
      let g = i - n in
      let e : n + g ≡ i = omega arith in
      let all : take g (replicate g d) ≡ replicate g d = take_all g (replicate g d) (rw (length-replicate g d) (omega arith)) in
      ap (λ (j : ℕ). over (put_at d (take n w) j a) w) (sym e)
      ∙ over_put_out w n g (omega arith)
      ∙ ap (λ (l : List ℕ). set (take n w ++ l ++ drop (n + g) w) (n + g) a) (sym all)
      ∙ ap (λ (j : ℕ). set (paste w n (replicate g d) g) j a) e

-- past a gap nothing becomes ready
run-put : (t : List ℕ) (i v : ℕ) → waits (get_or t 0 0) ≡ false → run_of (put_at 0 t (suc i) v) ≡ 0
run-put [] i v h = refl
run-put (zero ∷ t) i v h = refl
run-put (suc x ∷ t) i v h = cc

pub run_le : (t : List ℕ) → run_of t ≤ length t
run_le [] = zero-le
run_le (zero ∷ t) = zero-le
run_le (suc x ∷ t) = suc-le-suc (run_le t)

pub same_state : (i : SeqNum) (m : ℕ) {c c' r r' s s' : ℕ} {w w' : List ℕ} → c ≡ c' → r ≡ r' → s ≡ s' → w ≡ w'
    → ◌≡◌ {A = ReceiveBuffer}
    (record { initial = i; length = m; count = c; ready = r; span = s; waiting = w })
    (record { initial = i; length = m; count = c'; ready = r'; span = s'; waiting = w' })
same_state i m p q e f = rw (p, q, e, f)

module _ (s : ReceiveBuffer) (n : ℕ) where
  -- nothing waits: the payload is ready
  pub placed_alone : s.span ≡ 0 → placed_of s 0 n ≡ record { initial = s.initial; length = s.length; count = s.count + 1; ready = s.ready + n; span = s.span; waiting = s.waiting }
  unfolding placed_of
  placed_alone e = rw e (same_state s.initial s.length refl (omega arith) refl refl)

  module _ (all : s.span ≤ length s.waiting) (first : waits (get_or (table_of s) 0 0) ≡ false) where
    -- others wait: it is ready, and with it those that follow
    module _ (some : 0 < s.span) where
      held : length (table_of s) ≡ s.span
      held = length-take-le s.span s.waiting all

      head : table_of s ≡ 0 ∷ drop 1 (table_of s)
      head = drop-cons (table_of s) 0 0 (rw held some) ∙ ap (λ (x : ℕ). x ∷ drop 1 (table_of s)) (no_wait (get_or (table_of s) 0 0) first)

      -- how many become ready
      run : ℕ
      run = 1 + run_of (drop 1 (table_of s))

      pub run_fits : 1 + run_of (drop 1 (table_of s)) ≤ s.span
      run_fits = omega (arith, run_le (drop 1 (table_of s)), length-drop 1 (table_of s), held)

      pub run-bytes : bytes_in (take (1 + run_of (drop 1 (table_of s))) s.waiting) ≤ bytes_in (table_of s)
      run-bytes = rw (sym (take-take (1 + run_of (drop 1 (table_of s))) s.span s.waiting run_fits)) (bytes_in_take_le (table_of s) (1 + run_of (drop 1 (table_of s))))

      pub placed_first :
          placed_of s 0 n
          ≡ record {
            initial = s.initial;
            length = s.length;
            count = s.count + (1 + run_of (drop 1 (table_of s)));
            ready = s.ready + n + bytes_in (take (1 + run_of (drop 1 (table_of s))) s.waiting);
            span = s.span - (1 + run_of (drop 1 (table_of s)));
            waiting = paste s.waiting 0 (drop (1 + run_of (drop 1 (table_of s))) s.waiting) (s.span - (1 + run_of (drop 1 (table_of s))));
          }
      unfolding placed_of
      placed_first =
          let l = drop 1 (table_of s) in
          let k = 1 + run_of l in
          let len : length l ≡ s.span - 1 = length-drop 1 (table_of s) ∙ ap (λ (m : ℕ). m - 1) held in
          let cut : drop (run_of l) l ≡ take (s.span - k) (drop k s.waiting) = drop-drop (run_of l) 1 (table_of s) ∙ drop-take k s.span s.waiting in
          let cut-length : length (drop (run_of l) l) ≡ s.span - k = length-drop (run_of l) l ∙ rw len (omega arith) in
          let front : take k s.waiting ≡ 0 ∷ take (run_of l) l = sym (take-take k s.span s.waiting run_fits) ∙ ap (λ (t : List ℕ). take k t) head ∙ ap (λ (m : ℕ). take m (0 ∷ l)) (one-add (run_of l)) in
          ap (λ (t : List ℕ). put_first s.initial s.length s.count s.ready t s.waiting) head
          ∙ same_state s.initial s.length
          (omega arith)
          (rw front (omega arith))
          (omega arith)
          (ap (λ (m : ℕ). drop (run_of l) l ++ drop m s.waiting) (cut-length ∙ sym (zero-add (s.span - k))) ∙ ap (λ (t : List ℕ). t ++ drop (0 + (s.span - k)) s.waiting) cut)
        where
          put_first : SeqNum → ℕ → ℕ → ℕ → List ℕ → List ℕ → ReceiveBuffer
          put_first i m c r table w =
              let t = put_at 0 table 0 (suc n) in
              record { initial = i; length = m; count = c + run_of t; ready = r + bytes_in (take (run_of t) t); span = length t - run_of t; waiting = over (drop (run_of t) t) w }

    -- past a gap: it waits
    pub placed_in : (place : ℕ) → 0 < place → place < s.span
        → placed_of s place n
        ≡ record { initial = s.initial; length = s.length; count = s.count; ready = s.ready; span = s.span; waiting = set s.waiting place (n + 1) }
    unfolding placed_of
    placed_in zero h f = absurd (not-suc-le-zero h)
    placed_in (suc i) h f =
        let t = table_of s in
        let held : length t ≡ s.span = length-take-le s.span s.waiting all in
        rw (run-put t i (suc n) first) (
        same_state s.initial s.length
        (omega arith)
        (omega arith)
        (sub-zero _ ∙ length_put_in 0 (suc n) t (suc i) (rw held f) ∙ held)
        (over_put_in 0 (suc n) s.waiting s.span (suc i) f all ∙ ap (λ (v : ℕ). set s.waiting (suc i) v) (sym (add-one n)))
        )

    pub placed_past : (place : ℕ) → 0 < place → s.span ≤ place → place < length s.waiting
        → placed_of s place n
        ≡ record {
          initial = s.initial;
          length = s.length;
          count = s.count;
          ready = s.ready;
          span = place + 1;
          waiting = set (paste s.waiting s.span (replicate (place - s.span) 0) (place - s.span)) place (n + 1);
        }
    unfolding placed_of
    placed_past zero h f g = absurd (not-suc-le-zero h)
    placed_past (suc i) h f g =
        let t = table_of s in
        let held : length t ≡ s.span = length-take-le s.span s.waiting all in
        rw (run-put t i (suc n) first) (
        same_state s.initial s.length
        (omega arith)
        (omega arith)
        (sub-zero _ ∙ length_put_out 0 (suc n) t (suc i) (rw held f) ∙ sym (add-one (suc i)))
        (over_put_past 0 (suc n) s.waiting s.span (suc i) f g
        ∙ ap (λ (v : ℕ). set (paste s.waiting s.span (replicate (suc i - s.span) 0) (suc i - s.span)) (suc i) v) (sym (add-one n)))
        )
