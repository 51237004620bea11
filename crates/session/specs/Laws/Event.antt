-- Events: the cases of a known one, and events read one after another.
use Rattle.std.specs.Prelude.{ℕ, zero, suc, ◌+◌, ◌*◌, ◌-◌, ◌≤◌, ◌<◌, Bool, true, ◌&&◌, cond, List, [], ◌∷◌, ◌≡◌, refl, leb, length, take, drop}
use Rattle.std.proofs.Common.{arith, sym, ap, ap₂, ◌∙◌, drop-drop, ne_eqb}
use Rattle.std.proofs.Math.Bool.{and_assoc, and-true}
use Rattle.session.specs.declared.event.Event.{Event}
use Rattle.session.specs.Laws.Number.{field_within, drop_within}
use Rattle.session.specs.Format.{event_of, events_of, is_timeout, is_known, all_known, sack_size, sack_total}

pub known_other : (e : Event) → (e.kind ≡ 1 → ⊥) → (e.kind ≡ 2 → ⊥) → is_timeout e ≡ is_known e
known_other e h k = sym (ap₂ (λ (a b : Bool). cond a (leb e.packet_type 4) (cond b true (is_timeout e))) (ne_eqb e.kind 1 h) (ne_eqb e.kind 2 k))

-- ---- events one after another, from the place of the first

-- One is peeled off the front.
pub events_peel : (n i : ℕ) (l : List ℕ) → i < n
    → events_of (n - i) (drop (72 + 24 * i) l) ≡ event_of (drop (72 + 24 * i) l) ∷ events_of (n - (i + 1)) (drop (72 + 24 * (i + 1)) l)
unfolding events_of
events_peel n i l h =
    let one : n - i ≡ suc (n - (i + 1)) = omega arith in
    let next : 72 + 24 * i + 24 ≡ 72 + 24 * (i + 1) = omega arith in
    ap (λ (k : ℕ). events_of k (drop (72 + 24 * i) l)) one
    ∙ ap (λ (t : List ℕ). event_of (drop (72 + 24 * i) l) ∷ events_of (n - (i + 1)) t) (drop-drop 24 (72 + 24 * i) l ∙ ap (λ (k : ℕ). drop k l) next)

-- All of them, and none.
pub events_all : (n : ℕ) (l : List ℕ) → events_of (n - 0) (drop (72 + 24 * 0) l) ≡ events_of n (drop 72 l)
events_all n l = let all : n - 0 ≡ n = omega arith in ap (λ (k : ℕ). events_of k (drop 72 l)) all

pub events_none : (n i : ℕ) (l : List ℕ) → n ≡ i → events_of (n - i) l ≡ []
unfolding events_of
events_none n i l e = let none : n - i ≡ 0 = omega arith in ap (λ (k : ℕ). events_of k l) none

-- ---- the walk over them

pub known_next : (fine known : Bool) (n i : ℕ) (l : List ℕ) (e : Event) → i < n → e ≡ event_of (drop (72 + 24 * i) l) → known ≡ is_known e
    → fine && all_known (events_of (n - i) (drop (72 + 24 * i) l)) ≡ (fine && known) && all_known (events_of (n - (i + 1)) (drop (72 + 24 * (i + 1)) l))
unfolding all_known
known_next fine known n i l e h is k =
    let rest = all_known (events_of (n - (i + 1)) (drop (72 + 24 * (i + 1)) l)) in
    ap (λ (es : List Event). fine && all_known es) (events_peel n i l h)
    ∙ (ap (λ (x : Event). fine && (is_known x && rest)) (sym is) ∙ (ap (λ (b : Bool). fine && (b && rest)) (sym k) ∙ sym (and_assoc fine known rest)))

pub known_done : (fine : Bool) (n i : ℕ) (l : List ℕ) → n ≡ i → fine && all_known (events_of (n - i) l) ≡ fine
unfolding all_known
known_done fine n i l e = ap (λ (es : List Event). fine && all_known es) (events_none n i l e) ∙ and-true fine

pub total_next : (total size n i : ℕ) (l : List ℕ) (e : Event) → i < n → e ≡ event_of (drop (72 + 24 * i) l) → size ≡ sack_size e
    → total + sack_total (events_of (n - i) (drop (72 + 24 * i) l)) ≡ total + size + sack_total (events_of (n - (i + 1)) (drop (72 + 24 * (i + 1)) l))
unfolding sack_total
total_next total size n i l e h is k =
    let rest = sack_total (events_of (n - (i + 1)) (drop (72 + 24 * (i + 1)) l)) in
    let peeled : sack_total (events_of (n - i) (drop (72 + 24 * i) l)) ≡ sack_size (event_of (drop (72 + 24 * i) l)) + rest = ap sack_total (events_peel n i l h) in
    let same : size ≡ sack_size (event_of (drop (72 + 24 * i) l)) = k ∙ ap sack_size is in
    omega (arith, peeled, same)

pub total_done : (total n i : ℕ) (l : List ℕ) → n ≡ i → total + sack_total (events_of (n - i) l) ≡ total
unfolding sack_total
total_done total n i l e = let none : sack_total (events_of (n - i) l) ≡ 0 = ap sack_total (events_none n i l e) in omega (arith, none)

-- ---- events within their section

event_within : (l : List ℕ) (m : ℕ) → 24 ≤ m → event_of (take m l) ≡ event_of l
unfolding event_of
event_within l m h =
    simp (field_within l m 0 1 (omega arith), field_within l m 1 1 (omega arith), field_within l m 2 2 (omega arith), field_within l m 4 4 (omega arith), field_within l m 8 8 (omega arith), field_within l m 16 8 (omega arith))

pub events_within : (n : ℕ) (l : List ℕ) → events_of n (take (24 * n) l) ≡ events_of n l
unfolding events_of
events_within zero l = refl
events_within (suc n) l =
    let less : 24 * suc n - 24 ≡ 24 * n = omega arith in
    ap₂ (λ (e : Event) (es : List Event). e ∷ es) (event_within l (24 * suc n) (omega arith))
    (ap (events_of n) (drop_within 24 (24 * suc n) l (omega arith) ∙ ap (λ (k : ℕ). take k (drop 24 l)) less) ∙ events_within n (drop 24 l))

pub events_length : (n : ℕ) (l : List ℕ) → length (events_of n l) ≡ n
unfolding events_of
events_length zero l = refl
events_length (suc n) l = ap suc (events_length n (drop 24 l))
