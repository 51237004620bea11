-- Text written into a room piece by piece.
use Rattle.std.specs.Prelude.{ℕ, ◌+◌, ◌-◌, ◌≤◌, Bool, true, false, cond, List, [], ◌∷◌, ◌++◌, ◌≡◌, refl, leb, length, set}
use Rattle.std.proofs.Common.{arith, append_assoc, sym, ap, ap₂, ◌∙◌, length-append, length-set, le-leb, leb-true, leb-false}
use Rattle.std.proofs.lemmas.Bool.{lt-leb}
use Rattle.common.specs.Answer.{done, refused}
use Rattle.common.specs.Laws.Put.{put, put-put, set-two, length-put}
use Rattle.session.specs.declared.line.Line.{Line}
use Rattle.session.specs.Lines.{decimal, line_text}
use Rattle.session.specs.Answers.{pair_text, wrote_of}

-- `text` stands in the room from place `at` on, and `p` is the place behind it.
pub record Placed (room : List ℕ) (at : ℕ) (text r : List ℕ) (p : ℕ) : Type 0 where
  pub place : p ≡ at + length text
  pub room_is : r ≡ put room at text

pub placed-next : (room : List ℕ) (at : ℕ) (text r : List ℕ) (p : ℕ) (t r' : List ℕ) (p' : ℕ) → Placed room at text r p → at + length text ≤ length room
    → p' ≡ p + length t → r' ≡ put r p t → Placed room at (text ++ t) r' p'
placed-next room at text r p t r' p' before fits q e =
    record {
      place = omega (arith, q, before.place, length-append text t);
      room_is = e ∙ (ap₂ (λ (l : List ℕ) (n : ℕ). put l n t) before.room_is before.place ∙ put-put room text t at fits);
    }

-- ---- a line

pub pair_joined : (n m end : ℕ) → (decimal n ++ (32 ∷ [])) ++ (decimal m ++ (end ∷ [])) ≡ pair_text n m end
unfolding pair_text
pair_joined n m end = simp append_assoc

pub line_joined : (l : Line) → (pair_text l.index l.answer 32 ++ pair_text l.in_flight l.maximum 32) ++ pair_text l.timeout l.lost 10 ≡ line_text l
unfolding line_text pair_text
line_joined l = simp append_assoc

-- ---- the line of a refused file

pub bad_stored : (room : List ℕ) (at : ℕ) → at + 4 ≤ length room → set (set (set (set room at 98) (at + 1) 97) (at + 2) 100) (at + 3) 32 ≡ put room at (98 ∷ 97 ∷ 100 ∷ 32 ∷ [])
bad_stored room at h =
    let front : List ℕ = 98 ∷ 97 ∷ [] in
    let long : length (put room at front) ≡ length room = length-put room front at (omega arith) in
    let third : at + 2 + 1 ≡ at + 3 = omega arith in
    ap (λ (l : List ℕ). set (set l (at + 2) 100) (at + 3) 32) (set-two room at 98 97 (omega arith))
    ∙ (ap (λ (n : ℕ). set (set (put room at front) (at + 2) 100) n 32) (sym third)
    ∙ (set-two (put room at front) (at + 2) 100 32 (omega (arith, long)) ∙ put-put room front (100 ∷ 32 ∷ []) at (omega arith)))

pub bad_length : (room : List ℕ) (at : ℕ) → length (set (set (set (set room at 98) (at + 1) 97) (at + 2) 100) (at + 3) 32) ≡ length room
bad_length room at = simp length-set

-- ---- whether there is room

pub wrote_no : (room : List ℕ) (at : ℕ) (text : List ℕ) → leb (at + 126) (length room) ≡ false → (refused 9, room) ≡ wrote_of room at text
unfolding wrote_of
wrote_no room at text e = sym (ap (λ (b : Bool). cond b (done (at + length text), put room at text) (refused 9, room)) e)

pub wrote_yes : (room : List ℕ) (at : ℕ) (text r : List ℕ) (p : ℕ) → leb (at + 126) (length room) ≡ true → p ≡ at + length text → r ≡ put room at text
    → (done p, r) ≡ wrote_of room at text
unfolding wrote_of
wrote_yes room at text r p e q h =
    ap₂ (λ (n : ℕ) (l : List ℕ). (done n, l)) q h ∙ sym (ap (λ (b : Bool). cond b (done (at + length text), put room at text) (refused 9, room)) e)

-- A difference is compared where it is not below 0.
pub room_behind : (length a b total : ℕ) → b ≤ length → total ≡ a + b → leb a (length - b) ≡ leb total length
room_behind length a b total h e = by_test (leb a (length - b)) refl
  where
    by_test : (t : Bool) → leb a (length - b) ≡ t → t ≡ leb total length
    by_test true q = sym (le-leb total length (omega (arith, leb-true a (length - b) q, e, h)))
    by_test false q = sym (lt-leb total length (omega (arith, leb-false a (length - b) q, e, h)))
