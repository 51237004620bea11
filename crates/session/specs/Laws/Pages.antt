-- What is printed by a caller who fills a room again and again is what the document says: `pages_printed`.
use Rattle.std.specs.Prelude.{ℕ, zero, suc, ◌+◌, ◌*◌, ◌-◌, ◌≤◌, ◌<◌, Bool, true, false, ◌&&◌, cond, List, [], ◌∷◌, ◌++◌, ◌≡◌, refl, leb, ltb, length, take, drop}
use Rattle.std.proofs.Common.{arith, append_assoc, sym, ap, ◌∙◌, subst, length-append, length-drop, length-take-le, le-leb, leb-true, ltb-true, ltb-false}
use Rattle.std.proofs.Math.Seq.{take-append-add, take-append_seam}
use Rattle.std.proofs.Math.Bool.{and-false}
use Rattle.std.proofs.lemmas.Bool.{true≢false}
use Rattle.common.specs.Answer.{Answer, done}
use Rattle.common.specs.Laws.Put.{put}
use Rattle.congestion.specs.Laws.Numbers.{both}
use Rattle.session.specs.declared.line.Line.{Line}
use Rattle.session.specs.declared.replay.Replay.{Replay}
use Rattle.session.specs.declared.replay.Filled.{Filled}
use Rattle.session.specs.Lines.{line_text, printed}
use Rattle.session.specs.Replay.{step_answer, turn_of, turns_of, fill_answer, text_then, start_text, pages_text, start_answer}
use Rattle.session.specs.Laws.Session.{count_in}
use Rattle.session.specs.Laws.Step.{step_ended}
use Rattle.session.specs.Laws.Page.{goes_on, turns_all, turns_stop, turns_next}
use Rattle.session.specs.Laws.Printed.{Stands, rest_of, ended-printed, after, next_stands, stepped, one-printed, start-printed}

-- A text behind what stands before it.
take_put : (room : List ℕ) (used : ℕ) (text : List ℕ) → used ≤ length room → take (used + length text) (put room used text) ≡ take used room ++ text
unfolding put
take_put room used text h =
    let front : length (take used room) ≡ used = length-take-le used room (omega arith) in
    let rest = drop (used + length text) room in
    ap (λ (k : ℕ). take (k + length text) (take used room ++ (text ++ rest))) (sym front)
    ∙ (take-append-add (take used room) (text ++ rest) (length text) ∙ ap (λ (l : List ℕ). take used room ++ l) (take-append_seam text rest))

put_no_shorter : (room : List ℕ) (used : ℕ) (text : List ℕ) → used ≤ length room → length room ≤ length (put room used text)
unfolding put
put_no_shorter room used text h =
    let front : length (take used room) ≡ used = length-take-le used room (omega arith) in
    let rest = drop (used + length text) room in
    omega (arith, front, length-append (take used room) (text ++ rest), length-append text rest, length-drop (used + length text) room)

-- What a page and the lines that are still to come print, all in all.
record Prints (file : List ℕ) (r : Replay) (used : ℕ) (room : List ℕ) (q : Filled × List ℕ) : Type 0 where
  text : take q.0.used q.1 ++ cond q.0.ended [] (rest_of file q.0.replay) ≡ take used room ++ rest_of file r
  stands : q.0.ended ≡ false → Stands file q.0.replay
  no_shorter : length room ≤ length q.1
  further : r.index ≤ q.0.replay.index

abbrev page_at : ℕ → Replay → Filled
page_at used r = record { used = used; ended = false; replay = r }

-- No turn more.
prints_now : (file : List ℕ) (r : Replay) (used : ℕ) (room : List ℕ) → Stands file r → Prints file r used room (page_at used r, room)
prints_now file r used room s = record { text = refl; stands = λ e. s; no_shorter = omega arith; further = omega arith }

-- A turn that finds no event left.
prints_ended : (file : List ℕ) (r : Replay) (used : ℕ) (room : List ℕ) → Stands file r → count_in file ≤ r.index → Prints file r used room (record { used = used; ended = true; replay = r }, room)
prints_ended file r used room s h =
    record { text = ap (λ (l : List ℕ). take used room ++ l) (ended-printed file r h s.to); stands = λ e. s; no_shorter = omega arith; further = omega arith }

-- A turn that writes a line, and what follows it.
prints_line : (file : List ℕ) (long : 76 + 24 * count_in file ≤ length file) (r : Replay) (s : Stands file r) (h : r.index < count_in file) (used : ℕ) (room : List ℕ) (line : Line) (q : Filled × List ℕ)
    → step_answer file r ≡ (done (line ∷ []), after file long r s h) → used ≤ length room
    → Prints file (after file long r s h) (used + length (line_text line)) (put room used (line_text line)) q → Prints file r used room q
prints_line file long r s h used room line q e fits p =
    let next = rest_of file (after file long r s h) in
    let rest : line_text line ++ next ≡ rest_of file r =
    ap (λ (x : Answer (List Line) × Replay). text_then x.0 next) (sym e) ∙ one-printed file long r s h next refl in
    record {
      text = p.text ∙ (ap (λ (l : List ℕ). l ++ next) (take_put room used (line_text line) fits) ∙ (append_assoc (take used room) (line_text line) next ∙ ap (λ (l : List ℕ). take used room ++ l) rest));
      stands = p.stands;
      no_shorter = omega (arith, p.no_shorter, put_no_shorter room used (line_text line) fits);
      further = omega (arith, p.further);
    }

-- The same of the turns that follow.
line_turn : (file : List ℕ) (long : 76 + 24 * count_in file ≤ length file) (r : Replay) (s : Stands file r) (h : r.index < count_in file) (used : ℕ) (room : List ℕ) (line : Line) (k : ℕ)
    → step_answer file r ≡ (done (line ∷ []), after file long r s h) → used ≤ length room
    → Prints file (after file long r s h) (used + length (line_text line)) (put room used (line_text line))
    (turns_of file k (page_at (used + length (line_text line)) (after file long r s h), put room used (line_text line)))
    → Prints file r used room (turns_of file k (turn_of room used (step_answer file r)))
unfolding turn_of
line_turn file long r s h used room line k e fits p =
    subst (λ (x : Answer (List Line) × Replay). Prints file r used room (turns_of file k (turn_of room used x))) (sym e) (prints_line file long r s h used room line _ e fits p)

ended_turn : (file : List ℕ) (r : Replay) (s : Stands file r) (used : ℕ) (room : List ℕ) (k : ℕ) → count_in file ≤ r.index → Prints file r used room (turns_of file k (turn_of room used (step_answer file r)))
unfolding turn_of
ended_turn file r s used room k h =
    let q : Filled × List ℕ = (record { used = used; ended = true; replay = r }, room) in
    subst (λ (x : Answer (List Line) × Replay). Prints file r used room (turns_of file k (turn_of room used x))) (step_ended file r (omega (arith, h, s.counts)))
    (subst (λ (x : Filled × List ℕ). Prints file r used room x) (sym (turns_stop file k q (and-false (leb (used + 126) (length room))))) (prints_ended file r used room s h))

-- Any number of turns.
turns_print : (file : List ℕ) (long : 76 + 24 * count_in file ≤ length file) (k : ℕ) (r : Replay) (used : ℕ) (room : List ℕ) → Stands file r
    → Prints file r used room (turns_of file k (page_at used r, room))
unfolding turns_of
turns_print file long zero r used room s = prints_now file r used room s
turns_print file long (suc k) r used room s = by_test (λ x u l y. turns_print file long k x u l y) (goes_on (page_at used r, room)) refl (ltb r.index (count_in file)) refl
  where
    by_test : ((x : Replay) (u : ℕ) (l : List ℕ) → Stands file x → Prints file x u l (turns_of file k (page_at u x, l)))
        → (b : Bool) → goes_on (page_at used r, room) ≡ b → (c : Bool) → ltb r.index (count_in file) ≡ c
        → Prints file r used room (cond b (turns_of file k (turn_of room used (step_answer file r))) (page_at used r, room))
    by_test again false e c i = prints_now file r used room s
    by_test again true e true i =
        let h : r.index < count_in file = ltb-true r.index (count_in file) i in
        let fits : used + 126 ≤ length room = leb-true (used + 126) (length room) (both (leb (used + 126) (length room)) true e).0 in
        line_turn file long r s h used room _ k (stepped file long r s h) (omega (arith, fits)) (again (after file long r s h) _ _ (next_stands file long r s h))
    by_test again true e false i = ended_turn file r s used room k (ltb-false r.index (count_in file) i)

-- A call that fills a room of at least one line ends, or comes further.
call_further : (file : List ℕ) (long : 76 + 24 * count_in file ≤ length file) (r : Replay) (room : List ℕ) → Stands file r → 126 ≤ length room
    → (fill_answer file r room).0.ended ≡ false → r.index < (fill_answer file r room).0.replay.index
unfolding turn_of
call_further file long r room s h e = by_test (ltb r.index (count_in file)) refl
  where
    first : fill_answer file r room ≡ turns_of file (length room - (0 + 1)) (turn_of room 0 (step_answer file r))
    first =
        turns_all file (length room) (page_at 0 r, room)
        ∙ turns_next file (length room) 0 (page_at 0 r, room) (turn_of room 0 (step_answer file r)) (omega (arith, h)) (ap (λ (b : Bool). b && true) (le-leb (0 + 126) (length room) h)) refl

    came : (i : r.index < count_in file) (line : Line) → step_answer file r ≡ (done (line ∷ []), after file long r s i) → r.index < (fill_answer file r room).0.replay.index
    came i line q =
        let page : Filled × List ℕ = (page_at (0 + length (line_text line)) (after file long r s i), put room 0 (line_text line)) in
        let eq : fill_answer file r room ≡ turns_of file (length room - (0 + 1)) page = first ∙ ap (λ (x : Answer (List Line) × Replay). turns_of file (length room - (0 + 1)) (turn_of room 0 x)) q in
        let on = (turns_print file long (length room - (0 + 1)) (after file long r s i) (0 + length (line_text line)) (put room 0 (line_text line)) (next_stands file long r s i)).further in
        subst (λ (x : Filled × List ℕ). r.index < x.0.replay.index) (sym eq) (omega (arith, on))

    by_test : (b : Bool) → ltb r.index (count_in file) ≡ b → r.index < (fill_answer file r room).0.replay.index
    by_test true i = let i' = ltb-true r.index (count_in file) i in came i' _ (stepped file long r s i')
    by_test false i =
        let page : Filled × List ℕ = (record { used = 0; ended = true; replay = r }, room) in
        let n : count_in file ≤ r.index = ltb-false r.index (count_in file) i in
        let eq : fill_answer file r room ≡ page =
        first
        ∙ (ap (λ (x : Answer (List Line) × Replay). turns_of file (length room - (0 + 1)) (turn_of room 0 x)) (sym (step_ended file r (omega (arith, n, s.counts))))
        ∙ turns_stop file (length room - (0 + 1)) page (and-false (leb (0 + 126) (length room)))) in
        absurd (true≢false (sym (ap (λ (x : Filled × List ℕ). x.0.ended) eq) ∙ e))

pages_lines : (file : List ℕ) → 76 + 24 * count_in file ≤ length file → (calls : ℕ) (r : Replay) (room : List ℕ) → Stands file r → 126 ≤ length room → count_in file - r.index < calls
    → pages_text file room calls r ≡ rest_of file r
unfolding pages_text
pages_lines file long zero r room s fits few = absurd (omega arith)
pages_lines file long (suc calls) r room s fits few = by_end (λ x l y f g. pages_lines file long calls x l y f g) (fill_answer file r room).0.ended refl
  where
    by_end : ((x : Replay) (l : List ℕ) → Stands file x → 126 ≤ length l → count_in file - x.index < calls → pages_text file l calls x ≡ rest_of file x)
        → (b : Bool) → (fill_answer file r room).0.ended ≡ b
        → take (fill_answer file r room).0.used (fill_answer file r room).1 ++ cond b [] (pages_text file (fill_answer file r room).1 calls (fill_answer file r room).0.replay) ≡ rest_of file r
    by_end again true e =
        let q = fill_answer file r room in
        let p = turns_print file long (length room) r 0 room s in
        ap (λ (b : Bool). take q.0.used q.1 ++ cond b [] (rest_of file q.0.replay)) (sym e) ∙ p.text
    by_end again false e =
        let q = fill_answer file r room in
        let p = turns_print file long (length room) r 0 room s in
        ap (λ (l : List ℕ). take q.0.used q.1 ++ l)
        (again q.0.replay q.1 (p.stands e) (omega (arith, p.no_shorter, fits)) (omega (arith, call_further file long r room s fits e, few, (p.stands e).to)))
        ∙ (ap (λ (b : Bool). take q.0.used q.1 ++ cond b [] (rest_of file q.0.replay)) (sym e) ∙ p.text)

-- What a caller prints who fills a room for at least one line again and again, and writes the one line of a refused file, is all that the document prints. One call more than there are events
-- is enough, and after the call that ends there is no other.
pub pages_printed : (file room : List ℕ) (calls : ℕ) → 126 ≤ length room → (start_answer file).1.count < calls → start_text (pages_text file room calls) (start_answer file) ≡ printed file
pages_printed file room calls fits h =
    start-printed file (pages_text file room calls) (λ long s. pages_lines file long calls (start_answer file).1 room s fits (omega (arith, h, s.counts)))
