-- A file by places: what it is to be a whole session, and that anything else gives 20.
use Rattle.std.specs.Prelude.{ℕ, ◌+◌, ◌*◌, ◌-◌, ◌≤◌, Bool, true, false, cond, List, ◌≡◌, refl, leb, eqb, length, take, drop, Some, None}
use Rattle.std.proofs.lemmas.Option.{cond_some, none-some}
use Rattle.std.proofs.Common.{add-zero, arith, sym, ap, ap₂, ◌∙◌, length-drop, drop-drop, take_all, le-leb, leb-true, eq-eqb, eqb-true}
use Rattle.common.specs.Answer.{Answer, done, refused}
use Rattle.congestion.specs.Laws.Numbers.{both, and_of}
use Rattle.outgoing.specs.Laws.Checks.{never, held}
use Rattle.session.specs.declared.event.Event.{Event}
use Rattle.session.specs.declared.check.Layout.{Layout}
use Rattle.session.specs.Format.{◌into◌, field_at, Section, section_of, Sections, sections_of, initial_in, settings_in, events_of, all_known, sack_total, Session, session_in, is_whole, session_of}
use Rattle.session.specs.Check.{layout_in, known_total, check_of}
use Rattle.session.specs.Laws.Number.{field_from, setting_read}
use Rattle.session.specs.Laws.Event.{events_within, events_length}

-- ---- answers one after another

pub done_one : {A : Type 0} (x y : A) → ◌≡◌ {A = Answer A} (done x) (done y) → x ≡ y
done_one x y e = cc

record Came {A B : Type 0} (a : Answer A) (f : A → Answer B) (v : B) : Type 0 where
  value : A
  came : a ≡ done value
  goes : f value ≡ done v

into_held : {A B : Type 0} (a : Answer A) (f : A → Answer B) (v : B) → (a into f) ≡ done v → Came a f v
into_held (done x) f v e = record { value = x; came = refl; goes = e }
into_held (refused n) f v e = never n v e

-- Every refusal is 20.
abbrev Only20 : {A : Type 0} → Answer A → Type 0
Only20 (done a) = Unit {0}
Only20 (refused n) = n ≡ 20

only_into : {A B : Type 0} (a : Answer A) (f : A → Answer B) → Only20 a → ((x : A) → Only20 (f x)) → Only20 (a into f)
only_into (done x) f h k = k x
only_into (refused n) f h k = h

only_cond : {A : Type 0} (t : Bool) (x : A) → Only20 (cond t (done x) (refused 20))
only_cond true x = tt
only_cond false x = refl

never_done : {A : Type 0} (a : Answer A) → Only20 a → ((x : A) → a ≡ done x → ⊥) → a ≡ refused 20
never_done (done x) h k = absurd (k x refl)
never_done (refused n) h k = ap refused h

-- ---- a section at a place

abbrev section_at : List ℕ → ℕ → ℕ → ℕ → Section
section_at file at size n = record { count = n; items = take (size * n) (drop (at + 4) file); rest = drop (at + 4 + size * n) file }

section_is : (file : List ℕ) (at size n : ℕ) → field_at file at 4 ≡ n
    → record { count = field_at (drop at file) 0 4; items = take (size * field_at (drop at file) 0 4) (drop 4 (drop at file)); rest = drop (4 + size * field_at (drop at file) 0 4) (drop at file) }
    ≡ section_at file at size n
section_is file at size n e =
    let count : field_at (drop at file) 0 4 ≡ n = field_from file at 0 4 ∙ (ap (λ (p : ℕ). field_at file p 4) (add-zero at) ∙ e) in
    let further : at + (4 + size * n) ≡ at + 4 + size * n = omega arith in
    ap (λ (m : ℕ). record { count = m; items = take (size * m) (drop 4 (drop at file)); rest = drop (4 + size * m) (drop at file) }) count
    ∙ (ap (λ (t : List ℕ). record { count = n; items = take (size * n) t; rest = drop (4 + size * n) (drop at file) }) (drop-drop 4 at file)
    ∙ ap (λ (t : List ℕ). record { count = n; items = take (size * n) (drop (at + 4) file); rest = t })
    (drop-drop (4 + size * n) at file ∙ ap (λ (m : ℕ). drop m file) further))

-- A section in place, with its count.
abbrev raw_at : ℕ → List ℕ → Section
raw_at size l = record { count = field_at l 0 4; items = take (size * field_at l 0 4) (drop 4 l); rest = drop (4 + size * field_at l 0 4) l }

count_at : (file : List ℕ) (at : ℕ) → field_at (drop at file) 0 4 ≡ field_at file at 4
count_at file at = field_from file at 0 4 ∙ ap (λ (p : ℕ). field_at file p 4) (add-zero at)

section_there : (file : List ℕ) (at size n : ℕ) → field_at file at 4 ≡ n → at + 4 + size * n ≤ length file → section_of size (drop at file) ≡ done (section_at file at size n)
unfolding section_of
section_there file at size n e h =
    let count : field_at (drop at file) 0 4 ≡ n = count_at file at ∙ e in
    let whole : size * field_at (drop at file) 0 4 ≡ size * n = ap (λ (m : ℕ). size * m) count in
    let fits : 4 + size * field_at (drop at file) 0 4 ≤ length (drop at file) = omega (arith, whole, length-drop at file) in
    ap (λ (b : Bool). cond b (done (raw_at size (drop at file))) (refused 20)) (le-leb _ _ fits) ∙ ap done (section_is file at size n e)

section_held : (file : List ℕ) (at size : ℕ) (a : Section) → section_of size (drop at file) ≡ done a
    → (at + 4 + size * field_at file at 4 ≤ length file) × (a ≡ section_at file at size (field_at file at 4))
unfolding section_of
section_held file at size a e =
    let h = held (leb (4 + size * field_at (drop at file) 0 4) (length (drop at file))) (done (raw_at size (drop at file))) 20 a e in
    let whole : size * field_at (drop at file) 0 4 ≡ size * field_at file at 4 = ap (λ (m : ℕ). size * m) (count_at file at) in
    let fits : 4 + size * field_at (drop at file) 0 4 ≤ length (drop at file) = leb-true _ _ h.0 in
    (omega (arith, whole, fits, length-drop at file), sym (done_one (raw_at size (drop at file)) a h.1) ∙ section_is file at size (field_at file at 4) refl)

-- ---- the places

-- The count of the events, and the count of the SACK section behind them.
abbrev pub count_in : List ℕ → ℕ
count_in file = field_at file 68 4

abbrev pub sack_count_in : List ℕ → ℕ
sack_count_in file = field_at file (72 + 24 * count_in file) 4

abbrev pub events_in : List ℕ → List Event
events_in file = events_of (count_in file) (drop 72 file)

pub record Whole (file : List ℕ) : Type 0 where
  pub settings_count : field_at file 0 4 ≡ 8
  pub initial_to : field_at file 4 8 ≤ 65535
  pub filled : length file ≡ 76 + 24 * count_in file + sack_count_in file
  pub known : all_known (events_in file) ≡ true
  pub total : sack_total (events_in file) ≡ sack_count_in file

abbrev pub placed : List ℕ → Session
placed file =
    record {
      initial = field_at file 4 8;
      settings = settings_in (take 64 (drop 4 file));
      events = events_in file;
      sack = drop (76 + 24 * count_in file) file;
    }

-- ---- a whole file is a session

abbrev sections_at : List ℕ → Sections
sections_at file =
    record {
      settings = section_at file 0 8 8;
      events = section_at file 68 24 (count_in file);
      sack = section_at file (72 + 24 * count_in file) 1 (sack_count_in file);
    }

sections_there : (file : List ℕ) → Whole file → sections_of file ≡ done (sections_at file)
unfolding sections_of
sections_there file w =
    let a = section_at file 0 8 8 in
    let b = section_at file 68 24 (count_in file) in
    let c = section_at file (72 + 24 * count_in file) 1 (sack_count_in file) in
    ap (λ (x : Answer Section). x into λ a. section_of 24 a.rest into λ b. section_of 1 b.rest into λ c. done (record { settings = a; events = b; sack = c }))
    (section_there file 0 8 8 w.settings_count (omega (arith, w.filled)))
    ∙ (ap (λ (x : Answer Section). x into λ b. section_of 1 b.rest into λ c. done (record { settings = a; events = b; sack = c }))
    (section_there file 68 24 (count_in file) refl (omega (arith, w.filled)))
    ∙ ap (λ (x : Answer Section). x into λ c. done (record { settings = a; events = b; sack = c }))
    (section_there file (72 + 24 * count_in file) 1 (sack_count_in file) refl (omega (arith, w.filled))))

session_at : (file : List ℕ) → length file ≡ 76 + 24 * count_in file + sack_count_in file → session_in (sections_at file) ≡ placed file
unfolding session_in
session_at file h =
    let n = count_in file in
    let k = sack_count_in file in
    let there : 72 + 24 * n + 4 ≡ 76 + 24 * n = omega arith in
    let few : length (drop (72 + 24 * n + 4) file) ≤ 1 * k = omega (arith, length-drop (72 + 24 * n + 4) file, h) in
    let sack : take (1 * k) (drop (72 + 24 * n + 4) file) ≡ drop (76 + 24 * n) file = take_all (1 * k) (drop (72 + 24 * n + 4) file) few ∙ ap (λ (p : ℕ). drop p file) there in
    ap (λ (i : ℕ). record { initial = i; settings = settings_in (take 64 (drop 4 file)); events = events_of n (take (24 * n) (drop 72 file)); sack = take (1 * k) (drop (72 + 24 * n + 4) file) })
    (setting_read file 0 (omega arith))
    ∙ (ap (λ (es : List Event). record { initial = field_at file 4 8; settings = settings_in (take 64 (drop 4 file)); events = es; sack = take (1 * k) (drop (72 + 24 * n + 4) file) })
    (events_within n (drop 72 file))
    ∙ ap (λ (t : List ℕ). record { initial = field_at file 4 8; settings = settings_in (take 64 (drop 4 file)); events = events_in file; sack = t }) sack)

whole_test : (file : List ℕ) → Whole file → is_whole (sections_at file) ≡ true
unfolding is_whole
whole_test file w =
    let n = count_in file in
    let k = sack_count_in file in
    let s = session_at file w.filled in
    let none : length (drop (72 + 24 * n + 4 + 1 * k) file) ≡ 0 = omega (arith, length-drop (72 + 24 * n + 4 + 1 * k) file, w.filled) in
    and_of _ _ (and_of _ _ (and_of _ _ (and_of _ _ refl (ap (λ (x : Session). leb x.initial 65535) s ∙ le-leb _ _ w.initial_to)) (ap (λ (x : Session). all_known x.events) s ∙ w.known))
    (ap (λ (x : Session). eqb k (sack_total x.events)) s ∙ eq-eqb k (sack_total (events_in file)) (sym w.total)))
    (eq-eqb _ _ none)

pub whole_session : (file : List ℕ) → Whole file → session_of file ≡ done (placed file)
unfolding session_of
whole_session file w =
    ap (λ (x : Answer Sections). x into λ s. cond (is_whole s) (done (session_in s)) (refused 20)) (sections_there file w)
    ∙ (ap (λ (b : Bool). cond b (done (session_in (sections_at file))) (refused 20)) (whole_test file w) ∙ ap done (session_at file w.filled))

-- ---- a session is a whole file, and anything else gives 20

facts : (file : List ℕ) (a b c : Section) → section_of 8 file ≡ done a → section_of 24 a.rest ≡ done b → section_of 1 b.rest ≡ done c
    → is_whole (record { settings = a; events = b; sack = c }) ≡ true → Whole file
unfolding is_whole session_in
facts file a b c ea eb ec e =
    let n = count_in file in
    let k = sack_count_in file in
    let t4 = both _ (eqb (length c.rest) 0) e in
    let t3 = both _ (eqb c.count (sack_total (events_of b.count b.items))) t4.0 in
    let t2 = both _ (all_known (events_of b.count b.items)) t3.0 in
    let t1 = both (eqb a.count 8) (leb (initial_in a.items) 65535) t2.0 in
    let ha = section_held file 0 8 a ea in
    let eight : field_at file 0 4 ≡ 8 = sym (ap (λ (x : Section). x.count) ha.1) ∙ eqb-true a.count 8 t1.0 in
    let a8 : a ≡ section_at file 0 8 8 = ha.1 ∙ ap (section_at file 0 8) eight in
    let hb = section_held file 68 24 b (ap (λ (x : Section). section_of 24 x.rest) (sym a8) ∙ eb) in
    let hc = section_held file (72 + 24 * n) 1 c (ap (λ (x : Section). section_of 1 x.rest) (sym hb.1) ∙ ec) in
    let events : events_of b.count b.items ≡ events_in file = ap (λ (x : Section). events_of x.count x.items) hb.1 ∙ events_within n (drop 72 file) in
    let initial : initial_in a.items ≡ field_at file 4 8 = ap (λ (x : Section). initial_in x.items) a8 ∙ setting_read file 0 (omega arith) in
    let rest : length c.rest ≡ length (drop (72 + 24 * n + 4 + 1 * k) file) = ap (λ (x : Section). length x.rest) hc.1 in
    record {
      settings_count = eight;
      initial_to = omega (arith, initial, leb-true (initial_in a.items) 65535 t1.1);
      filled = omega (arith, rest, eqb-true (length c.rest) 0 t4.1, length-drop (72 + 24 * n + 4 + 1 * k) file, hc.0);
      known = ap all_known (sym events) ∙ t2.1;
      total = ap sack_total (sym events) ∙ (sym (eqb-true c.count (sack_total (events_of b.count b.items)) t3.1) ∙ ap (λ (x : Section). x.count) hc.1);
    }

pub session_whole : (file : List ℕ) (s : Session) → session_of file ≡ done s → Whole file
unfolding session_of sections_of
session_whole file s e =
    let w = into_held (sections_of file) (λ s. cond (is_whole s) (done (session_in s)) (refused 20)) s e in
    let h = held (is_whole w.value) (done (session_in w.value)) 20 s w.goes in
    let x = into_held (section_of 8 file) (λ a. section_of 24 a.rest into λ b. section_of 1 b.rest into λ c. done (record { settings = a; events = b; sack = c })) w.value w.came in
    let y = into_held (section_of 24 x.value.rest) (λ b. section_of 1 b.rest into λ c. done (record { settings = x.value; events = b; sack = c })) w.value x.goes in
    let z = into_held (section_of 1 y.value.rest) (λ c. done (record { settings = x.value; events = y.value; sack = c })) w.value y.goes in
    facts file x.value y.value z.value x.came y.came z.came (ap is_whole (done_one _ w.value z.goes) ∙ h.0)

section_only : (size : ℕ) (l : List ℕ) → Only20 (section_of size l)
unfolding section_of
section_only size l = only_cond (leb (4 + size * field_at l 0 4) (length l)) (raw_at size l)

only_20 : (file : List ℕ) → Only20 (session_of file)
unfolding session_of sections_of
only_20 file =
    only_into (sections_of file) (λ s. cond (is_whole s) (done (session_in s)) (refused 20))
    (only_into (section_of 8 file) (λ a. section_of 24 a.rest into λ b. section_of 1 b.rest into λ c. done (record { settings = a; events = b; sack = c })) (section_only 8 file)
    (λ a. only_into (section_of 24 a.rest) (λ b. section_of 1 b.rest into λ c. done (record { settings = a; events = b; sack = c })) (section_only 24 a.rest)
    (λ b. only_into (section_of 1 b.rest) (λ c. done (record { settings = a; events = b; sack = c })) (section_only 1 b.rest) (λ c. tt))))
    (λ s. only_cond (is_whole s) (session_in s))

pub not_whole : (file : List ℕ) → (Whole file → ⊥) → session_of file ≡ refused 20
not_whole file h = never_done (session_of file) (only_20 file) (λ s e. h (session_whole file s e))

-- ---- the check

-- What the walk over the events says of them.
total_is : (file : List ℕ) (n : ℕ) → n ≡ count_in file → known_total (events_of n (drop 72 file)) ≡ known_total (events_in file)
total_is file n e = ap (λ (k : ℕ). known_total (events_of k (drop 72 file))) e

pub total_none : (file : List ℕ) (n : ℕ) → n ≡ count_in file → None ≡ known_total (events_of n (drop 72 file)) → Whole file → ⊥
total_none file n e h w =
    none-some (sack_total (events_in file)) (h ∙ (total_is file n e ∙ ap (λ (b : Bool). cond b (Some (sack_total (events_in file))) None) w.known))

pub total_some : (file : List ℕ) (n total : ℕ) → n ≡ count_in file → Some total ≡ known_total (events_of n (drop 72 file))
    → (all_known (events_in file) ≡ true) × (sack_total (events_in file) ≡ total)
total_some file n total e h = cond_some (all_known (events_in file)) (sack_total (events_in file)) total (sym (h ∙ total_is file n e))

pub check_bad : (file : List ℕ) → (Whole file → ⊥) → refused 20 ≡ check_of file
unfolding check_of
check_bad file h = sym (ap (λ (a : Answer Session). a into λ s. done (layout_in file s)) (not_whole file h))

pub check_good : (file : List ℕ) (count at : ℕ) → Whole file → count ≡ count_in file → at ≡ 76 + 24 * count_in file → done (record { count = count; sack_at = at }) ≡ check_of file
unfolding check_of
check_good file count at w e h =
    let place : at ≡ length file - length (drop (76 + 24 * count_in file) file) = omega (arith, h, w.filled, length-drop (76 + 24 * count_in file) file) in
    ap₂ (λ (n p : ℕ). done (record { count = n; sack_at = p })) (e ∙ sym (events_length (count_in file) (drop 72 file))) place
    ∙ sym (ap (λ (a : Answer Session). a into λ s. done (layout_in file s)) (whole_session file w))

-- What the check's answer says.
pub check_none : (file : List ℕ) → refused 20 ≡ check_of file → session_of file ≡ refused 20
unfolding check_of
check_none file e = by_answer (session_of file) refl
  where
    by_answer : (a : Answer Session) → session_of file ≡ a → session_of file ≡ refused 20
    by_answer (done s) q = never 20 (layout_in file s) (e ∙ ap (λ (x : Answer Session). x into λ t. done (layout_in file t)) q)
    by_answer (refused n) q = never_done (session_of file) (only_20 file) (λ s h. never n s (sym q ∙ h))

pub check_facts : (file : List ℕ) (l : Layout) → done l ≡ check_of file → Whole file × (l ≡ layout_in file (placed file))
unfolding check_of
check_facts file l e =
    let c = into_held (session_of file) (λ s. done (layout_in file s)) l (sym e) in
    let w = session_whole file c.value c.came in
    let same : c.value ≡ placed file = done_one c.value (placed file) (sym c.came ∙ whole_session file w) in
    (w, done_one l (layout_in file c.value) (sym c.goes) ∙ ap (layout_in file) same)
