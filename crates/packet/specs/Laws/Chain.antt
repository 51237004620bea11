-- Laws of the chain: a step goes forward within the datagram, and a chain is its first step and the chain from there.
use Rattle.std.specs.Prelude.{ℕ, zero, suc, ◌+◌, ◌-◌, ◌≤◌, ◌<◌, Bool, true, false, cond, List, [], ◌≡◌, refl, length, get_or, leb, eqb, Option, Some, None}
use Rattle.std.proofs.Common.{arith, ◌∙◌, ap, leb-true, eqb-true}
use Rattle.common.specs.Answer.{Answer, done, refused}
use Rattle.packet.specs.Chain.{Next, ends, onward, step_of, extension_at, next_at, Sacked, inside, Chain, past, whole, before, go_on, chain_by, chain_from, end_of, read_of}
use Rattle.std.specs.Option.{option_or}
use Rattle.packet.specs.Answers.{sacked}
use Rattle.packet.specs.declared.extension.Cursor.{Cursor}
use Rattle.packet.specs.declared.extension.Extension.{Extension}
use Rattle.packet.specs.declared.extension.Part.{Part}

-- What a step tells of the bytes: by the three tests, one case each.
module _ (d : List ℕ) (c : Cursor) where
  abbrev by_tests : Bool → Bool → Bool → Answer Next
  by_tests b₁ b₂ b₃ = cond b₁ (done ends) (cond b₂ (cond b₃ (done (onward (extension_at d c) (next_at d c))) (refused 4)) (refused 4))

  pub step_ends : step_of d c ≡ done ends → c.number ≡ 0
  step_ends = go (eqb c.number 0) (leb (c.at + 2) (length d)) (leb (c.at + 2 + get_or d (c.at + 1) 0) (length d)) refl
    where
      go : (b₁ b₂ b₃ : Bool) → eqb c.number 0 ≡ b₁ → by_tests b₁ b₂ b₃ ≡ done ends → c.number ≡ 0
      go true b₂ b₃ t f = eqb-true _ _ t
      go false false b₃ t f = let z : ◌≡◌ {A = ℕ} 0 1 = cc in absurd (omega arith)
      go false true false t f = let z : ◌≡◌ {A = ℕ} 0 1 = cc in absurd (omega arith)
      go false true true t f = let z : ◌≡◌ {A = ℕ} 0 1 = cc in absurd (omega arith)

  pub step_found :
      (e : Extension) (next : Cursor) → step_of d c ≡ done (onward e next)
      → (e ≡ extension_at d c) × (next ≡ next_at d c) × (c.at + 2 + get_or d (c.at + 1) 0 ≤ length d)
  step_found e next = go (eqb c.number 0) (leb (c.at + 2) (length d)) (leb (c.at + 2 + get_or d (c.at + 1) 0) (length d)) refl
    where
      go :
          (b₁ b₂ b₃ : Bool) → leb (c.at + 2 + get_or d (c.at + 1) 0) (length d) ≡ b₃ → by_tests b₁ b₂ b₃ ≡ done (onward e next)
          → (e ≡ extension_at d c) × (next ≡ next_at d c) × (c.at + 2 + get_or d (c.at + 1) 0 ≤ length d)
      go true b₂ b₃ t f = let z : ◌≡◌ {A = ℕ} 0 1 = cc in absurd (omega arith)
      go false false b₃ t f = let z : ◌≡◌ {A = ℕ} 0 1 = cc in absurd (omega arith)
      go false true false t f = let z : ◌≡◌ {A = ℕ} 0 1 = cc in absurd (omega arith)
      go false true true t f = (cc, cc, leb-true _ _ t)

  -- A step goes forward by two bytes or more, within the datagram.
  pub found_forward : (e : Extension) (next : Cursor) → step_of d c ≡ done (onward e next) → (c.at + 2 ≤ next.at) × (next.at ≤ length d)
  found_forward e next found =
      let told = step_found e next found in
      let at : next.at ≡ c.at + 2 + get_or d (c.at + 1) 0 = ap (λ (k : Cursor). k.at) told.1 in
      (omega arith, omega (arith, told.2))

-- More steps than there are bytes left make no difference.
enough : (d : List ℕ) (n m : ℕ) (c : Cursor) → length d - c.at < n → length d - c.at < m → chain_by n d c ≡ chain_by m d c
enough d zero m c h k = absurd (omega arith)
enough d (suc n) zero c h k = absurd (omega arith)
enough d (suc n) (suc m) c h k = go (step_of d c) refl (λ c' h' k'. enough d n m c' h' k')
  where
    go :
        (s : Answer Next) → step_of d c ≡ s
        → ((c' : Cursor) → length d - c'.at < n → length d - c'.at < m → chain_by n d c' ≡ chain_by m d c')
        → go_on c.at s (chain_by n d) ≡ go_on c.at s (chain_by m d)
    go (done ends) e more = refl
    go (refused n) e more = refl
    go (done (onward x next)) e more =
        let forward = found_forward d c x next e in
        ap (before x) (more next (omega arith) (omega arith))

pub chain_step : (d : List ℕ) (c : Cursor) → chain_from d c ≡ go_on c.at (step_of d c) (chain_from d)
unfolding chain_from
chain_step d c = go (step_of d c) refl
  where
    go : (s : Answer Next) → step_of d c ≡ s → go_on c.at s (chain_by (length d) d) ≡ go_on c.at s (chain_from d)
    go (done ends) e = refl
    go (refused n) e = refl
    go (done (onward x next)) e =
        let forward = found_forward d c x next e in
        ap (before x) (enough d (length d) (suc (length d)) next (omega arith) (omega arith))

pub chain_ends : (d : List ℕ) (c : Cursor) → step_of d c ≡ done ends → chain_from d c ≡ whole [] c.at
chain_ends d c e = chain_step d c ∙ ap (λ (s : Answer Next). go_on c.at s (chain_from d)) e

pub chain_past : (d : List ℕ) (c : Cursor) → step_of d c ≡ refused 4 → chain_from d c ≡ past
chain_past d c e = chain_step d c ∙ ap (λ (s : Answer Next). go_on c.at s (chain_from d)) e

pub chain_found : (d : List ℕ) (c : Cursor) (x : Extension) (next : Cursor) → step_of d c ≡ done (onward x next) → chain_from d c ≡ before x (chain_from d next)
chain_found d c x next e = chain_step d c ∙ ap (λ (s : Answer Next). go_on c.at s (chain_from d)) e

-- What is kept of a chain does not turn on an extension before it, unless that is the first SACK.
pub end_before : (x : Extension) (k : Chain) → end_of (before x k) ≡ end_of k
end_before x past = refl
end_before x (whole es at) = refl

pub read_before : (x : Extension) (k : Chain) → eqb x.number 1 ≡ false → read_of (before x k) ≡ read_of k
read_before x past e = refl
read_before x (whole es at) e = rw e

pub read_sack : (x : Extension) (at : ℕ) (k : Chain) → eqb x.number 1 ≡ true → end_of k ≡ done at → read_of (before x k) ≡ done (inside x.body, at)
read_sack x at past e f = let z : ◌≡◌ {A = ℕ} 0 1 = cc in absurd (omega arith)
read_sack x at (whole es place) e f = rw e (ap (λ (n : ℕ). done (inside x.body, n)) (cc))

pub read_past : (x : Extension) (k : Chain) → end_of k ≡ refused 4 → read_of (before x k) ≡ refused 4
read_past x past f = refl
read_past x (whole es at) f = let z : ◌≡◌ {A = ℕ} 0 1 = cc in absurd (omega arith)

-- What is kept of a whole chain, from the first SACK of what was passed and what is kept of the rest.
abbrev pub with_sack : Option Part → Answer (Sacked × ℕ) → Answer (Sacked × ℕ)
with_sack None rest = rest
with_sack (Some p) (done (sack, at)) = done (inside p, at)
with_sack (Some p) (refused n) = refused n

-- Past the end nothing is kept, and at the end of the chain the SACK that was passed, if there was one.
pub sack_past : (sack : Option Part) (k : Chain) → k ≡ past → with_sack sack (read_of k) ≡ refused 4
sack_past None k e = ap read_of e
sack_past (Some p) k e = ap (λ (c : Chain). with_sack (Some p) (read_of c)) e

pub sack_ends : (sack : Option Part) (at : ℕ) (k : Chain) → k ≡ whole [] at → with_sack sack (read_of k) ≡ done (sacked sack, at)
sack_ends None at k e = ap read_of e
sack_ends (Some p) at k e = ap (λ (c : Chain). with_sack (Some p) (read_of c)) e

-- Passing an extension: a SACK is kept if it is the first one, and any other extension changes nothing.
pub sack_passed : (sack : Option Part) (x : Extension) (k : Chain) → eqb x.number 1 ≡ true → with_sack sack (read_of (before x k)) ≡ with_sack (option_or sack (Some x.body)) (read_of k)
sack_passed None x past e = refl
sack_passed (Some p) x past e = refl
sack_passed None x (whole es at) e = rw e
sack_passed (Some p) x (whole es at) e = refl

pub other_passed : (sack : Option Part) (x : Extension) (k : Chain) → eqb x.number 1 ≡ false → with_sack sack (read_of (before x k)) ≡ with_sack sack (read_of k)
other_passed None x k e = read_before x k e
other_passed (Some p) x past e = refl
other_passed (Some p) x (whole es at) e = refl
