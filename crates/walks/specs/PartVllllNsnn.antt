-- `fn f(t: &mut S, a1: A1, a2: &[A2], a3: A3, a4: A4) -> Ans`, where S has 5 fields, of which one goes by value to the callee and 4 are lent to it, of the form of tools/part.py, which wrote this file: it meets the contract that says the callee's of what lies behind the reference.
-- For all types: `Behind.antt` has what is asked of them. Assumes nothing.
use Rattle.std.specs.Prelude.{◌≡◌, refl, ℕ, zero, ◌+◌, [], ◌∷◌, List, T as Holds, length}
use Rattle.std.proofs.Common.{sym, ap, subst, ◌∙◌}
use seplogic.Ra.Ura.{Ura}
use base.Fraction.{full_share}
use mir.Syntax.{Sym, Callee as Name, Ty, Fn, named, erased, imm, mut, ty_ref, ty_struct, tnil, tcons, local, value_local, place, deref, field, copy, rv_opd, addr_of, seq, assign, call, return}
use mir.Val.{Val, vptr, WT, has_ty}
use base.Logic.{SProp, ent, sep, ex, wand, emp, via, fst∗, id⊢, all_e, apply∗, ex_i}
use base.Fml.{GName, Lft, Share, Fml, ftrue, flft, flent, fobs, fbor, fat}
use prog.Memory.{up, align, size}
use prog.Model.{Model}
use prog.Routine.{Routine, Env}
use prog.Wp.{Calls, Loops, Closed, WpFn, Tables}
use types.Logic.{Logic, sem}
use contract.Lifetimes.{Lfts}
use contract.Monad.{fact}
use contract.Running.{Running, tables, tables_of}
use types.Kit.{‵, raw, ◌⊛◌, ⋆, some, later, ◌$◌, ◌∵◌, !, qed, by, move, keep, drop, use1, use2, use3, split, join, pick, rewrite, fsplit, fsplit3, fjoin, fjoin3, feq_i, suffices, frame, await, done}
use types.Run.{look, look_raw, init, store_raw, forget, stop, hop, fld, from, load, addr, of_opd, and_then, no_more, assigns, land, returns, enter, alloc1, alloc0, params1, pass1, pass0, free1, free0}
use types.Part.{whole, sub, look_in}
use types.SemTy.{Body}
use types.Mut.{open_ref, close_ref}
use types.Tokens.{lft_new, lft_end}
use sound.WpLaws.{FmC, fm_of, WpFn-mono}
use denote.RattleType.{RattleType, Denots, owns}
use denote.Shadow.{makes_shadow}
use denote.Laws.{Is, Makes, Lawfuls, shows}
use denote.Memory.{mem, part_at, part_of, cell_at, pointee}
use denote.Builtin.{RefMutOf, SliceRefOf}
use denote.Ref.{Bor, MutBor, MutRef, mut_vals, mut_Tells}
use denote.Slice.{ShrSlice, slice_ty, slice_val, shr_slice_vals, shr_slice_Tells, shr_slice_Lawful, shr_slice_copy}
use denote.Signature.{Signature, plain}
use denote.Exit.{yes}
use denote.Lend.{lends_ref, ref_back}
use denote.Steps.{only, owned, peeks, heard, nothing}
use denote.Struct.Steps.{spelt}
use denote.Struct.Struct.{Struct, layout, as_fields}
use denote.Struct.Declared.{shape}
use denote.Struct.Recorded.{Recorded, Recorded-part}
use denote.Struct.Members.{Member, row_of as member_row, rows_of, parts_at}
use denote.Struct.Parts.{shape_of, PartsBack, Struct-parts}
use denote.Triple.Statement.{Contract, Triple}
use denote.Triple.Call.{calls_at}
use denote.Triple.Clauses.{Ended, AtExit, Clauses, closing}
use denote.Triple.End.{Fins, lasts_of}
use denote.Triple.Entry.{Args, Res, on_entry}
use denote.Triple.Spec.{Spec, Meets, triple_of, exits}
use denote.Triple.Table.{entered, cited}
use denote.Triple.Walked.{says, Stays, stay_ref, stay_none, stay_none_slice, walk_of, Goes-none, Goes-ref, Goes-none_slice, Walks, ends_at, walked, walk_Meets}
use denote.Struct.Laws as LL
use Rattle.common.specs.Promise.{Promise, by_value}
use Rattle.walks.specs.Behind.{Arg, row_of, row_laws, State, state_row, state_member, Out}

module _ (S₀ : State) (ν : Sym) (m₁ m₂ m₃ m₄ : Member) (D : Type 0) (to : D → Denots (rows_of ((state_member S₀) ∷ m₁ ∷ m₂ ∷ m₃ ∷ m₄ ∷ []))) (one : (x y : D) → to x ≡ to y → x ≡ y) (hd : D → S₀.T.D) (hd_is : (d : D) → (to d).0 ≡ S₀.T.to (hd d))
    (lawful : (M : Type 1) (𝓤 : Ura M) (𝓛 : Logic 𝓤) → Lawfuls 𝓛 (rows_of ((state_member S₀) ∷ m₁ ∷ m₂ ∷ m₃ ∷ m₄ ∷ [])))
    (A₁ A₂ A₃ A₄ : Arg) (Ans : Arg) (O : Out S₀ Ans) (key : Name)
    (spec : S₀.T.D → m₁.row.Denot → m₂.row.Denot → m₃.row.Denot → m₄.row.Denot → A₁.X → List A₂.X → A₃.X → A₄.X → O.row.Denot) (set₁ : S₀.T.D → m₁.row.Denot → m₂.row.Denot → m₃.row.Denot → m₄.row.Denot → A₁.X → List A₂.X → A₃.X → A₄.X → m₁.row.Denot) (set₂ : S₀.T.D → m₁.row.Denot → m₂.row.Denot → m₃.row.Denot → m₄.row.Denot → A₁.X → List A₂.X → A₃.X → A₄.X → m₂.row.Denot) (set₃ : S₀.T.D → m₁.row.Denot → m₂.row.Denot → m₃.row.Denot → m₄.row.Denot → A₁.X → List A₂.X → A₃.X → A₄.X → m₃.row.Denot) (set₄ : S₀.T.D → m₁.row.Denot → m₂.row.Denot → m₃.row.Denot → m₄.row.Denot → A₁.X → List A₂.X → A₃.X → A₄.X → m₄.row.Denot)
    (ans : D → A₁.X → List A₂.X → A₃.X → A₄.X → Ans.X) (next : D → A₁.X → List A₂.X → A₃.X → A₄.X → D)
    (ans_is : (d : D) (y₁ : A₁.X) (y₂ : List A₂.X) (y₃ : A₃.X) (y₄ : A₄.X) → O.ans (spec (hd d) (to d).1.0 (to d).1.1.0 (to d).1.1.1.0 (to d).1.1.1.1.0 y₁ y₂ y₃ y₄) ≡ ans d y₁ y₂ y₃ y₄) (next_is : (d : D) (y₁ : A₁.X) (y₂ : List A₂.X) (y₃ : A₃.X) (y₄ : A₄.X) → (S₀.T.to (O.st (spec (hd d) (to d).1.0 (to d).1.1.0 (to d).1.1.1.0 (to d).1.1.1.1.0 y₁ y₂ y₃ y₄)), (set₁ (hd d) (to d).1.0 (to d).1.1.0 (to d).1.1.1.0 (to d).1.1.1.1.0 y₁ y₂ y₃ y₄, (set₂ (hd d) (to d).1.0 (to d).1.1.0 (to d).1.1.1.0 (to d).1.1.1.1.0 y₁ y₂ y₃ y₄, (set₃ (hd d) (to d).1.0 (to d).1.1.0 (to d).1.1.1.0 (to d).1.1.1.1.0 y₁ y₂ y₃ y₄, (set₄ (hd d) (to d).1.0 (to d).1.1.0 (to d).1.1.1.0 (to d).1.1.1.1.0 y₁ y₂ y₃ y₄, tt))))) ≡ to (next d y₁ y₂ y₃ y₄)) where
  abbrev Tuple : RattleType
  Tuple = Struct (shape_of ν ((state_member S₀) ∷ m₁ ∷ m₂ ∷ m₃ ∷ m₄ ∷ []))

  abbrev Row : RattleType
  Row = Recorded Tuple D to one

  abbrev τS : Ty
  τS = layout (shape_of ν ((state_member S₀) ∷ m₁ ∷ m₂ ∷ m₃ ∷ m₄ ∷ []))

  abbrev τV : Ty
  τV = layout (shape S₀.T)

  abbrev τO : Ty
  τO = ty_struct O.name (tcons Ans.ty (tcons τV tnil))

  abbrev pub function : Fn
  function = record {
    lifetimes = 2;
    outlives = [];
    ty_params = [];
    givens = 0;
    params = 5;
    locals = local Ans.ty value_local ∷ local (ty_ref (named 0) mut (pointee Row.written)) value_local ∷ local A₁.ty value_local ∷ local (slice_ty (ty_ref (named 1) imm A₂.ty)) value_local ∷ local A₃.ty value_local ∷ local A₄.ty value_local ∷ local τV value_local ∷ local τO value_local ∷ local (ty_ref erased mut (pointee m₁.row.written)) value_local ∷ local (ty_ref erased mut (pointee m₂.row.written)) value_local ∷ local (ty_ref erased mut (pointee m₃.row.written)) value_local ∷ local (ty_ref erased mut (pointee m₄.row.written)) value_local ∷ local τV value_local ∷ [];
    body = seq (assign (place 6 []) (rv_opd (copy (place 1 (deref τS ∷ field 0 ∷ []))))) (seq (assign (place 8 []) (addr_of (place 1 (deref τS ∷ field 1 ∷ [])))) (seq (assign (place 9 []) (addr_of (place 1 (deref τS ∷ field 2 ∷ [])))) (seq (assign (place 10 []) (addr_of (place 1 (deref τS ∷ field 3 ∷ [])))) (seq (assign (place 11 []) (addr_of (place 1 (deref τS ∷ field 4 ∷ [])))) (seq (call key (copy (place 6 []) ∷ copy (place 8 []) ∷ copy (place 9 []) ∷ copy (place 10 []) ∷ copy (place 11 []) ∷ copy (place 2 []) ∷ copy (place 3 []) ∷ copy (place 4 []) ∷ copy (place 5 []) ∷ []) (place 7 [])) (seq (assign (place 12 []) (rv_opd (copy (place 7 (field 1 ∷ []))))) (seq (assign (place 1 (deref τS ∷ field 0 ∷ [])) (rv_opd (copy (place 12 [])))) (seq (assign (place 0 []) (rv_opd (copy (place 7 (field 0 ∷ []))))) return))))))));
  }

  abbrev pub callee : Signature
  callee = record { lifetimes = 5; outlives = []; params = plain (λ _. state_row S₀) ∷ RefMutOf (0 ∷ []) tt (plain (λ _. member_row m₁)) (λ _. tt) ∷ RefMutOf (1 ∷ []) tt (plain (λ _. member_row m₂)) (λ _. tt) ∷ RefMutOf (2 ∷ []) tt (plain (λ _. member_row m₃)) (λ _. tt) ∷ RefMutOf (3 ∷ []) tt (plain (λ _. member_row m₄)) (λ _. tt) ∷ plain (λ _. row_of A₁) ∷ SliceRefOf (4 ∷ []) tt (plain (λ _. row_of A₂)) (λ _. tt) ∷ plain (λ _. row_of A₃) ∷ plain (λ _. row_of A₄) ∷ []; result = plain (λ _. O.row) }

  abbrev pub signature : Signature
  signature = record { lifetimes = 2; outlives = []; params = RefMutOf (0 ∷ []) tt (plain (λ _. Row)) (λ _. tt) ∷ plain (λ _. row_of A₁) ∷ SliceRefOf (1 ∷ []) tt (plain (λ _. row_of A₂)) (λ _. tt) ∷ plain (λ _. row_of A₃) ∷ plain (λ _. row_of A₄) ∷ []; result = plain (λ _. row_of Ans) }

  abbrev pub ended : Ended
  ended = record { signature = signature; kept = (yes, (yes, (yes, (yes, (yes, tt))))) }

  abbrev stayed : Stays signature.params ended.kept
  stayed = (stay_ref (0 ∷ []) tt (plain (λ _. Row)), (stay_none (λ _. row_of A₁) yes, (stay_none_slice (1 ∷ []) tt (plain (λ _. row_of A₂)) yes, (stay_none (λ _. row_of A₃) yes, (stay_none (λ _. row_of A₄) yes, tt)))))

  -- what the contract says, and that no two outcomes satisfy it
  abbrev pub Post : (κs : Lfts 2) → Args signature κs → Res signature κs → AtExit ended κs → Type 0
  Post κs a r e = (r ≡ ans a.0.now a.1.0 a.1.1.0.now a.1.1.1.0 a.1.1.1.1.0) × (e.0.now ≡ next a.0.now a.1.0 a.1.1.0.now a.1.1.1.0 a.1.1.1.1.0)

  abbrev pub seen : (κs : Lfts 2) → Res signature κs → AtExit ended κs → Ans.X × D
  seen κs r e = (r, e.0.now)

  pub promise : Promise (λ (κs : Lfts 2) (a : Args signature κs). Unit {0}) Post seen
  promise = by_value _ (λ κs a. tt) (λ κs a r e p. λ i. (p.0 i, p.1 i))

  module _ {M : Type 1} {𝓤 : Ura M} (𝓛 : Logic 𝓤) where
    abbrev pub callee_spec : Spec 𝓤 callee
    callee_spec κs a = record { ghost = Unit {0}; requires = λ _. emp 𝓤; ensures = λ _ r. exits 𝓛 callee (yes, (yes, (yes, (yes, (yes, (yes, (yes, (yes, (yes, tt))))))))) κs a (λ e. fact 𝓤 ((r ≡ spec a.0 a.1.0.now a.1.1.0.now a.1.1.1.0.now a.1.1.1.1.0.now a.1.1.1.1.1.0 a.1.1.1.1.1.1.0.now a.1.1.1.1.1.1.1.0 a.1.1.1.1.1.1.1.1.0) × (e.1.0.now ≡ set₁ a.0 a.1.0.now a.1.1.0.now a.1.1.1.0.now a.1.1.1.1.0.now a.1.1.1.1.1.0 a.1.1.1.1.1.1.0.now a.1.1.1.1.1.1.1.0 a.1.1.1.1.1.1.1.1.0) × (e.1.1.0.now ≡ set₂ a.0 a.1.0.now a.1.1.0.now a.1.1.1.0.now a.1.1.1.1.0.now a.1.1.1.1.1.0 a.1.1.1.1.1.1.0.now a.1.1.1.1.1.1.1.0 a.1.1.1.1.1.1.1.1.0) × (e.1.1.1.0.now ≡ set₃ a.0 a.1.0.now a.1.1.0.now a.1.1.1.0.now a.1.1.1.1.0.now a.1.1.1.1.1.0 a.1.1.1.1.1.1.0.now a.1.1.1.1.1.1.1.0 a.1.1.1.1.1.1.1.1.0) × (e.1.1.1.1.0.now ≡ set₄ a.0 a.1.0.now a.1.1.0.now a.1.1.1.0.now a.1.1.1.1.0.now a.1.1.1.1.1.0 a.1.1.1.1.1.1.0.now a.1.1.1.1.1.1.1.0 a.1.1.1.1.1.1.1.1.0))) }

    abbrev pub Callee : Contract 𝓤
    Callee = triple_of 𝓛 callee callee_spec

    abbrev pub clauses : Clauses 𝓤 ended
    clauses κs a = record { ghost = Unit {0}; requires = λ _. emp 𝓤; ensures = λ _ r e. fact 𝓤 (Post κs a r e) }

  made : {M : Type 1} {𝓤 : Ura M} (𝓛 : Logic 𝓤) (B : Arg) → Makes 𝓛 (row_of B) (Is (row_of B))
  made 𝓛 B x vs p = makes_shadow 𝓛 (B.own x vs) (B.pure x vs) p

  module _ {M : Type 1} {𝓤 : Ura M} (𝓛 : Logic 𝓤) (κ : Lft) (q : Share) (κ₂ : Lft) (q₂ : Share) (b o : ℕ) (γ : GName) (h : D) (a₁ : A₁.X) (a₂ : Bor (List A₂.X)) (a₃ : A₃.X) (a₄ : A₄.X) (p₁ : Is (row_of A₁) a₁ (A₁.val a₁ ∷ [])) (p₂ : Is (ShrSlice (named 1) κ₂ (row_of A₂)) a₂ (slice_val a₂.ref_ptr (length a₂.now) ∷ [])) (p₃ : Is (row_of A₃) a₃ (A₃.val a₃ ∷ [])) (p₄ : Is (row_of A₄) a₄ (A₄.val a₄ ∷ [])) where
    open 𝓛 use {H}

    abbrev Xs : Type 0
    Xs = MutBor D × (A₁.X × (Bor (List A₂.X) × (A₃.X × (A₄.X × Unit {0}))))

    abbrev Vs : Type 0
    Vs = List Val × (List Val × (List Val × (List Val × (List Val × Unit {0}))))

    abbrev x : Xs
    x = (record { ref_ptr = (b, o); ghost_name = γ; now = h }, (a₁, (a₂, (a₃, (a₄, tt)))))

    abbrev at : Vs
    at = (vptr b o ∷ [], (A₁.val a₁ ∷ [], (slice_val a₂.ref_ptr (length a₂.now) ∷ [], (A₃.val a₃ ∷ [], (A₄.val a₄ ∷ [], tt)))))

    abbrev After : Val → SProp 𝓤
    After = (walk_of 𝓛 ended stayed (clauses 𝓛)).post (((κ, (κ₂, tt)), (q, (q₂, tt)), tt, x, at), tt)

    abbrev mach : S₀.T.D → Val
    mach d = LL.val S₀.T S₀.L d

    -- where each field lies
    abbrev end₀ : ℕ
    end₀ = zero

    abbrev at₀ : ℕ
    at₀ = o + up (align (state_member S₀).ty) end₀

    abbrev end₁ : ℕ
    end₁ = up (align (state_member S₀).ty) end₀ + size (state_member S₀).ty

    abbrev at₁ : ℕ
    at₁ = o + up (align m₁.ty) end₁

    abbrev end₂ : ℕ
    end₂ = up (align m₁.ty) end₁ + size m₁.ty

    abbrev at₂ : ℕ
    at₂ = o + up (align m₂.ty) end₂

    abbrev end₃ : ℕ
    end₃ = up (align m₂.ty) end₂ + size m₂.ty

    abbrev at₃ : ℕ
    at₃ = o + up (align m₃.ty) end₃

    abbrev end₄ : ℕ
    end₄ = up (align m₃.ty) end₃ + size m₃.ty

    abbrev at₄ : ℕ
    at₄ = o + up (align m₄.ty) end₄

    abbrev to_callee : ℕ → GName → ℕ → GName → ℕ → GName → ℕ → GName → (Callee 𝓛).Ghost
    to_callee ν₁ δ₁ ν₂ δ₂ ν₃ δ₃ ν₄ δ₄ = (((ν₁ ∷ [], (ν₂ ∷ [], (ν₃ ∷ [], (ν₄ ∷ [], (κ₂, tt))))), (full_share, (full_share, (full_share, (full_share, (q₂, tt))))), tt, ((hd h), (record { ref_ptr = (b, at₁); ghost_name = δ₁; now = (to h).1.0 }, (record { ref_ptr = (b, at₂); ghost_name = δ₂; now = (to h).1.1.0 }, (record { ref_ptr = (b, at₃); ghost_name = δ₃; now = (to h).1.1.1.0 }, (record { ref_ptr = (b, at₄); ghost_name = δ₄; now = (to h).1.1.1.1.0 }, (a₁, (a₂, (a₃, (a₄, tt))))))))), (mach (hd h) ∷ [], (vptr b at₁ ∷ [], (vptr b at₂ ∷ [], (vptr b at₃ ∷ [], (vptr b at₄ ∷ [], (A₁.val a₁ ∷ [], (slice_val a₂.ref_ptr (length a₂.now) ∷ [], (A₃.val a₃ ∷ [], (A₄.val a₄ ∷ [], tt)))))))))), tt)

    asked : Is (state_row S₀) (hd h) (mach (hd h) ∷ []) → (ν₁ : ℕ) (δ₁ : GName) (ν₂ : ℕ) (δ₂ : GName) (ν₃ : ℕ) (δ₃ : GName) (ν₄ : ℕ) (δ₄ : GName) → ent 𝓤 (⋆ 𝓛 (‵ (flft (ν₁ ∷ []) full_share) ∷ ‵ (flft (ν₂ ∷ []) full_share) ∷ ‵ (flft (ν₃ ∷ []) full_share) ∷ ‵ (flft (ν₄ ∷ []) full_share) ∷ ‵ (flft κ₂ q₂) ∷ ‵ ((MutRef (named 0) (ν₁ ∷ []) (member_row m₁)).own_val (record { ref_ptr = (b, at₁); ghost_name = δ₁; now = (to h).1.0 }) (vptr b at₁ ∷ [])) ∷ ‵ ((MutRef (named 1) (ν₂ ∷ []) (member_row m₂)).own_val (record { ref_ptr = (b, at₂); ghost_name = δ₂; now = (to h).1.1.0 }) (vptr b at₂ ∷ [])) ∷ ‵ ((MutRef (named 2) (ν₃ ∷ []) (member_row m₃)).own_val (record { ref_ptr = (b, at₃); ghost_name = δ₃; now = (to h).1.1.1.0 }) (vptr b at₃ ∷ [])) ∷ ‵ ((MutRef (named 3) (ν₄ ∷ []) (member_row m₄)).own_val (record { ref_ptr = (b, at₄); ghost_name = δ₄; now = (to h).1.1.1.1.0 }) (vptr b at₄ ∷ [])) ∷ ‵ ((ShrSlice (named 1) κ₂ (row_of A₂)).own_val a₂ (slice_val a₂.ref_ptr (length a₂.now) ∷ [])) ∷ [])) ((Callee 𝓛).pre (to_callee ν₁ δ₁ ν₂ δ₂ ν₃ δ₃ ν₄ δ₄))
    asked was ν₁ δ₁ ν₂ δ₂ ν₃ δ₃ ν₄ δ₄ = qed 𝓛 (‵ (flft (ν₁ ∷ []) full_share) ∷ ‵ (flft (ν₂ ∷ []) full_share) ∷ ‵ (flft (ν₃ ∷ []) full_share) ∷ ‵ (flft (ν₄ ∷ []) full_share) ∷ ‵ (flft κ₂ q₂) ∷ ‵ ((MutRef (named 0) (ν₁ ∷ []) (member_row m₁)).own_val (record { ref_ptr = (b, at₁); ghost_name = δ₁; now = (to h).1.0 }) (vptr b at₁ ∷ [])) ∷ ‵ ((MutRef (named 1) (ν₂ ∷ []) (member_row m₂)).own_val (record { ref_ptr = (b, at₂); ghost_name = δ₂; now = (to h).1.1.0 }) (vptr b at₂ ∷ [])) ∷ ‵ ((MutRef (named 2) (ν₃ ∷ []) (member_row m₃)).own_val (record { ref_ptr = (b, at₃); ghost_name = δ₃; now = (to h).1.1.1.0 }) (vptr b at₃ ∷ [])) ∷ ‵ ((MutRef (named 3) (ν₄ ∷ []) (member_row m₄)).own_val (record { ref_ptr = (b, at₄); ghost_name = δ₄; now = (to h).1.1.1.1.0 }) (vptr b at₄ ∷ [])) ∷ ‵ ((ShrSlice (named 1) κ₂ (row_of A₂)).own_val a₂ (slice_val a₂.ref_ptr (length a₂.now) ∷ [])) ∷ []) ∵ nothing ! $ owned ! (row_of A₄) (Is (row_of A₄)) (made 𝓛 A₄) a₄ _ p₄ $ fjoin ! $ owned ! (row_of A₃) (Is (row_of A₃)) (made 𝓛 A₃) a₃ _ p₃ $ fjoin ! $ move ! (10 ∷ 0 ∷ []) $ fjoin ! $ owned ! (row_of A₁) (Is (row_of A₁)) (made 𝓛 A₁) a₁ _ p₁ $ fjoin ! $ move ! (9 ∷ 0 ∷ []) $ fjoin ! $ move ! (8 ∷ 0 ∷ []) $ fjoin ! $ move ! (7 ∷ 0 ∷ []) $ fjoin ! $ move ! (6 ∷ 0 ∷ []) $ fjoin ! $ owned ! (state_row S₀) (Is (state_row S₀)) (LL.makes S₀.T S₀.plain 𝓛) (hd h) _ was $ fjoin ! $ nothing ! $ move ! (6 ∷ 0 ∷ []) $ join ! $ move ! (5 ∷ 0 ∷ []) $ join ! $ move ! (4 ∷ 0 ∷ []) $ join ! $ move ! (3 ∷ 0 ∷ []) $ join ! $ move ! (2 ∷ 0 ∷ []) $ join ! $ join ! $ frame ! $ nothing ! $ done !

    ends : (r : O.row.Denot) → Is (row_of Ans) (O.ans r) (Ans.val (O.ans r) ∷ []) → O.ans r ≡ ans h a₁ a₂.now a₃ a₄ → ent 𝓤 (⋆ 𝓛 (‵ (fobs γ (Row.coded.code (next h a₁ a₂.now a₃ a₄))) ∷ ‵ (fbor κ (Body (mem Row) b o γ)) ∷ ‵ (flft κ q) ∷ ‵ (flft κ₂ q₂) ∷ ‵ ((ShrSlice (named 1) κ₂ (row_of A₂)).own_val a₂ (slice_val a₂.ref_ptr (length a₂.now) ∷ [])) ∷ [])) (After (Ans.val (O.ans r)))
    ends r is e =
        qed 𝓛 (‵ (fobs γ (Row.coded.code (next h a₁ a₂.now a₃ a₄))) ∷ ‵ (fbor κ (Body (mem Row) b o γ)) ∷ ‵ (flft κ q) ∷ ‵ (flft κ₂ q₂) ∷ ‵ ((ShrSlice (named 1) κ₂ (row_of A₂)).own_val a₂ (slice_val a₂.ref_ptr (length a₂.now) ∷ [])) ∷ []) ∵
        suffices ! _ (ends_at 𝓛 ended stayed (clauses 𝓛) (((κ, (κ₂, tt)), (q, (q₂, tt)), tt, x, at), tt) (Ans.val (O.ans r)) (O.ans r) (next h a₁ a₂.now a₃ a₄, (tt, (tt, (tt, (tt, tt))))) (tt, (tt, (tt, (tt, (tt, tt)))))) $ says ! (e, refl) $
        nothing ! $ move ! (4 ∷ 0 ∷ []) $ join ! $ move ! (3 ∷ 0 ∷ []) $ join ! $ frame ! $ feq_i ! (List Val) (vptr b o ∷ []) (vptr b o ∷ []) refl $ fjoin3 ! $ nothing ! $ owned ! (row_of A₄) (Is (row_of A₄)) (made 𝓛 A₄) a₄ _ p₄ $ fjoin ! $ owned ! (row_of A₃) (Is (row_of A₃)) (made 𝓛 A₃) a₃ _ p₃ $ fjoin ! $ move ! (2 ∷ 0 ∷ []) $ fjoin ! $ owned ! (row_of A₁) (Is (row_of A₁)) (made 𝓛 A₁) a₁ _ p₁ $ fjoin ! $ move ! (1 ∷ 0 ∷ []) $ fjoin ! $ owned ! (row_of Ans) (Is (row_of Ans)) (made 𝓛 Ans) (O.ans r) _ is $ move ! (1 ∷ 0 ∷ []) $ done !

    typed_out : (r : O.row.Denot) (u : Val) → Is O.row r (u ∷ []) → Holds (has_ty τO u) × WT u
    typed_out r u is = subst (λ (u' : Val). Holds (has_ty τO u') × WT u') (sym (ap only (O.tells r _ is)))
        (as_fields (Ans.ty ∷ τV ∷ []) (Ans.val (O.ans r) ∷ mach (O.st r) ∷ []) (Ans.typed (O.ans r) (O.ans_is r _ is), (((LL.lawful S₀.T S₀.L 𝓛).typed (O.st r) _ (O.st_is r _ is)).0, tt)))

    -- the head in memory is its cell with what it owns, and back
    opened : ent 𝓤 (sem 𝓛 (part_at (member_row (state_member S₀)) full_share (to h).0 b at₀)) (ex 𝓤 (λ (vs : List Val). sep 𝓤 (sem 𝓛 (cell_at full_share (state_row S₀).mir vs b at₀)) (sem 𝓛 ((state_row S₀).own_val (hd h) vs))))
    unfolding part_of
    opened = subst (λ (u : (member_row (state_member S₀)).Denot). ent 𝓤 (sem 𝓛 (part_at (member_row (state_member S₀)) full_share u b at₀)) (ex 𝓤 (λ (vs : List Val). sep 𝓤 (sem 𝓛 (cell_at full_share (state_row S₀).mir vs b at₀)) (sem 𝓛 ((state_row S₀).own_val (hd h) vs))))) (sym (hd_is h)) (id⊢ 𝓤 _)

    shut : (d : S₀.T.D) (vs : List Val) → ent 𝓤 (sep 𝓤 (sem 𝓛 (cell_at full_share (state_row S₀).mir vs b at₀)) (sem 𝓛 ((state_row S₀).own_val d vs))) (sem 𝓛 (part_at (member_row (state_member S₀)) full_share (S₀.T.to d) b at₀))
    unfolding part_of
    shut d vs = ex_i 𝓤 (λ (us : List Val). sep 𝓤 (sem 𝓛 (cell_at full_share (state_row S₀).mir us b at₀)) (sem 𝓛 ((state_row S₀).own_val d us))) vs

    -- the struct in memory is its fields in memory, and back
    apart : ent 𝓤 (sem 𝓛 (part_at Row full_share h b o)) (sep 𝓤 (sem 𝓛 (parts_at full_share ((state_member S₀) ∷ m₁ ∷ m₂ ∷ m₃ ∷ m₄ ∷ []) zero (to h) b o)) (PartsBack 𝓛 full_share ν ((state_member S₀) ∷ m₁ ∷ m₂ ∷ m₃ ∷ m₄ ∷ []) b o))
    apart = subst (λ (P : Fml). ent 𝓤 (sem 𝓛 P) (sep 𝓤 (sem 𝓛 (parts_at full_share ((state_member S₀) ∷ m₁ ∷ m₂ ∷ m₃ ∷ m₄ ∷ []) zero (to h) b o)) (PartsBack 𝓛 full_share ν ((state_member S₀) ∷ m₁ ∷ m₂ ∷ m₃ ∷ m₄ ∷ []) b o))) (sym (Recorded-part Tuple D to one full_share h b o))
        (Struct-parts 𝓛 full_share ν ((state_member S₀) ∷ m₁ ∷ m₂ ∷ m₃ ∷ m₄ ∷ []) (lawful M 𝓤 𝓛) (to h) b o)

    abbrev Back : Denots (rows_of ((state_member S₀) ∷ m₁ ∷ m₂ ∷ m₃ ∷ m₄ ∷ [])) → SProp 𝓤
    Back u = wand 𝓤 (sem 𝓛 (parts_at full_share ((state_member S₀) ∷ m₁ ∷ m₂ ∷ m₃ ∷ m₄ ∷ []) zero u b o)) (sem 𝓛 (part_at Tuple full_share u b o))

    together : (u : Denots (rows_of ((state_member S₀) ∷ m₁ ∷ m₂ ∷ m₃ ∷ m₄ ∷ []))) → u ≡ to (next h a₁ a₂.now a₃ a₄) → ent 𝓤 (sep 𝓤 (sem 𝓛 (parts_at full_share ((state_member S₀) ∷ m₁ ∷ m₂ ∷ m₃ ∷ m₄ ∷ []) zero u b o)) (PartsBack 𝓛 full_share ν ((state_member S₀) ∷ m₁ ∷ m₂ ∷ m₃ ∷ m₄ ∷ []) b o)) (sem 𝓛 (part_at Row full_share (next h a₁ a₂.now a₃ a₄) b o))
    together u e = subst (λ (P : Fml). ent 𝓤 (sep 𝓤 (sem 𝓛 (parts_at full_share ((state_member S₀) ∷ m₁ ∷ m₂ ∷ m₃ ∷ m₄ ∷ []) zero u b o)) (PartsBack 𝓛 full_share ν ((state_member S₀) ∷ m₁ ∷ m₂ ∷ m₃ ∷ m₄ ∷ []) b o)) (sem 𝓛 P)) (sym (Recorded-part Tuple D to one full_share (next h a₁ a₂.now a₃ a₄) b o))
        (subst (λ (u' : Denots (rows_of ((state_member S₀) ∷ m₁ ∷ m₂ ∷ m₃ ∷ m₄ ∷ []))). ent 𝓤 (sep 𝓤 (sem 𝓛 (parts_at full_share ((state_member S₀) ∷ m₁ ∷ m₂ ∷ m₃ ∷ m₄ ∷ []) zero u b o)) (PartsBack 𝓛 full_share ν ((state_member S₀) ∷ m₁ ∷ m₂ ∷ m₃ ∷ m₄ ∷ []) b o)) (sem 𝓛 (part_at Tuple full_share u' b o))) e
        (qed 𝓛 (‵ (parts_at full_share ((state_member S₀) ∷ m₁ ∷ m₂ ∷ m₃ ∷ m₄ ∷ []) zero u b o) ∷ raw (PartsBack 𝓛 full_share ν ((state_member S₀) ∷ m₁ ∷ m₂ ∷ m₃ ∷ m₄ ∷ []) b o) ∷ []) ∵ move ! (1 ∷ []) $ use1 𝓛 (raw (Back u)) (all_e 𝓤 Back u) $ move ! (1 ∷ 0 ∷ []) $
        use2 𝓛 (‵ (part_at Tuple full_share u b o)) (apply∗ 𝓤 (sem 𝓛 (parts_at full_share ((state_member S₀) ∷ m₁ ∷ m₂ ∷ m₃ ∷ m₄ ∷ []) zero u b o)) (sem 𝓛 (part_at Tuple full_share u b o))) $ done !))

    module _ (C : Calls 𝓤 H) (Λ : Loops 𝓤 H) (fm : FmC 𝓤 H 𝓛.laws C) (known : Triple 𝓤 (C key) (Callee 𝓛)) where
      walk : ent 𝓤 (on_entry 𝓛 signature (κ, (κ₂, tt)) (q, (q₂, tt)) x at) (WpFn 𝓤 H C Λ function (vptr b o ∷ A₁.val a₁ ∷ slice_val a₂.ref_ptr (length a₂.now) ∷ A₃.val a₃ ∷ A₄.val a₄ ∷ []) After)
      walk =
          qed 𝓛 ((‵ (flft κ q) ⊛ ‵ (flft κ₂ q₂) ⊛ ‵ ftrue) ∷ ‵ (owns (MutRef (named 0) κ Row ∷ row_of A₁ ∷ ShrSlice (named 1) κ₂ (row_of A₂) ∷ row_of A₃ ∷ row_of A₄ ∷ []) x at) ∷ []) ∵ enter ! C Λ function (vptr b o ∷ A₁.val a₁ ∷ slice_val a₂.ref_ptr (length a₂.now) ∷ A₃.val a₃ ∷ A₄.val a₄ ∷ []) _ $
          alloc1 ! (λ b₀. alloc1 ! (λ b₁. alloc1 ! (λ b₂. alloc1 ! (λ b₃. alloc1 ! (λ b₄. alloc1 ! (λ b₅. alloc1 ! (λ b₆. alloc1 ! (λ b₇. alloc1 ! (λ b₈. alloc1 ! (λ b₉. alloc1 ! (λ b₁₀. alloc1 ! (λ b₁₁. alloc1 ! (λ b₁₂. alloc0 ! $ params1 ! $ pass1 ! (init ! 22 refl (tt, tt)) $ pass1 ! (init ! 20 refl (A₁.typed a₁ p₁)) $ pass1 ! (init ! 18 refl (((shr_slice_Lawful 𝓛 (named 1) κ₂ (row_of A₂)).typed a₂ _ p₂).0)) $ pass1 ! (init ! 16 refl (A₃.typed a₃ p₃)) $ pass1 ! (init ! 14 refl (A₄.typed a₄ p₄)) $ pass0 ! $
          move ! (27 ∷ []) $ fsplit ! $ move ! (1 ∷ []) $ fsplit ! $ drop ! $ fsplit ! $ move ! (1 ∷ []) $ drop ! $ move ! (1 ∷ []) $ fsplit3 ! $ drop ! $ move ! (29 ∷ []) $ split ! $ move ! (1 ∷ []) $ split ! $ move ! (1 ∷ []) $ drop ! $
          move ! (2 ∷ 3 ∷ 1 ∷ []) $ open_ref ! tt (mem Row) {x = h} {b = b} {o = o} $ use1 𝓛 (‵ (parts_at full_share ((state_member S₀) ∷ m₁ ∷ m₂ ∷ m₃ ∷ m₄ ∷ []) zero (to h) b o) ⊛ raw (PartsBack 𝓛 full_share ν ((state_member S₀) ∷ m₁ ∷ m₂ ∷ m₃ ∷ m₄ ∷ []) b o)) apart $ split ! $ fsplit ! $ move ! (1 ∷ []) $ fsplit ! $ move ! (1 ∷ []) $ fsplit ! $ move ! (1 ∷ []) $ fsplit ! $ move ! (1 ∷ []) $ fsplit ! $ move ! (1 ∷ []) $ drop ! $
          move ! (4 ∷ []) $ use1 𝓛 (some (λ (vs : List Val). ‵ (cell_at full_share (state_row S₀).mir vs b at₀) ⊛ ‵ ((state_row S₀).own_val (hd h) vs))) opened $ pick ! (λ vs. split ! $ spelt ! (state_row S₀) (Is (state_row S₀)) (shows 𝓛 (state_row S₀)) (LL.vals S₀.T S₀.L) (LL.tells S₀.T S₀.L) full_share (hd h) vs b at₀ $ move ! (1 ∷ []) $ peeks ! (state_row S₀) (Is (state_row S₀)) (shows 𝓛 (state_row S₀)) (hd h) (mach (hd h) ∷ []) (λ was.
          assigns ! (of_opd ! (load ! (from ! (hop ! (look ! 34 refl) (fld ! refl (stop !)))) (look_raw ! 1 refl))) (from ! (stop !)) (init ! 24 refl (((LL.lawful S₀.T S₀.L 𝓛).typed (hd h) _ was).0)) $
          assigns ! (addr ! (from ! (hop ! (look ! 34 refl) (fld ! refl (stop !))))) (from ! (stop !)) (init ! 20 refl (tt, tt)) $
          assigns ! (addr ! (from ! (hop ! (look ! 34 refl) (fld ! refl (stop !))))) (from ! (stop !)) (init ! 18 refl (tt, tt)) $
          assigns ! (addr ! (from ! (hop ! (look ! 34 refl) (fld ! refl (stop !))))) (from ! (stop !)) (init ! 16 refl (tt, tt)) $
          assigns ! (addr ! (from ! (hop ! (look ! 34 refl) (fld ! refl (stop !))))) (from ! (stop !)) (init ! 14 refl (tt, tt)) $
          lft_new ! tt (λ ν₁. move ! (6 ∷ []) $ use1 𝓛 (later (some (λ (δ : GName). ‵ ((MutRef (named 0) (ν₁ ∷ []) (member_row m₁)).own_val (record { ref_ptr = (b, at₁); ghost_name = δ; now = (to h).1.0 }) (vptr b at₁ ∷ [])) ⊛ ‵ (flent (ν₁ ∷ []) (Body (mem (member_row m₁)) b at₁ δ))))) (lends_ref 𝓛 (member_row m₁) (named 0) (ν₁ ∷ []) (to h).1.0 b at₁) $ await ! tt $ pick ! (λ δ₁. split ! $
          lft_new ! tt (λ ν₂. move ! (8 ∷ []) $ use1 𝓛 (later (some (λ (δ : GName). ‵ ((MutRef (named 1) (ν₂ ∷ []) (member_row m₂)).own_val (record { ref_ptr = (b, at₂); ghost_name = δ; now = (to h).1.1.0 }) (vptr b at₂ ∷ [])) ⊛ ‵ (flent (ν₂ ∷ []) (Body (mem (member_row m₂)) b at₂ δ))))) (lends_ref 𝓛 (member_row m₂) (named 1) (ν₂ ∷ []) (to h).1.1.0 b at₂) $ await ! tt $ pick ! (λ δ₂. split ! $
          lft_new ! tt (λ ν₃. move ! (10 ∷ []) $ use1 𝓛 (later (some (λ (δ : GName). ‵ ((MutRef (named 2) (ν₃ ∷ []) (member_row m₃)).own_val (record { ref_ptr = (b, at₃); ghost_name = δ; now = (to h).1.1.1.0 }) (vptr b at₃ ∷ [])) ⊛ ‵ (flent (ν₃ ∷ []) (Body (mem (member_row m₃)) b at₃ δ))))) (lends_ref 𝓛 (member_row m₃) (named 2) (ν₃ ∷ []) (to h).1.1.1.0 b at₃) $ await ! tt $ pick ! (λ δ₃. split ! $
          lft_new ! tt (λ ν₄. move ! (12 ∷ []) $ use1 𝓛 (later (some (λ (δ : GName). ‵ ((MutRef (named 3) (ν₄ ∷ []) (member_row m₄)).own_val (record { ref_ptr = (b, at₄); ghost_name = δ; now = (to h).1.1.1.1.0 }) (vptr b at₄ ∷ [])) ⊛ ‵ (flent (ν₄ ∷ []) (Body (mem (member_row m₄)) b at₄ δ))))) (lends_ref 𝓛 (member_row m₄) (named 3) (ν₄ ∷ []) (to h).1.1.1.1.0 b at₄) $ await ! tt $ pick ! (λ δ₄. split ! $
          move ! (19 ∷ []) $ use1 𝓛 (‵ ((ShrSlice (named 1) κ₂ (row_of A₂)).own_val a₂ (slice_val a₂.ref_ptr (length a₂.now) ∷ [])) ⊛ ‵ ((ShrSlice (named 1) κ₂ (row_of A₂)).own_val a₂ (slice_val a₂.ref_ptr (length a₂.now) ∷ []))) ((shr_slice_copy 𝓛 (named 1) κ₂ (row_of A₂) (row_laws A₂)).twice a₂ (slice_val a₂.ref_ptr (length a₂.now) ∷ [])) $ split ! $ move ! (2 ∷ 0 ∷ []) $ join ! $ move ! (4 ∷ 0 ∷ []) $ join ! $ move ! (6 ∷ 0 ∷ []) $ join ! $ move ! (8 ∷ 0 ∷ []) $ join ! $ move ! (16 ∷ 0 ∷ []) $ join ! $ move ! (3 ∷ 0 ∷ []) $ join ! $ move ! (4 ∷ 0 ∷ []) $ join ! $ move ! (5 ∷ 0 ∷ []) $ join ! $ move ! (6 ∷ 0 ∷ []) $ join ! $ use1 𝓛 (raw ((Callee 𝓛).pre (to_callee ν₁ δ₁ ν₂ δ₂ ν₃ δ₃ ν₄ δ₄))) (asked was ν₁ δ₁ ν₂ δ₂ ν₃ δ₃ ν₄ δ₄) $ calls_at ! fm (Callee 𝓛) known (to_callee ν₁ δ₁ ν₂ δ₂ ν₃ δ₃ ν₄ δ₄) (and_then ! (load ! (from ! (stop !)) (look ! 24 refl)) (and_then ! (load ! (from ! (stop !)) (look ! 20 refl)) (and_then ! (load ! (from ! (stop !)) (look ! 18 refl)) (and_then ! (load ! (from ! (stop !)) (look ! 16 refl)) (and_then ! (load ! (from ! (stop !)) (look ! 14 refl)) (and_then ! (load ! (from ! (stop !)) (look ! 32 refl)) (and_then ! (load ! (from ! (stop !)) (look ! 30 refl)) (and_then ! (load ! (from ! (stop !)) (look ! 28 refl)) (and_then ! (load ! (from ! (stop !)) (look ! 26 refl)) (no_more !)))))))))) (λ u.
          use1 𝓛 (later (some (λ (r : O.row.Denot). ((‵ (flft (ν₁ ∷ []) full_share) ⊛ ‵ (flft (ν₂ ∷ []) full_share) ⊛ ‵ (flft (ν₃ ∷ []) full_share) ⊛ ‵ (flft (ν₄ ∷ []) full_share) ⊛ ‵ (flft κ₂ q₂) ⊛ ‵ ftrue) ⊛ ‵ (O.row.own_val r (u ∷ []))) ⊛ raw ((callee_spec 𝓛 (ν₁ ∷ [], (ν₂ ∷ [], (ν₃ ∷ [], (ν₄ ∷ [], (κ₂, tt))))) ((hd h), (record { ref_ptr = (b, at₁); ghost_name = δ₁; now = (to h).1.0 }, (record { ref_ptr = (b, at₂); ghost_name = δ₂; now = (to h).1.1.0 }, (record { ref_ptr = (b, at₃); ghost_name = δ₃; now = (to h).1.1.1.0 }, (record { ref_ptr = (b, at₄); ghost_name = δ₄; now = (to h).1.1.1.1.0 }, (a₁, (a₂, (a₃, (a₄, tt)))))))))).ensures tt r)))) (id⊢ 𝓤 _) $ await ! tt $ pick ! (λ r. split ! $ move ! (1 ∷ []) $ use1 𝓛 (some (λ (ws : Fins (ν₁ ∷ [], (ν₂ ∷ [], (ν₃ ∷ [], (ν₄ ∷ [], (κ₂, tt))))) callee.params (yes, (yes, (yes, (yes, (yes, (yes, (yes, (yes, (yes, tt))))))))) ((hd h), (record { ref_ptr = (b, at₁); ghost_name = δ₁; now = (to h).1.0 }, (record { ref_ptr = (b, at₂); ghost_name = δ₂; now = (to h).1.1.0 }, (record { ref_ptr = (b, at₃); ghost_name = δ₃; now = (to h).1.1.1.0 }, (record { ref_ptr = (b, at₄); ghost_name = δ₄; now = (to h).1.1.1.1.0 }, (a₁, (a₂, (a₃, (a₄, tt)))))))))). ‵ (lasts_of (ν₁ ∷ [], (ν₂ ∷ [], (ν₃ ∷ [], (ν₄ ∷ [], (κ₂, tt))))) callee.params (yes, (yes, (yes, (yes, (yes, (yes, (yes, (yes, (yes, tt))))))))) ((hd h), (record { ref_ptr = (b, at₁); ghost_name = δ₁; now = (to h).1.0 }, (record { ref_ptr = (b, at₂); ghost_name = δ₂; now = (to h).1.1.0 }, (record { ref_ptr = (b, at₃); ghost_name = δ₃; now = (to h).1.1.1.0 }, (record { ref_ptr = (b, at₄); ghost_name = δ₄; now = (to h).1.1.1.1.0 }, (a₁, (a₂, (a₃, (a₄, tt))))))))) ws) ⊛ raw (fact 𝓤 ((r ≡ spec (hd h) (to h).1.0 (to h).1.1.0 (to h).1.1.1.0 (to h).1.1.1.1.0 a₁ a₂.now a₃ a₄) × (ws.1.0 ≡ set₁ (hd h) (to h).1.0 (to h).1.1.0 (to h).1.1.1.0 (to h).1.1.1.1.0 a₁ a₂.now a₃ a₄) × (ws.1.1.0 ≡ set₂ (hd h) (to h).1.0 (to h).1.1.0 (to h).1.1.1.0 (to h).1.1.1.1.0 a₁ a₂.now a₃ a₄) × (ws.1.1.1.0 ≡ set₃ (hd h) (to h).1.0 (to h).1.1.0 (to h).1.1.1.0 (to h).1.1.1.1.0 a₁ a₂.now a₃ a₄) × (ws.1.1.1.1.0 ≡ set₄ (hd h) (to h).1.0 (to h).1.1.0 (to h).1.1.1.0 (to h).1.1.1.1.0 a₁ a₂.now a₃ a₄))))) (id⊢ 𝓤 _) $ pick ! (λ ws. split ! $ move ! (1 ∷ []) $ heard ! ((r ≡ spec (hd h) (to h).1.0 (to h).1.1.0 (to h).1.1.1.0 (to h).1.1.1.1.0 a₁ a₂.now a₃ a₄) × (ws.1.0 ≡ set₁ (hd h) (to h).1.0 (to h).1.1.0 (to h).1.1.1.0 (to h).1.1.1.1.0 a₁ a₂.now a₃ a₄) × (ws.1.1.0 ≡ set₂ (hd h) (to h).1.0 (to h).1.1.0 (to h).1.1.1.0 (to h).1.1.1.1.0 a₁ a₂.now a₃ a₄) × (ws.1.1.1.0 ≡ set₃ (hd h) (to h).1.0 (to h).1.1.0 (to h).1.1.1.0 (to h).1.1.1.1.0 a₁ a₂.now a₃ a₄) × (ws.1.1.1.1.0 ≡ set₄ (hd h) (to h).1.0 (to h).1.1.0 (to h).1.1.1.0 (to h).1.1.1.1.0 a₁ a₂.now a₃ a₄)) (λ e. fsplit ! $ drop ! $ fsplit ! $ fsplit ! $ move ! (1 ∷ []) $ drop ! $ move ! (1 ∷ []) $ fsplit ! $ fsplit ! $ move ! (1 ∷ []) $ drop ! $ move ! (1 ∷ []) $ fsplit ! $ fsplit ! $ move ! (1 ∷ []) $ drop ! $ move ! (1 ∷ []) $ fsplit ! $ fsplit ! $ move ! (1 ∷ []) $ drop ! $ move ! (1 ∷ []) $ drop ! $ move ! (4 ∷ []) $ split ! $ split ! $ move ! (1 ∷ []) $ split ! $ move ! (1 ∷ []) $ split ! $ move ! (1 ∷ []) $ split ! $ move ! (1 ∷ []) $ split ! $ move ! (1 ∷ []) $ drop ! $ move ! (5 ∷ []) $ peeks ! O.row (Is O.row) (shows 𝓛 O.row) r (u ∷ []) (λ is.
          land ! (from ! (stop !)) (init ! 31 refl (typed_out r u is)) $ rewrite ! 31 (λ (u' : Val). ‵ (fat full_share τO b₇ 0 u')) (ap only (O.tells r _ is)) refl $
          assigns ! (of_opd ! (load ! (from ! (fld ! refl (stop !))) (look_in ! 31 (sub ! 1 refl (whole !))))) (from ! (stop !)) (init ! 21 refl (((LL.lawful S₀.T S₀.L 𝓛).typed (O.st r) _ (O.st_is r _ is)).0)) $
          assigns ! (of_opd ! (load ! (from ! (stop !)) (look ! 21 refl))) (from ! (hop ! (look ! 43 refl) (fld ! refl (stop !)))) (store_raw ! 16 refl (((LL.lawful S₀.T S₀.L 𝓛).typed (O.st r) _ (O.st_is r _ is)).0)) $
          assigns ! (of_opd ! (load ! (from ! (fld ! refl (stop !))) (look_in ! 31 (sub ! 0 refl (whole !))))) (from ! (stop !)) (init ! 45 refl (Ans.typed (O.ans r) (O.ans_is r _ is))) $
          drop ! $ move ! (14 ∷ []) $ drop ! $ owned ! (state_row S₀) (Is (state_row S₀)) (LL.makes S₀.T S₀.plain 𝓛) (O.st r) _ (O.st_is r _ is) $ move ! (15 ∷ 0 ∷ []) $ use2 𝓛 (‵ (part_at (member_row (state_member S₀)) full_share (S₀.T.to (O.st r)) b at₀)) (shut (O.st r) (mach (O.st r) ∷ [])) $
          move ! (5 ∷ []) $ lft_end ! tt $ move ! (0 ∷ 14 ∷ 9 ∷ []) $ use3 𝓛 (later (‵ (part_at (member_row m₁) full_share (ws.1.0) b at₁))) (ref_back 𝓛 (member_row m₁) (ν₁ ∷ []) δ₁ (ws.1.0) b at₁) $ await ! tt $
          move ! (5 ∷ []) $ lft_end ! tt $ move ! (0 ∷ 12 ∷ 8 ∷ []) $ use3 𝓛 (later (‵ (part_at (member_row m₂) full_share (ws.1.1.0) b at₂))) (ref_back 𝓛 (member_row m₂) (ν₂ ∷ []) δ₂ (ws.1.1.0) b at₂) $ await ! tt $
          move ! (5 ∷ []) $ lft_end ! tt $ move ! (0 ∷ 10 ∷ 7 ∷ []) $ use3 𝓛 (later (‵ (part_at (member_row m₃) full_share (ws.1.1.1.0) b at₃))) (ref_back 𝓛 (member_row m₃) (ν₃ ∷ []) δ₃ (ws.1.1.1.0) b at₃) $ await ! tt $
          move ! (5 ∷ []) $ lft_end ! tt $ move ! (0 ∷ 8 ∷ 6 ∷ []) $ use3 𝓛 (later (‵ (part_at (member_row m₄) full_share (ws.1.1.1.1.0) b at₄))) (ref_back 𝓛 (member_row m₄) (ν₄ ∷ []) δ₄ (ws.1.1.1.1.0) b at₄) $ await ! tt $
          nothing ! $ move ! (1 ∷ 0 ∷ []) $ fjoin ! $ move ! (1 ∷ 0 ∷ []) $ fjoin ! $ move ! (1 ∷ 0 ∷ []) $ fjoin ! $ move ! (1 ∷ 0 ∷ []) $ fjoin ! $ move ! (1 ∷ 0 ∷ []) $ fjoin ! $ move ! (0 ∷ 3 ∷ []) $ use2 𝓛 (‵ (part_at Row full_share (next h a₁ a₂.now a₃ a₄) b o)) (together (S₀.T.to (O.st r), (ws.1.0, (ws.1.1.0, (ws.1.1.1.0, (ws.1.1.1.1.0, tt))))) ((λ i. (S₀.T.to (O.st (e.0 i)), (e.1 i, (e.2 i, (e.3 i, (e.4 i, tt)))))) ∙ next_is h a₁ a₂.now a₃ a₄)) $
          move ! (0 ∷ 3 ∷ 4 ∷ 5 ∷ []) $ close_ref ! tt (mem Row) (next h a₁ a₂.now a₃ a₄) {b = b} {o = o} $ returns ! (look ! 29 refl) $ forget ! 29 refl $ forget ! 27 refl $ forget ! 25 refl $ forget ! 23 refl $ forget ! 21 refl $ forget ! 19 refl $ forget ! 17 refl $ forget ! 15 refl $ forget ! 13 refl $ forget ! 11 refl $ forget ! 9 refl $ forget ! 7 refl $ forget ! 5 refl $
          move ! (29 ∷ 30 ∷ []) $ free1 ! $ move ! (27 ∷ 28 ∷ []) $ free1 ! $ move ! (25 ∷ 26 ∷ []) $ free1 ! $ move ! (23 ∷ 24 ∷ []) $ free1 ! $ move ! (21 ∷ 22 ∷ []) $ free1 ! $ move ! (19 ∷ 20 ∷ []) $ free1 ! $ move ! (17 ∷ 18 ∷ []) $ free1 ! $ move ! (15 ∷ 16 ∷ []) $ free1 ! $ move ! (13 ∷ 14 ∷ []) $ free1 ! $ move ! (11 ∷ 12 ∷ []) $ free1 ! $ move ! (9 ∷ 10 ∷ []) $ free1 ! $ move ! (7 ∷ 8 ∷ []) $ free1 ! $ move ! (5 ∷ 6 ∷ []) $ free1 ! $ free0 ! $ keep ! (0 ∷ 1 ∷ 2 ∷ 3 ∷ 4 ∷ []) $ by ! (ends r (O.ans_is r _ is) (ap O.ans (e.0) ∙ ans_is h a₁ a₂.now a₃ a₄))))))))))))))))))))))))))))))

  walks : {M : Type 1} {𝓤 : Ura M} (𝓛 : Logic 𝓤) (C : Calls 𝓤 𝓛.H) (Λ : Loops 𝓤 𝓛.H) → FmC 𝓤 𝓛.H 𝓛.laws C → Triple 𝓤 (C key) (Callee 𝓛) → Walks 𝓛 ended stayed (WpFn 𝓤 𝓛.H C Λ function) (clauses 𝓛)
  walks {𝓤 = 𝓤} 𝓛 C Λ fm known = walked 𝓛 ended stayed (clauses 𝓛) (WpFn 𝓤 𝓛.H C Λ function) (λ κs. (mut_vals, ((λ y. A₁.val y ∷ []), (shr_slice_vals, ((λ y. A₃.val y ∷ []), ((λ y. A₄.val y ∷ []), tt)))))) (λ κs. (mut_Tells (named 0) κs.0 Row, (A₁.tells, (shr_slice_Tells (named 1) κs.1.0 (row_of A₂), (A₃.tells, (A₄.tells, tt))))))
      (λ κs qs bounds a g are. via 𝓤 _ (fst∗ 𝓤 _ (emp 𝓤)) (walk 𝓛 κs.0 qs.0 κs.1.0 qs.1.0 a.0.ref_ptr.0 a.0.ref_ptr.1 a.0.ghost_name a.0.now a.1.0 a.1.1.0 a.1.1.1.0 a.1.1.1.1.0 are.1.0 are.1.1.0 are.1.1.1.0 are.1.1.1.1.0 C Λ fm known))

  meets : {M : Type 1} {𝓤 : Ura M} (𝓛 : Logic 𝓤) (𝓣 : Tables 𝓤 𝓛.H) → Triple 𝓤 (𝓣.C key) (Callee 𝓛) → Meets 𝓛 signature (WpFn 𝓤 𝓛.H 𝓣.C 𝓣.Λ function) (closing 𝓛 ended (clauses 𝓛))
  meets {𝓤 = 𝓤} 𝓛 𝓣 known = walk_Meets 𝓛 ended stayed (Goes-ref 𝓛 2 0 tt (plain (λ _. Row)), (Goes-none 𝓛 2 (λ _. row_of A₁) yes (λ κs x f. refl), (Goes-none_slice 𝓛 2 (1 ∷ []) tt (plain (λ _. row_of A₂)) yes, (Goes-none 𝓛 2 (λ _. row_of A₃) yes (λ κs x f. refl), (Goes-none 𝓛 2 (λ _. row_of A₄) yes (λ κs x f. refl), tt))))) (clauses 𝓛) (WpFn 𝓤 𝓛.H 𝓣.C 𝓣.Λ function) (WpFn-mono 𝓤 𝓛.H 𝓛.laws 𝓣 function)
      (walks 𝓛 𝓣.C 𝓣.Λ (fm_of 𝓤 𝓛.H 𝓛.laws 𝓣) known)

  -- over the tables of the function's environment, from the callee's own theorem
  pub proved : {M : Type 1} {𝓤 : Ura M} (𝓛 : Logic 𝓤) (𝓜 : Model 𝓤 𝓛.H) (𝓡 : Running 𝓤 𝓛.H 𝓜) (env : Env) (self : Name) → Closed 𝓤 𝓛.H (tables 𝓤 𝓛.H 𝓜 𝓡 env).C (tables 𝓤 𝓛.H 𝓜 𝓡 env).Λ self function
      → (routine : Routine) → env key ≡ routine → Triple 𝓤 (𝓡.run routine) (Callee 𝓛) → Meets 𝓛 signature ((tables 𝓤 𝓛.H 𝓜 𝓡 env).C self) (closing 𝓛 ended (clauses 𝓛))
  unfolding tables_of
  proved {𝓤 = 𝓤} 𝓛 𝓜 𝓡 env self closed routine calls met =
      entered 𝓤 𝓛.H (triple_of 𝓛 signature (closing 𝓛 ended (clauses 𝓛))) (tables 𝓤 𝓛.H 𝓜 𝓡 env).C (tables 𝓤 𝓛.H 𝓜 𝓡 env).Λ self function closed
      (meets 𝓛 (tables_of 𝓤 𝓛.H 𝓜 (tables 𝓤 𝓛.H 𝓜 𝓡 env)) (cited 𝓤 𝓛.H (Callee 𝓛) 𝓜 𝓡 env key routine calls met))
