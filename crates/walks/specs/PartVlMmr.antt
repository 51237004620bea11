-- `fn f(t: &mut S, a1: &mut [A1], a2: &mut [A2], a3: &mut A3) -> Ans`, where S has 2 fields, of which one goes by value to the callee and 1 are lent to it, of the form of tools/part.py, which wrote this file: it meets the contract that says the callee's of what lies behind the reference.
-- For all types: `Behind.antt` has what is asked of them. Assumes nothing.
use Rattle.std.specs.Prelude.{◌≡◌, refl, ℕ, zero, ◌+◌, [], ◌∷◌, List, T as Holds, length}
use Rattle.std.proofs.Common.{sym, ap, subst, ◌∙◌}
use seplogic.Ra.Ura.{Ura}
use base.Fraction.{full_share}
use mir.Syntax.{Sym, Callee as Name, Ty, Fn, named, erased, mut, ty_ref, ty_struct, tnil, tcons, local, value_local, place, deref, field, copy, rv_opd, addr_of, aggregate, seq, assign, call, return}
use mir.Val.{Val, vptr, WT, has_ty}
use base.Logic.{SProp, ent, sep, ex, wand, emp, via, fst∗, id⊢, all_e, apply∗, ex_i}
use base.Fml.{GName, Lft, Share, Fml, ftrue, fsep, flft, flent, fobs, fbor, fres, fat}
use prog.Memory.{up, align, size}
use prog.Model.{Model}
use prog.Routine.{Routine, Env}
use prog.Wp.{Calls, Loops, Closed, WpFn, Tables}
use types.Logic.{Logic, sem}
use contract.Lifetimes.{Lfts}
use contract.Monad.{fact}
use contract.Running.{Running, tables, tables_of}
use types.Kit.{‵, raw, ◌⊛◌, ⋆, some, later, ◌$◌, ◌∵◌, !, qed, by, move, keep, drop, use1, use2, use3, split, join, pick, rewrite, fsplit, fsplit3, fjoin, fjoin3, feq_l, feq_i, suffices, frame, await, done}
use types.Run.{look, look_raw, init, store_raw, forget, stop, hop, fld, from, load, addr, of_opd, and_then, no_more, assigns, land, returns, enter, alloc1, alloc0, params1, pass1, pass0, free1, free0}
use types.Part.{agg, whole, sub, look_in}
use types.SemTy.{Body, Arr}
use types.Hole.{Holey}
use types.Mut.{open_ref, close_ref}
use types.Tokens.{lft_new, lft_end}
use sound.WpLaws.{FmC, fm_of, WpFn-mono}
use denote.RattleType.{RattleType, Denots, owns}
use denote.Shadow.{makes_shadow}
use denote.Laws.{Is, Makes, Lawfuls, shows}
use denote.Memory.{mem, part_at, part_of, cell_at, pointee}
use denote.Builtin.{RefMutOf, SliceRefMutOf}
use denote.Ref.{MutBor, MutRef, mut_vals, mut_Tells}
use denote.Slice.{MutSlice, slice_ty, slice_val, mut_slice_vals, finally, mut_slice_Tells, mut_slice_Lawful}
use denote.Signature.{Signature, plain}
use denote.Exit.{yes}
use denote.Lend.{lends_ref, ref_back}
use denote.Steps.{only, owned, peeks, heard, nothing}
use denote.Struct.Steps.{spelt}
use denote.Struct.Struct.{Struct, layout, as_fields}
use denote.Struct.Declared.{shape}
use denote.Struct.Recorded.{Recorded, Recorded-part}
use denote.Struct.Members.{Member, row_of as member_row, rows_of, parts_at}
use denote.Struct.Parts.{shape_of, PartsBack, Struct-parts}
use denote.Triple.Statement.{Contract, Triple}
use denote.Triple.Call.{calls_at}
use denote.Triple.Clauses.{Ended, AtExit, Clauses, closing}
use denote.Triple.End.{Fins, lasts_of}
use denote.Triple.Entry.{Args, Res, on_entry}
use denote.Triple.Spec.{Spec, Meets, triple_of, exits}
use denote.Triple.Table.{entered, cited}
use denote.Triple.Walked.{says, Stays, stay_ref, gave_slice, gave_ref, walk_of, Goes-ref, Goes-gave_slice, Goes-gave_ref, Walks, ends_at, walked, walk_Meets}
use denote.Struct.Laws as LL
use Rattle.common.specs.Promise.{Promise, by_value}
use Rattle.walks.specs.Behind.{Arg, row_of, State, state_row, state_member, Out}

module _ (S₀ : State) (ν : Sym) (m₁ : Member) (D : Type 0) (to : D → Denots (rows_of ((state_member S₀) ∷ m₁ ∷ []))) (one : (x y : D) → to x ≡ to y → x ≡ y) (hd : D → S₀.T.D) (hd_is : (d : D) → (to d).0 ≡ S₀.T.to (hd d))
    (lawful : (M : Type 1) (𝓤 : Ura M) (𝓛 : Logic 𝓤) → Lawfuls 𝓛 (rows_of ((state_member S₀) ∷ m₁ ∷ [])))
    (A₁ A₂ A₃ : Arg) (Ans : Arg) (O : Out S₀ Ans) (key : Name)
    (spec : S₀.T.D → m₁.row.Denot → List A₁.X → List A₂.X → A₃.X → O.row.Denot) (set₁ : S₀.T.D → m₁.row.Denot → List A₁.X → List A₂.X → A₃.X → m₁.row.Denot) (fill₁ : S₀.T.D → m₁.row.Denot → List A₁.X → List A₂.X → A₃.X → List A₁.X) (fill₂ : S₀.T.D → m₁.row.Denot → List A₁.X → List A₂.X → A₃.X → List A₂.X) (fill₃ : S₀.T.D → m₁.row.Denot → List A₁.X → List A₂.X → A₃.X → A₃.X)
    (ans : D → List A₁.X → List A₂.X → A₃.X → Ans.X) (next : D → List A₁.X → List A₂.X → A₃.X → D) (last₁ : D → List A₁.X → List A₂.X → A₃.X → List A₁.X) (last₂ : D → List A₁.X → List A₂.X → A₃.X → List A₂.X) (last₃ : D → List A₁.X → List A₂.X → A₃.X → A₃.X)
    (ans_is : (d : D) (y₁ : List A₁.X) (y₂ : List A₂.X) (y₃ : A₃.X) → O.ans (spec (hd d) (to d).1.0 y₁ y₂ y₃) ≡ ans d y₁ y₂ y₃) (next_is : (d : D) (y₁ : List A₁.X) (y₂ : List A₂.X) (y₃ : A₃.X) → (S₀.T.to (O.st (spec (hd d) (to d).1.0 y₁ y₂ y₃)), (set₁ (hd d) (to d).1.0 y₁ y₂ y₃, tt)) ≡ to (next d y₁ y₂ y₃)) (last_is₁ : (d : D) (y₁ : List A₁.X) (y₂ : List A₂.X) (y₃ : A₃.X) → fill₁ (hd d) (to d).1.0 y₁ y₂ y₃ ≡ last₁ d y₁ y₂ y₃) (last_is₂ : (d : D) (y₁ : List A₁.X) (y₂ : List A₂.X) (y₃ : A₃.X) → fill₂ (hd d) (to d).1.0 y₁ y₂ y₃ ≡ last₂ d y₁ y₂ y₃) (last_is₃ : (d : D) (y₁ : List A₁.X) (y₂ : List A₂.X) (y₃ : A₃.X) → fill₃ (hd d) (to d).1.0 y₁ y₂ y₃ ≡ last₃ d y₁ y₂ y₃) where
  abbrev Tuple : RattleType
  Tuple = Struct (shape_of ν ((state_member S₀) ∷ m₁ ∷ []))

  abbrev Row : RattleType
  Row = Recorded Tuple D to one

  abbrev τS : Ty
  τS = layout (shape_of ν ((state_member S₀) ∷ m₁ ∷ []))

  abbrev τV : Ty
  τV = layout (shape S₀.T)

  abbrev τO : Ty
  τO = ty_struct O.name (tcons Ans.ty (tcons τV tnil))

  abbrev pub function : Fn
  function = record {
    lifetimes = 4;
    outlives = [];
    ty_params = [];
    givens = 0;
    params = 4;
    locals = local Ans.ty value_local ∷ local (ty_ref (named 0) mut (pointee Row.written)) value_local ∷ local (slice_ty (ty_ref (named 1) mut A₁.ty)) value_local ∷ local (slice_ty (ty_ref (named 2) mut A₂.ty)) value_local ∷ local (ty_ref (named 3) mut A₃.ty) value_local ∷ local τV value_local ∷ local τO value_local ∷ local (ty_ref erased mut (pointee m₁.row.written)) value_local ∷ local (ty_ref erased mut A₁.ty) value_local ∷ local (slice_ty (ty_ref erased mut A₁.ty)) value_local ∷ local (ty_ref erased mut A₂.ty) value_local ∷ local (slice_ty (ty_ref erased mut A₂.ty)) value_local ∷ local (ty_ref erased mut A₃.ty) value_local ∷ local τV value_local ∷ [];
    body = seq (assign (place 5 []) (rv_opd (copy (place 1 (deref τS ∷ field 0 ∷ []))))) (seq (assign (place 7 []) (addr_of (place 1 (deref τS ∷ field 1 ∷ [])))) (seq (assign (place 8 []) (addr_of (place 2 (field 0 ∷ deref A₁.ty ∷ [])))) (seq (assign (place 9 []) (aggregate (copy (place 8 []) ∷ copy (place 2 (field 1 ∷ [])) ∷ []))) (seq (assign (place 10 []) (addr_of (place 3 (field 0 ∷ deref A₂.ty ∷ [])))) (seq (assign (place 11 []) (aggregate (copy (place 10 []) ∷ copy (place 3 (field 1 ∷ [])) ∷ []))) (seq (assign (place 12 []) (addr_of (place 4 (deref A₃.ty ∷ [])))) (seq (call key (copy (place 5 []) ∷ copy (place 7 []) ∷ copy (place 9 []) ∷ copy (place 11 []) ∷ copy (place 12 []) ∷ []) (place 6 [])) (seq (assign (place 13 []) (rv_opd (copy (place 6 (field 1 ∷ []))))) (seq (assign (place 1 (deref τS ∷ field 0 ∷ [])) (rv_opd (copy (place 13 [])))) (seq (assign (place 0 []) (rv_opd (copy (place 6 (field 0 ∷ []))))) return))))))))));
  }

  abbrev pub callee : Signature
  callee = record { lifetimes = 4; outlives = []; params = plain (λ _. state_row S₀) ∷ RefMutOf (0 ∷ []) tt (plain (λ _. member_row m₁)) (λ _. tt) ∷ SliceRefMutOf (1 ∷ []) tt (plain (λ _. row_of A₁)) (λ _. tt) ∷ SliceRefMutOf (2 ∷ []) tt (plain (λ _. row_of A₂)) (λ _. tt) ∷ RefMutOf (3 ∷ []) tt (plain (λ _. row_of A₃)) (λ _. tt) ∷ []; result = plain (λ _. O.row) }

  abbrev pub signature : Signature
  signature = record { lifetimes = 4; outlives = []; params = RefMutOf (0 ∷ []) tt (plain (λ _. Row)) (λ _. tt) ∷ SliceRefMutOf (1 ∷ []) tt (plain (λ _. row_of A₁)) (λ _. tt) ∷ SliceRefMutOf (2 ∷ []) tt (plain (λ _. row_of A₂)) (λ _. tt) ∷ RefMutOf (3 ∷ []) tt (plain (λ _. row_of A₃)) (λ _. tt) ∷ []; result = plain (λ _. row_of Ans) }

  abbrev pub ended : Ended
  ended = record { signature = signature; kept = (yes, (yes, (yes, (yes, tt)))) }

  abbrev stayed : Stays signature.params ended.kept
  stayed = (stay_ref (0 ∷ []) tt (plain (λ _. Row)), (gave_slice (1 ∷ []) tt (plain (λ _. row_of A₁)), (gave_slice (2 ∷ []) tt (plain (λ _. row_of A₂)), (gave_ref (3 ∷ []) tt (plain (λ _. row_of A₃)), tt))))

  -- what the contract says, and that no two outcomes satisfy it
  abbrev pub Post : (κs : Lfts 4) → Args signature κs → Res signature κs → AtExit ended κs → Type 0
  Post κs a r e = (r ≡ ans a.0.now a.1.0.now a.1.1.0.now a.1.1.1.0.now) × (e.0.now ≡ next a.0.now a.1.0.now a.1.1.0.now a.1.1.1.0.now) × (e.1.0.now ≡ last₁ a.0.now a.1.0.now a.1.1.0.now a.1.1.1.0.now) × (e.1.1.0.now ≡ last₂ a.0.now a.1.0.now a.1.1.0.now a.1.1.1.0.now) × (e.1.1.1.0.now ≡ last₃ a.0.now a.1.0.now a.1.1.0.now a.1.1.1.0.now)

  abbrev pub seen : (κs : Lfts 4) → Res signature κs → AtExit ended κs → Ans.X × D × (List A₁.X) × (List A₂.X) × A₃.X
  seen κs r e = (r, e.0.now, e.1.0.now, e.1.1.0.now, e.1.1.1.0.now)

  pub promise : Promise (λ (κs : Lfts 4) (a : Args signature κs). Unit {0}) Post seen
  promise = by_value _ (λ κs a. tt) (λ κs a r e p. λ i. (p.0 i, p.1 i, p.2 i, p.3 i, p.4 i))

  module _ {M : Type 1} {𝓤 : Ura M} (𝓛 : Logic 𝓤) where
    abbrev pub callee_spec : Spec 𝓤 callee
    callee_spec κs a = record { ghost = Unit {0}; requires = λ _. emp 𝓤; ensures = λ _ r. exits 𝓛 callee (yes, (yes, (yes, (yes, (yes, tt))))) κs a (λ e. fact 𝓤 ((r ≡ spec a.0 a.1.0.now a.1.1.0.now a.1.1.1.0.now a.1.1.1.1.0.now) × (e.1.0.now ≡ set₁ a.0 a.1.0.now a.1.1.0.now a.1.1.1.0.now a.1.1.1.1.0.now) × (e.1.1.0.now ≡ fill₁ a.0 a.1.0.now a.1.1.0.now a.1.1.1.0.now a.1.1.1.1.0.now) × (e.1.1.1.0.now ≡ fill₂ a.0 a.1.0.now a.1.1.0.now a.1.1.1.0.now a.1.1.1.1.0.now) × (e.1.1.1.1.0.now ≡ fill₃ a.0 a.1.0.now a.1.1.0.now a.1.1.1.0.now a.1.1.1.1.0.now))) }

    abbrev pub Callee : Contract 𝓤
    Callee = triple_of 𝓛 callee callee_spec

    abbrev pub clauses : Clauses 𝓤 ended
    clauses κs a = record { ghost = Unit {0}; requires = λ _. emp 𝓤; ensures = λ _ r e. fact 𝓤 (Post κs a r e) }

  made : {M : Type 1} {𝓤 : Ura M} (𝓛 : Logic 𝓤) (B : Arg) → Makes 𝓛 (row_of B) (Is (row_of B))
  made 𝓛 B x vs p = makes_shadow 𝓛 (B.own x vs) (B.pure x vs) p

  module _ {M : Type 1} {𝓤 : Ura M} (𝓛 : Logic 𝓤) (κ : Lft) (q : Share) (κ₁ : Lft) (q₁ : Share) (κ₂ : Lft) (q₂ : Share) (κ₃ : Lft) (q₃ : Share) (b o : ℕ) (γ : GName) (h : D) (a₁ : MutBor (List A₁.X)) (a₂ : MutBor (List A₂.X)) (a₃ : MutBor A₃.X) (p₁ : Is (MutSlice (named 1) κ₁ (row_of A₁)) a₁ (slice_val a₁.ref_ptr (length a₁.now) ∷ [])) (p₂ : Is (MutSlice (named 2) κ₂ (row_of A₂)) a₂ (slice_val a₂.ref_ptr (length a₂.now) ∷ [])) (p₃ : Is (MutRef (named 3) κ₃ (row_of A₃)) a₃ (vptr a₃.ref_ptr.0 a₃.ref_ptr.1 ∷ [])) where
    open 𝓛 use {H}

    abbrev Xs : Type 0
    Xs = MutBor D × (MutBor (List A₁.X) × (MutBor (List A₂.X) × (MutBor A₃.X × Unit {0})))

    abbrev Vs : Type 0
    Vs = List Val × (List Val × (List Val × (List Val × Unit {0})))

    abbrev x : Xs
    x = (record { ref_ptr = (b, o); ghost_name = γ; now = h }, (a₁, (a₂, (a₃, tt))))

    abbrev at : Vs
    at = (vptr b o ∷ [], (slice_val a₁.ref_ptr (length a₁.now) ∷ [], (slice_val a₂.ref_ptr (length a₂.now) ∷ [], (vptr a₃.ref_ptr.0 a₃.ref_ptr.1 ∷ [], tt))))

    abbrev After : Val → SProp 𝓤
    After = (walk_of 𝓛 ended stayed (clauses 𝓛)).post (((κ, (κ₁, (κ₂, (κ₃, tt)))), (q, (q₁, (q₂, (q₃, tt)))), tt, x, at), tt)

    abbrev mach : S₀.T.D → Val
    mach d = LL.val S₀.T S₀.L d

    -- where each field lies
    abbrev end₀ : ℕ
    end₀ = zero

    abbrev at₀ : ℕ
    at₀ = o + up (align (state_member S₀).ty) end₀

    abbrev end₁ : ℕ
    end₁ = up (align (state_member S₀).ty) end₀ + size (state_member S₀).ty

    abbrev at₁ : ℕ
    at₁ = o + up (align m₁.ty) end₁

    abbrev to_callee : ℕ → GName → (Callee 𝓛).Ghost
    to_callee ν₁ δ₁ = (((ν₁ ∷ [], (κ₁, (κ₂, (κ₃, tt)))), (full_share, (q₁, (q₂, (q₃, tt)))), tt, ((hd h), (record { ref_ptr = (b, at₁); ghost_name = δ₁; now = (to h).1.0 }, (a₁, (a₂, (a₃, tt))))), (mach (hd h) ∷ [], (vptr b at₁ ∷ [], (slice_val a₁.ref_ptr (length a₁.now) ∷ [], (slice_val a₂.ref_ptr (length a₂.now) ∷ [], (vptr a₃.ref_ptr.0 a₃.ref_ptr.1 ∷ [], tt)))))), tt)

    asked : Is (state_row S₀) (hd h) (mach (hd h) ∷ []) → (ν₁ : ℕ) (δ₁ : GName) → ent 𝓤 (⋆ 𝓛 (‵ (flft (ν₁ ∷ []) full_share) ∷ ‵ (flft κ₁ q₁) ∷ ‵ (flft κ₂ q₂) ∷ ‵ (flft κ₃ q₃) ∷ ‵ ((MutRef (named 0) (ν₁ ∷ []) (member_row m₁)).own_val (record { ref_ptr = (b, at₁); ghost_name = δ₁; now = (to h).1.0 }) (vptr b at₁ ∷ [])) ∷ ‵ ((MutSlice (named 1) κ₁ (row_of A₁)).own_val a₁ (slice_val a₁.ref_ptr (length a₁.now) ∷ [])) ∷ ‵ ((MutSlice (named 2) κ₂ (row_of A₂)).own_val a₂ (slice_val a₂.ref_ptr (length a₂.now) ∷ [])) ∷ ‵ ((MutRef (named 3) κ₃ (row_of A₃)).own_val a₃ (vptr a₃.ref_ptr.0 a₃.ref_ptr.1 ∷ [])) ∷ [])) ((Callee 𝓛).pre (to_callee ν₁ δ₁))
    asked was ν₁ δ₁ = qed 𝓛 (‵ (flft (ν₁ ∷ []) full_share) ∷ ‵ (flft κ₁ q₁) ∷ ‵ (flft κ₂ q₂) ∷ ‵ (flft κ₃ q₃) ∷ ‵ ((MutRef (named 0) (ν₁ ∷ []) (member_row m₁)).own_val (record { ref_ptr = (b, at₁); ghost_name = δ₁; now = (to h).1.0 }) (vptr b at₁ ∷ [])) ∷ ‵ ((MutSlice (named 1) κ₁ (row_of A₁)).own_val a₁ (slice_val a₁.ref_ptr (length a₁.now) ∷ [])) ∷ ‵ ((MutSlice (named 2) κ₂ (row_of A₂)).own_val a₂ (slice_val a₂.ref_ptr (length a₂.now) ∷ [])) ∷ ‵ ((MutRef (named 3) κ₃ (row_of A₃)).own_val a₃ (vptr a₃.ref_ptr.0 a₃.ref_ptr.1 ∷ [])) ∷ []) ∵ nothing ! $ move ! (8 ∷ 0 ∷ []) $ fjoin ! $ move ! (7 ∷ 0 ∷ []) $ fjoin ! $ move ! (6 ∷ 0 ∷ []) $ fjoin ! $ move ! (5 ∷ 0 ∷ []) $ fjoin ! $ owned ! (state_row S₀) (Is (state_row S₀)) (LL.makes S₀.T S₀.plain 𝓛) (hd h) _ was $ fjoin ! $ nothing ! $ move ! (5 ∷ 0 ∷ []) $ join ! $ move ! (4 ∷ 0 ∷ []) $ join ! $ move ! (3 ∷ 0 ∷ []) $ join ! $ move ! (2 ∷ 0 ∷ []) $ join ! $ join ! $ frame ! $ nothing ! $ done !

    ends : (r : O.row.Denot) (z₁ : List A₁.X) (l₁ : length z₁ ≡ length a₁.now) (z₂ : List A₂.X) (l₂ : length z₂ ≡ length a₂.now) (z₃ : A₃.X) → Is (row_of Ans) (O.ans r) (Ans.val (O.ans r) ∷ []) → (O.ans r ≡ ans h a₁.now a₂.now a₃.now) × (z₁ ≡ last₁ h a₁.now a₂.now a₃.now) × (z₂ ≡ last₂ h a₁.now a₂.now a₃.now) × (z₃ ≡ last₃ h a₁.now a₂.now a₃.now) → ent 𝓤 (⋆ 𝓛 (‵ (fobs γ (Row.coded.code (next h a₁.now a₂.now a₃.now))) ∷ ‵ (fbor κ (Body (mem Row) b o γ)) ∷ ‵ (flft κ q) ∷ ‵ (flft κ₁ q₁) ∷ ‵ (flft κ₂ q₂) ∷ ‵ (flft κ₃ q₃) ∷ ‵ (fsep (finally (row_of A₁) a₁.ghost_name z₁) (fbor κ₁ (Body (Arr (Holey (mem (row_of A₁))) (length a₁.now)) a₁.ref_ptr.0 a₁.ref_ptr.1 a₁.ghost_name))) ∷ ‵ (fsep (finally (row_of A₂) a₂.ghost_name z₂) (fbor κ₂ (Body (Arr (Holey (mem (row_of A₂))) (length a₂.now)) a₂.ref_ptr.0 a₂.ref_ptr.1 a₂.ghost_name))) ∷ ‵ (fsep (fres a₃.ghost_name ((row_of A₃).coded.code z₃)) (fbor κ₃ (Body (mem (row_of A₃)) a₃.ref_ptr.0 a₃.ref_ptr.1 a₃.ghost_name))) ∷ [])) (After (Ans.val (O.ans r)))
    ends r z₁ l₁ z₂ l₂ z₃ is e =
        qed 𝓛 (‵ (fobs γ (Row.coded.code (next h a₁.now a₂.now a₃.now))) ∷ ‵ (fbor κ (Body (mem Row) b o γ)) ∷ ‵ (flft κ q) ∷ ‵ (flft κ₁ q₁) ∷ ‵ (flft κ₂ q₂) ∷ ‵ (flft κ₃ q₃) ∷ ‵ (fsep (finally (row_of A₁) a₁.ghost_name z₁) (fbor κ₁ (Body (Arr (Holey (mem (row_of A₁))) (length a₁.now)) a₁.ref_ptr.0 a₁.ref_ptr.1 a₁.ghost_name))) ∷ ‵ (fsep (finally (row_of A₂) a₂.ghost_name z₂) (fbor κ₂ (Body (Arr (Holey (mem (row_of A₂))) (length a₂.now)) a₂.ref_ptr.0 a₂.ref_ptr.1 a₂.ghost_name))) ∷ ‵ (fsep (fres a₃.ghost_name ((row_of A₃).coded.code z₃)) (fbor κ₃ (Body (mem (row_of A₃)) a₃.ref_ptr.0 a₃.ref_ptr.1 a₃.ghost_name))) ∷ []) ∵
        suffices ! _ (ends_at 𝓛 ended stayed (clauses 𝓛) (((κ, (κ₁, (κ₂, (κ₃, tt)))), (q, (q₁, (q₂, (q₃, tt)))), tt, x, at), tt) (Ans.val (O.ans r)) (O.ans r) (next h a₁.now a₂.now a₃.now, (z₁, (z₂, (z₃, tt)))) (tt, (l₁, (l₂, (tt, tt))))) $ says ! (e.0, refl, e.1, e.2, e.3) $
        nothing ! $ move ! (6 ∷ 0 ∷ []) $ join ! $ move ! (5 ∷ 0 ∷ []) $ join ! $ move ! (4 ∷ 0 ∷ []) $ join ! $ move ! (3 ∷ 0 ∷ []) $ join ! $ frame ! $ feq_i ! (List Val) (vptr b o ∷ []) (vptr b o ∷ []) refl $ fjoin3 ! $ nothing ! $ move ! (4 ∷ 0 ∷ []) $ fjoin ! $ move ! (3 ∷ 0 ∷ []) $ fjoin ! $ move ! (2 ∷ 0 ∷ []) $ fjoin ! $ move ! (1 ∷ 0 ∷ []) $ fjoin ! $ owned ! (row_of Ans) (Is (row_of Ans)) (made 𝓛 Ans) (O.ans r) _ is $ move ! (1 ∷ 0 ∷ []) $ done !

    typed_out : (r : O.row.Denot) (u : Val) → Is O.row r (u ∷ []) → Holds (has_ty τO u) × WT u
    typed_out r u is = subst (λ (u' : Val). Holds (has_ty τO u') × WT u') (sym (ap only (O.tells r _ is)))
        (as_fields (Ans.ty ∷ τV ∷ []) (Ans.val (O.ans r) ∷ mach (O.st r) ∷ []) (Ans.typed (O.ans r) (O.ans_is r _ is), (((LL.lawful S₀.T S₀.L 𝓛).typed (O.st r) _ (O.st_is r _ is)).0, tt)))

    -- the head in memory is its cell with what it owns, and back
    opened : ent 𝓤 (sem 𝓛 (part_at (member_row (state_member S₀)) full_share (to h).0 b at₀)) (ex 𝓤 (λ (vs : List Val). sep 𝓤 (sem 𝓛 (cell_at full_share (state_row S₀).mir vs b at₀)) (sem 𝓛 ((state_row S₀).own_val (hd h) vs))))
    unfolding part_of
    opened = subst (λ (u : (member_row (state_member S₀)).Denot). ent 𝓤 (sem 𝓛 (part_at (member_row (state_member S₀)) full_share u b at₀)) (ex 𝓤 (λ (vs : List Val). sep 𝓤 (sem 𝓛 (cell_at full_share (state_row S₀).mir vs b at₀)) (sem 𝓛 ((state_row S₀).own_val (hd h) vs))))) (sym (hd_is h)) (id⊢ 𝓤 _)

    shut : (d : S₀.T.D) (vs : List Val) → ent 𝓤 (sep 𝓤 (sem 𝓛 (cell_at full_share (state_row S₀).mir vs b at₀)) (sem 𝓛 ((state_row S₀).own_val d vs))) (sem 𝓛 (part_at (member_row (state_member S₀)) full_share (S₀.T.to d) b at₀))
    unfolding part_of
    shut d vs = ex_i 𝓤 (λ (us : List Val). sep 𝓤 (sem 𝓛 (cell_at full_share (state_row S₀).mir us b at₀)) (sem 𝓛 ((state_row S₀).own_val d us))) vs

    -- the struct in memory is its fields in memory, and back
    apart : ent 𝓤 (sem 𝓛 (part_at Row full_share h b o)) (sep 𝓤 (sem 𝓛 (parts_at full_share ((state_member S₀) ∷ m₁ ∷ []) zero (to h) b o)) (PartsBack 𝓛 full_share ν ((state_member S₀) ∷ m₁ ∷ []) b o))
    apart = subst (λ (P : Fml). ent 𝓤 (sem 𝓛 P) (sep 𝓤 (sem 𝓛 (parts_at full_share ((state_member S₀) ∷ m₁ ∷ []) zero (to h) b o)) (PartsBack 𝓛 full_share ν ((state_member S₀) ∷ m₁ ∷ []) b o))) (sym (Recorded-part Tuple D to one full_share h b o))
        (Struct-parts 𝓛 full_share ν ((state_member S₀) ∷ m₁ ∷ []) (lawful M 𝓤 𝓛) (to h) b o)

    abbrev Back : Denots (rows_of ((state_member S₀) ∷ m₁ ∷ [])) → SProp 𝓤
    Back u = wand 𝓤 (sem 𝓛 (parts_at full_share ((state_member S₀) ∷ m₁ ∷ []) zero u b o)) (sem 𝓛 (part_at Tuple full_share u b o))

    together : (u : Denots (rows_of ((state_member S₀) ∷ m₁ ∷ []))) → u ≡ to (next h a₁.now a₂.now a₃.now) → ent 𝓤 (sep 𝓤 (sem 𝓛 (parts_at full_share ((state_member S₀) ∷ m₁ ∷ []) zero u b o)) (PartsBack 𝓛 full_share ν ((state_member S₀) ∷ m₁ ∷ []) b o)) (sem 𝓛 (part_at Row full_share (next h a₁.now a₂.now a₃.now) b o))
    together u e = subst (λ (P : Fml). ent 𝓤 (sep 𝓤 (sem 𝓛 (parts_at full_share ((state_member S₀) ∷ m₁ ∷ []) zero u b o)) (PartsBack 𝓛 full_share ν ((state_member S₀) ∷ m₁ ∷ []) b o)) (sem 𝓛 P)) (sym (Recorded-part Tuple D to one full_share (next h a₁.now a₂.now a₃.now) b o))
        (subst (λ (u' : Denots (rows_of ((state_member S₀) ∷ m₁ ∷ []))). ent 𝓤 (sep 𝓤 (sem 𝓛 (parts_at full_share ((state_member S₀) ∷ m₁ ∷ []) zero u b o)) (PartsBack 𝓛 full_share ν ((state_member S₀) ∷ m₁ ∷ []) b o)) (sem 𝓛 (part_at Tuple full_share u' b o))) e
        (qed 𝓛 (‵ (parts_at full_share ((state_member S₀) ∷ m₁ ∷ []) zero u b o) ∷ raw (PartsBack 𝓛 full_share ν ((state_member S₀) ∷ m₁ ∷ []) b o) ∷ []) ∵ move ! (1 ∷ []) $ use1 𝓛 (raw (Back u)) (all_e 𝓤 Back u) $ move ! (1 ∷ 0 ∷ []) $
        use2 𝓛 (‵ (part_at Tuple full_share u b o)) (apply∗ 𝓤 (sem 𝓛 (parts_at full_share ((state_member S₀) ∷ m₁ ∷ []) zero u b o)) (sem 𝓛 (part_at Tuple full_share u b o))) $ done !))

    module _ (C : Calls 𝓤 H) (Λ : Loops 𝓤 H) (fm : FmC 𝓤 H 𝓛.laws C) (known : Triple 𝓤 (C key) (Callee 𝓛)) where
      walk : ent 𝓤 (on_entry 𝓛 signature (κ, (κ₁, (κ₂, (κ₃, tt)))) (q, (q₁, (q₂, (q₃, tt)))) x at) (WpFn 𝓤 H C Λ function (vptr b o ∷ slice_val a₁.ref_ptr (length a₁.now) ∷ slice_val a₂.ref_ptr (length a₂.now) ∷ vptr a₃.ref_ptr.0 a₃.ref_ptr.1 ∷ []) After)
      walk =
          qed 𝓛 ((‵ (flft κ q) ⊛ ‵ (flft κ₁ q₁) ⊛ ‵ (flft κ₂ q₂) ⊛ ‵ (flft κ₃ q₃) ⊛ ‵ ftrue) ∷ ‵ (owns (MutRef (named 0) κ Row ∷ MutSlice (named 1) κ₁ (row_of A₁) ∷ MutSlice (named 2) κ₂ (row_of A₂) ∷ MutRef (named 3) κ₃ (row_of A₃) ∷ []) x at) ∷ []) ∵ enter ! C Λ function (vptr b o ∷ slice_val a₁.ref_ptr (length a₁.now) ∷ slice_val a₂.ref_ptr (length a₂.now) ∷ vptr a₃.ref_ptr.0 a₃.ref_ptr.1 ∷ []) _ $
          alloc1 ! (λ b₀. alloc1 ! (λ b₁. alloc1 ! (λ b₂. alloc1 ! (λ b₃. alloc1 ! (λ b₄. alloc1 ! (λ b₅. alloc1 ! (λ b₆. alloc1 ! (λ b₇. alloc1 ! (λ b₈. alloc1 ! (λ b₉. alloc1 ! (λ b₁₀. alloc1 ! (λ b₁₁. alloc1 ! (λ b₁₂. alloc1 ! (λ b₁₃. alloc0 ! $ params1 ! $ pass1 ! (init ! 24 refl (tt, tt)) $ pass1 ! (init ! 22 refl (((mut_slice_Lawful 𝓛 (named 1) κ₁ (row_of A₁)).typed a₁ _ p₁).0)) $ pass1 ! (init ! 20 refl (((mut_slice_Lawful 𝓛 (named 2) κ₂ (row_of A₂)).typed a₂ _ p₂).0)) $ pass1 ! (init ! 18 refl (tt, tt)) $ pass0 ! $
          move ! (29 ∷ []) $ fsplit ! $ move ! (1 ∷ []) $ fsplit ! $ move ! (1 ∷ []) $ fsplit ! $ move ! (1 ∷ []) $ fsplit ! $ move ! (1 ∷ []) $ drop ! $ move ! (3 ∷ []) $ fsplit3 ! $ drop ! $ move ! (33 ∷ []) $ split ! $ move ! (1 ∷ []) $ split ! $ move ! (1 ∷ []) $ split ! $ move ! (1 ∷ []) $ split ! $ move ! (1 ∷ []) $ drop ! $
          move ! (4 ∷ 5 ∷ 3 ∷ []) $ open_ref ! tt (mem Row) {x = h} {b = b} {o = o} $ use1 𝓛 (‵ (parts_at full_share ((state_member S₀) ∷ m₁ ∷ []) zero (to h) b o) ⊛ raw (PartsBack 𝓛 full_share ν ((state_member S₀) ∷ m₁ ∷ []) b o)) apart $ split ! $ fsplit ! $ move ! (1 ∷ []) $ fsplit ! $ move ! (1 ∷ []) $ drop ! $
          move ! (1 ∷ []) $ use1 𝓛 (some (λ (vs : List Val). ‵ (cell_at full_share (state_row S₀).mir vs b at₀) ⊛ ‵ ((state_row S₀).own_val (hd h) vs))) opened $ pick ! (λ vs. split ! $ spelt ! (state_row S₀) (Is (state_row S₀)) (shows 𝓛 (state_row S₀)) (LL.vals S₀.T S₀.L) (LL.tells S₀.T S₀.L) full_share (hd h) vs b at₀ $ move ! (1 ∷ []) $ peeks ! (state_row S₀) (Is (state_row S₀)) (shows 𝓛 (state_row S₀)) (hd h) (mach (hd h) ∷ []) (λ was.
          assigns ! (of_opd ! (load ! (from ! (hop ! (look ! 37 refl) (fld ! refl (stop !)))) (look_raw ! 1 refl))) (from ! (stop !)) (init ! 29 refl (((LL.lawful S₀.T S₀.L 𝓛).typed (hd h) _ was).0)) $
          assigns ! (addr ! (from ! (hop ! (look ! 37 refl) (fld ! refl (stop !))))) (from ! (stop !)) (init ! 25 refl (tt, tt)) $
          assigns ! (addr ! (from ! (fld ! refl (hop ! (look_in ! 35 (sub ! 0 refl (whole !))) (stop !))))) (from ! (stop !)) (init ! 23 refl (tt, tt)) $
          assigns ! (agg ! (and_then ! (load ! (from ! (stop !)) (look ! 23 refl)) (and_then ! (load ! (from ! (fld ! refl (stop !))) (look_in ! 35 (sub ! 1 refl (whole !)))) (no_more !)))) (from ! (stop !)) (init ! 21 refl (tt, (tt, (record { fits = p₁.0.1.0 }, tt)))) $
          assigns ! (addr ! (from ! (fld ! refl (hop ! (look_in ! 33 (sub ! 0 refl (whole !))) (stop !))))) (from ! (stop !)) (init ! 19 refl (tt, tt)) $
          assigns ! (agg ! (and_then ! (load ! (from ! (stop !)) (look ! 19 refl)) (and_then ! (load ! (from ! (fld ! refl (stop !))) (look_in ! 33 (sub ! 1 refl (whole !)))) (no_more !)))) (from ! (stop !)) (init ! 17 refl (tt, (tt, (record { fits = p₂.0.1.0 }, tt)))) $
          assigns ! (addr ! (from ! (hop ! (look ! 31 refl) (stop !)))) (from ! (stop !)) (init ! 15 refl (tt, tt)) $
          lft_new ! tt (λ ν₁. move ! (3 ∷ []) $ use1 𝓛 (later (some (λ (δ : GName). ‵ ((MutRef (named 0) (ν₁ ∷ []) (member_row m₁)).own_val (record { ref_ptr = (b, at₁); ghost_name = δ; now = (to h).1.0 }) (vptr b at₁ ∷ [])) ⊛ ‵ (flent (ν₁ ∷ []) (Body (mem (member_row m₁)) b at₁ δ))))) (lends_ref 𝓛 (member_row m₁) (named 0) (ν₁ ∷ []) (to h).1.0 b at₁) $ await ! tt $ pick ! (λ δ₁. split ! $
          move ! (13 ∷ 12 ∷ []) $ join ! $ move ! (13 ∷ 0 ∷ []) $ join ! $ move ! (1 ∷ 0 ∷ []) $ join ! $ move ! (9 ∷ 0 ∷ []) $ join ! $ move ! (9 ∷ 0 ∷ []) $ join ! $ move ! (9 ∷ 0 ∷ []) $ join ! $ move ! (2 ∷ 0 ∷ []) $ join ! $ use1 𝓛 (raw ((Callee 𝓛).pre (to_callee ν₁ δ₁))) (asked was ν₁ δ₁) $ calls_at ! fm (Callee 𝓛) known (to_callee ν₁ δ₁) (and_then ! (load ! (from ! (stop !)) (look ! 24 refl)) (and_then ! (load ! (from ! (stop !)) (look ! 20 refl)) (and_then ! (load ! (from ! (stop !)) (look ! 16 refl)) (and_then ! (load ! (from ! (stop !)) (look ! 12 refl)) (and_then ! (load ! (from ! (stop !)) (look ! 10 refl)) (no_more !)))))) (λ u.
          use1 𝓛 (later (some (λ (r : O.row.Denot). ((‵ (flft (ν₁ ∷ []) full_share) ⊛ ‵ (flft κ₁ q₁) ⊛ ‵ (flft κ₂ q₂) ⊛ ‵ (flft κ₃ q₃) ⊛ ‵ ftrue) ⊛ ‵ (O.row.own_val r (u ∷ []))) ⊛ raw ((callee_spec 𝓛 (ν₁ ∷ [], (κ₁, (κ₂, (κ₃, tt)))) ((hd h), (record { ref_ptr = (b, at₁); ghost_name = δ₁; now = (to h).1.0 }, (a₁, (a₂, (a₃, tt)))))).ensures tt r)))) (id⊢ 𝓤 _) $ await ! tt $ pick ! (λ r. split ! $ move ! (1 ∷ []) $ use1 𝓛 (some (λ (ws : Fins (ν₁ ∷ [], (κ₁, (κ₂, (κ₃, tt)))) callee.params (yes, (yes, (yes, (yes, (yes, tt))))) ((hd h), (record { ref_ptr = (b, at₁); ghost_name = δ₁; now = (to h).1.0 }, (a₁, (a₂, (a₃, tt)))))). ‵ (lasts_of (ν₁ ∷ [], (κ₁, (κ₂, (κ₃, tt)))) callee.params (yes, (yes, (yes, (yes, (yes, tt))))) ((hd h), (record { ref_ptr = (b, at₁); ghost_name = δ₁; now = (to h).1.0 }, (a₁, (a₂, (a₃, tt))))) ws) ⊛ raw (fact 𝓤 ((r ≡ spec (hd h) (to h).1.0 a₁.now a₂.now a₃.now) × (ws.1.0 ≡ set₁ (hd h) (to h).1.0 a₁.now a₂.now a₃.now) × (ws.1.1.0 ≡ fill₁ (hd h) (to h).1.0 a₁.now a₂.now a₃.now) × (ws.1.1.1.0 ≡ fill₂ (hd h) (to h).1.0 a₁.now a₂.now a₃.now) × (ws.1.1.1.1.0 ≡ fill₃ (hd h) (to h).1.0 a₁.now a₂.now a₃.now))))) (id⊢ 𝓤 _) $ pick ! (λ ws. split ! $ move ! (1 ∷ []) $ heard ! ((r ≡ spec (hd h) (to h).1.0 a₁.now a₂.now a₃.now) × (ws.1.0 ≡ set₁ (hd h) (to h).1.0 a₁.now a₂.now a₃.now) × (ws.1.1.0 ≡ fill₁ (hd h) (to h).1.0 a₁.now a₂.now a₃.now) × (ws.1.1.1.0 ≡ fill₂ (hd h) (to h).1.0 a₁.now a₂.now a₃.now) × (ws.1.1.1.1.0 ≡ fill₃ (hd h) (to h).1.0 a₁.now a₂.now a₃.now)) (λ e. fsplit ! $ drop ! $ fsplit ! $ fsplit ! $ move ! (1 ∷ []) $ drop ! $ move ! (1 ∷ []) $ fsplit ! $ fsplit ! $ fsplit ! $ move ! (1 ∷ []) $ feq_l ! (λ l₁. fjoin ! $ move ! (1 ∷ []) $ fsplit ! $ fsplit ! $ fsplit ! $ move ! (1 ∷ []) $ feq_l ! (λ l₂. fjoin ! $ move ! (1 ∷ []) $ fsplit ! $ move ! (1 ∷ []) $ drop ! $ move ! (4 ∷ []) $ split ! $ split ! $ move ! (1 ∷ []) $ split ! $ move ! (1 ∷ []) $ split ! $ move ! (1 ∷ []) $ split ! $ move ! (1 ∷ []) $ drop ! $ move ! (4 ∷ []) $ peeks ! O.row (Is O.row) (shows 𝓛 O.row) r (u ∷ []) (λ is.
          land ! (from ! (stop !)) (init ! 30 refl (typed_out r u is)) $ rewrite ! 30 (λ (u' : Val). ‵ (fat full_share τO b₆ 0 u')) (ap only (O.tells r _ is)) refl $
          assigns ! (of_opd ! (load ! (from ! (fld ! refl (stop !))) (look_in ! 30 (sub ! 1 refl (whole !))))) (from ! (stop !)) (init ! 16 refl (((LL.lawful S₀.T S₀.L 𝓛).typed (O.st r) _ (O.st_is r _ is)).0)) $
          assigns ! (of_opd ! (load ! (from ! (stop !)) (look ! 16 refl))) (from ! (hop ! (look ! 40 refl) (fld ! refl (stop !)))) (store_raw ! 11 refl (((LL.lawful S₀.T S₀.L 𝓛).typed (O.st r) _ (O.st_is r _ is)).0)) $
          assigns ! (of_opd ! (load ! (from ! (fld ! refl (stop !))) (look_in ! 30 (sub ! 0 refl (whole !))))) (from ! (stop !)) (init ! 42 refl (Ans.typed (O.ans r) (O.ans_is r _ is))) $
          drop ! $ move ! (9 ∷ []) $ drop ! $ owned ! (state_row S₀) (Is (state_row S₀)) (LL.makes S₀.T S₀.plain 𝓛) (O.st r) _ (O.st_is r _ is) $ move ! (10 ∷ 0 ∷ []) $ use2 𝓛 (‵ (part_at (member_row (state_member S₀)) full_share (S₀.T.to (O.st r)) b at₀)) (shut (O.st r) (mach (O.st r) ∷ [])) $
          move ! (4 ∷ []) $ lft_end ! tt $ move ! (0 ∷ 9 ∷ 8 ∷ []) $ use3 𝓛 (later (‵ (part_at (member_row m₁) full_share (ws.1.0) b at₁))) (ref_back 𝓛 (member_row m₁) (ν₁ ∷ []) δ₁ (ws.1.0) b at₁) $ await ! tt $
          nothing ! $ move ! (1 ∷ 0 ∷ []) $ fjoin ! $ move ! (1 ∷ 0 ∷ []) $ fjoin ! $ move ! (0 ∷ 7 ∷ []) $ use2 𝓛 (‵ (part_at Row full_share (next h a₁.now a₂.now a₃.now) b o)) (together (S₀.T.to (O.st r), (ws.1.0, tt)) ((λ i. (S₀.T.to (O.st (e.0 i)), (e.1 i, tt))) ∙ next_is h a₁.now a₂.now a₃.now)) $
          move ! (0 ∷ 7 ∷ 8 ∷ 9 ∷ []) $ close_ref ! tt (mem Row) (next h a₁.now a₂.now a₃.now) {b = b} {o = o} $ returns ! (look ! 35 refl) $ forget ! 35 refl $ forget ! 33 refl $ forget ! 31 refl $ forget ! 29 refl $ forget ! 27 refl $ forget ! 25 refl $ forget ! 23 refl $ forget ! 21 refl $ forget ! 19 refl $ forget ! 17 refl $ forget ! 15 refl $ forget ! 13 refl $ forget ! 11 refl $ forget ! 9 refl $
          move ! (35 ∷ 36 ∷ []) $ free1 ! $ move ! (33 ∷ 34 ∷ []) $ free1 ! $ move ! (31 ∷ 32 ∷ []) $ free1 ! $ move ! (29 ∷ 30 ∷ []) $ free1 ! $ move ! (27 ∷ 28 ∷ []) $ free1 ! $ move ! (25 ∷ 26 ∷ []) $ free1 ! $ move ! (23 ∷ 24 ∷ []) $ free1 ! $ move ! (21 ∷ 22 ∷ []) $ free1 ! $ move ! (19 ∷ 20 ∷ []) $ free1 ! $ move ! (17 ∷ 18 ∷ []) $ free1 ! $ move ! (15 ∷ 16 ∷ []) $ free1 ! $ move ! (13 ∷ 14 ∷ []) $ free1 ! $ move ! (11 ∷ 12 ∷ []) $ free1 ! $ move ! (9 ∷ 10 ∷ []) $ free1 ! $ free0 ! $ keep ! (0 ∷ 1 ∷ 2 ∷ 5 ∷ 4 ∷ 3 ∷ 8 ∷ 7 ∷ 6 ∷ []) $ by ! (ends r (ws.1.1.0) l₁ (ws.1.1.1.0) l₂ (ws.1.1.1.1.0) (O.ans_is r _ is) (ap O.ans (e.0) ∙ ans_is h a₁.now a₂.now a₃.now, e.2 ∙ last_is₁ h a₁.now a₂.now a₃.now, e.3 ∙ last_is₂ h a₁.now a₂.now a₃.now, e.4 ∙ last_is₃ h a₁.now a₂.now a₃.now)))))))))))))))))))))))))))

  walks : {M : Type 1} {𝓤 : Ura M} (𝓛 : Logic 𝓤) (C : Calls 𝓤 𝓛.H) (Λ : Loops 𝓤 𝓛.H) → FmC 𝓤 𝓛.H 𝓛.laws C → Triple 𝓤 (C key) (Callee 𝓛) → Walks 𝓛 ended stayed (WpFn 𝓤 𝓛.H C Λ function) (clauses 𝓛)
  walks {𝓤 = 𝓤} 𝓛 C Λ fm known = walked 𝓛 ended stayed (clauses 𝓛) (WpFn 𝓤 𝓛.H C Λ function) (λ κs. (mut_vals, (mut_slice_vals, (mut_slice_vals, (mut_vals, tt))))) (λ κs. (mut_Tells (named 0) κs.0 Row, (mut_slice_Tells (named 1) κs.1.0 (row_of A₁), (mut_slice_Tells (named 2) κs.1.1.0 (row_of A₂), (mut_Tells (named 3) κs.1.1.1.0 (row_of A₃), tt)))))
      (λ κs qs bounds a g are. via 𝓤 _ (fst∗ 𝓤 _ (emp 𝓤)) (walk 𝓛 κs.0 qs.0 κs.1.0 qs.1.0 κs.1.1.0 qs.1.1.0 κs.1.1.1.0 qs.1.1.1.0 a.0.ref_ptr.0 a.0.ref_ptr.1 a.0.ghost_name a.0.now a.1.0 a.1.1.0 a.1.1.1.0 are.1.0 are.1.1.0 are.1.1.1.0 C Λ fm known))

  meets : {M : Type 1} {𝓤 : Ura M} (𝓛 : Logic 𝓤) (𝓣 : Tables 𝓤 𝓛.H) → Triple 𝓤 (𝓣.C key) (Callee 𝓛) → Meets 𝓛 signature (WpFn 𝓤 𝓛.H 𝓣.C 𝓣.Λ function) (closing 𝓛 ended (clauses 𝓛))
  meets {𝓤 = 𝓤} 𝓛 𝓣 known = walk_Meets 𝓛 ended stayed (Goes-ref 𝓛 4 0 tt (plain (λ _. Row)), (Goes-gave_slice 𝓛 4 1 tt (plain (λ _. row_of A₁)), (Goes-gave_slice 𝓛 4 2 tt (plain (λ _. row_of A₂)), (Goes-gave_ref 𝓛 4 3 tt (plain (λ _. row_of A₃)), tt)))) (clauses 𝓛) (WpFn 𝓤 𝓛.H 𝓣.C 𝓣.Λ function) (WpFn-mono 𝓤 𝓛.H 𝓛.laws 𝓣 function)
      (walks 𝓛 𝓣.C 𝓣.Λ (fm_of 𝓤 𝓛.H 𝓛.laws 𝓣) known)

  -- over the tables of the function's environment, from the callee's own theorem
  pub proved : {M : Type 1} {𝓤 : Ura M} (𝓛 : Logic 𝓤) (𝓜 : Model 𝓤 𝓛.H) (𝓡 : Running 𝓤 𝓛.H 𝓜) (env : Env) (self : Name) → Closed 𝓤 𝓛.H (tables 𝓤 𝓛.H 𝓜 𝓡 env).C (tables 𝓤 𝓛.H 𝓜 𝓡 env).Λ self function
      → (routine : Routine) → env key ≡ routine → Triple 𝓤 (𝓡.run routine) (Callee 𝓛) → Meets 𝓛 signature ((tables 𝓤 𝓛.H 𝓜 𝓡 env).C self) (closing 𝓛 ended (clauses 𝓛))
  unfolding tables_of
  proved {𝓤 = 𝓤} 𝓛 𝓜 𝓡 env self closed routine calls met =
      entered 𝓤 𝓛.H (triple_of 𝓛 signature (closing 𝓛 ended (clauses 𝓛))) (tables 𝓤 𝓛.H 𝓜 𝓡 env).C (tables 𝓤 𝓛.H 𝓜 𝓡 env).Λ self function closed
      (meets 𝓛 (tables_of 𝓤 𝓛.H 𝓜 (tables 𝓤 𝓛.H 𝓜 𝓡 env)) (cited 𝓤 𝓛.H (Callee 𝓛) 𝓜 𝓡 env key routine calls met))
