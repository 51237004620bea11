-- `fn f(t: &mut S, a1: &[A1]) -> Ans`, of the form Mut of tools/walk.py, which wrote this file: it meets the contract that says the callee's of what lies behind the reference.
-- For all types: `Behind.antt` has what is asked of them. Assumes nothing.
use Rattle.std.specs.Prelude.{◌≡◌, refl, ℕ, [], ◌∷◌, List, T as Holds, length}
use Rattle.std.proofs.Common.{sym, ap, subst}
use seplogic.Ra.Ura.{Ura}
use base.Fraction.{full_share}
use mir.Syntax.{Callee as Name, Ty, Fn, named, imm, mut, ty_ref, ty_struct, tnil, tcons, local, value_local, place, deref, field, copy, rv_opd, seq, assign, call, return}
use mir.Val.{Val, vptr, WT, has_ty}
use base.Logic.{SProp, ent, emp, via, fst∗, id⊢}
use base.Fml.{GName, Lft, Share, ftrue, flft, fobs, fbor, fat}
use prog.Model.{Model}
use prog.Routine.{Routine, Env}
use prog.Wp.{Calls, Loops, Closed, WpFn, Tables}
use types.Logic.{Logic}
use contract.Lifetimes.{Lfts}
use contract.Monad.{fact}
use contract.Running.{Running, tables, tables_of}
use types.Kit.{‵, raw, ◌⊛◌, ⋆, some, later, ◌$◌, ◌∵◌, !, qed, by, move, keep, drop, use1, split, join, pick, rewrite, fsplit, fsplit3, fjoin, fjoin3, feq_i, suffices, frame, await, done}
use types.Run.{look, look_raw, init, store_raw, forget, stop, hop, fld, from, load, of_opd, and_then, no_more, assigns, land, returns, enter, alloc1, alloc0, params1, pass1, pass0, free1, free0}
use types.Part.{whole, sub, look_in}
use types.SemTy.{Body}
use sound.WpLaws.{FmC, fm_of, WpFn-mono}
use denote.RattleType.{owns}
use denote.Shadow.{makes_shadow}
use denote.Laws.{Is, Makes, shows}
use denote.Memory.{mem, pointee}
use denote.Builtin.{RefMutOf, SliceRefOf}
use denote.Ref.{Bor, MutBor, MutRef, mut_vals, mut_Tells}
use denote.Slice.{ShrSlice, slice_ty, slice_val, shr_slice_vals, shr_slice_Tells, shr_slice_Lawful, shr_slice_copy}
use denote.Signature.{Signature, plain}
use denote.Exit.{yes}
use denote.Steps.{only, opens, closes, owned, peeks, heard, nothing}
use denote.Struct.Steps.{spelt}
use denote.Struct.Struct.{layout, as_fields}
use denote.Struct.Declared.{shape}
use denote.Triple.Statement.{Contract, Triple}
use denote.Triple.Call.{calls_at}
use denote.Triple.Clauses.{Ended, AtExit, Clauses, closing}
use denote.Triple.End.{Fins, lasts_of}
use denote.Triple.Entry.{Args, Res, on_entry}
use denote.Triple.Spec.{Spec, Meets, triple_of, exits}
use denote.Triple.Table.{entered, cited}
use denote.Triple.Walked.{says, Stays, stay_ref, stay_none_slice, walk_of, Goes-ref, Goes-none_slice, Walks, ends_at, walked, walk_Meets}
use denote.Struct.Laws as LL
use Rattle.common.specs.Promise.{Promise, by_value}
use Rattle.walks.specs.Behind.{Arg, row_of, row_laws, State, state_row, Out}

module _ (S : State) (A₁ : Arg) (Ans : Arg) (O : Out S Ans) (key : Name) (spec : S.T.D → List A₁.X → O.row.Denot) where
  abbrev τS : Ty
  τS = layout (shape S.T)

  abbrev τO : Ty
  τO = ty_struct O.name (tcons Ans.ty (tcons τS tnil))

  abbrev pub function : Fn
  function = record {
    lifetimes = 2;
    outlives = [];
    ty_params = [];
    givens = 0;
    params = 2;
    locals = local Ans.ty value_local ∷ local (ty_ref (named 0) mut (pointee (state_row S).written)) value_local ∷ local (slice_ty (ty_ref (named 1) imm A₁.ty)) value_local ∷ local τS value_local ∷ local τO value_local ∷ local τS value_local ∷ [];
    body = seq (assign (place 3 []) (rv_opd (copy (place 1 (deref τS ∷ []))))) (seq (call key (copy (place 3 []) ∷ copy (place 2 []) ∷ []) (place 4 [])) (seq (assign (place 5 []) (rv_opd (copy (place 4 (field 1 ∷ []))))) (seq (assign (place 1 (deref τS ∷ [])) (rv_opd (copy (place 5 [])))) (seq (assign (place 0 []) (rv_opd (copy (place 4 (field 0 ∷ []))))) return))));
  }

  abbrev pub callee : Signature
  callee = record { lifetimes = 1; outlives = []; params = plain (λ _. state_row S) ∷ SliceRefOf (0 ∷ []) tt (plain (λ _. row_of A₁)) (λ _. tt) ∷ []; result = plain (λ _. O.row) }

  abbrev pub signature : Signature
  signature = record { lifetimes = 2; outlives = []; params = RefMutOf (0 ∷ []) tt (plain (λ _. state_row S)) (λ _. tt) ∷ SliceRefOf (1 ∷ []) tt (plain (λ _. row_of A₁)) (λ _. tt) ∷ []; result = plain (λ _. row_of Ans) }

  abbrev pub ended : Ended
  ended = record { signature = signature; kept = (yes, (yes, tt)) }

  abbrev stayed : Stays signature.params ended.kept
  stayed = (stay_ref (0 ∷ []) tt (plain (λ _. state_row S)), (stay_none_slice (1 ∷ []) tt (plain (λ _. row_of A₁)) yes, tt))

  -- what the contract says, and that no two outcomes satisfy it
  abbrev pub Post : (κs : Lfts 2) → Args signature κs → Res signature κs → AtExit ended κs → Type 0
  Post κs a r e = (r ≡ O.ans (spec a.0.now a.1.0.now)) × (e.0.now ≡ O.st (spec a.0.now a.1.0.now))

  abbrev pub seen : (κs : Lfts 2) → Res signature κs → AtExit ended κs → Ans.X × S.T.D
  seen κs r e = (r, e.0.now)

  pub promise : Promise (λ (κs : Lfts 2) (a : Args signature κs). Unit {0}) Post seen
  promise = by_value _ (λ κs a. tt) (λ κs a r e p. λ i. (p.0 i, p.1 i))

  module _ {M : Type 1} {𝓤 : Ura M} (𝓛 : Logic 𝓤) where
    abbrev pub callee_spec : Spec 𝓤 callee
    callee_spec κs a = record { ghost = Unit {0}; requires = λ _. emp 𝓤; ensures = λ _ r. exits 𝓛 callee (yes, (yes, tt)) κs a (λ e. fact 𝓤 (r ≡ spec a.0 a.1.0.now)) }

    abbrev pub Callee : Contract 𝓤
    Callee = triple_of 𝓛 callee callee_spec

    abbrev pub clauses : Clauses 𝓤 ended
    clauses κs a = record { ghost = Unit {0}; requires = λ _. emp 𝓤; ensures = λ _ r e. fact 𝓤 (Post κs a r e) }

  made : {M : Type 1} {𝓤 : Ura M} (𝓛 : Logic 𝓤) (B : Arg) → Makes 𝓛 (row_of B) (Is (row_of B))
  made 𝓛 B x vs p = makes_shadow 𝓛 (B.own x vs) (B.pure x vs) p

  module _ {M : Type 1} {𝓤 : Ura M} (𝓛 : Logic 𝓤) (κ : Lft) (q : Share) (κ₁ : Lft) (q₁ : Share) (b o : ℕ) (γ : GName) (h : S.T.D) (a₁ : Bor (List A₁.X)) (p₁ : Is (ShrSlice (named 1) κ₁ (row_of A₁)) a₁ (slice_val a₁.ref_ptr (length a₁.now) ∷ [])) where
    open 𝓛 use {H}

    abbrev Xs : Type 0
    Xs = MutBor S.T.D × (Bor (List A₁.X) × Unit {0})

    abbrev Vs : Type 0
    Vs = List Val × (List Val × Unit {0})

    abbrev x : Xs
    x = (record { ref_ptr = (b, o); ghost_name = γ; now = h }, (a₁, tt))

    abbrev at : Vs
    at = (vptr b o ∷ [], (slice_val a₁.ref_ptr (length a₁.now) ∷ [], tt))

    abbrev mach : S.T.D → Val
    mach d = LL.val S.T S.L d

    abbrev After : Val → SProp 𝓤
    After = (walk_of 𝓛 ended stayed (clauses 𝓛)).post (((κ, (κ₁, tt)), (q, (q₁, tt)), tt, x, at), tt)

    abbrev to : (Callee 𝓛).Ghost
    to = (((κ₁, tt), (q₁, tt), tt, (h, (a₁, tt)), (mach h ∷ [], (slice_val a₁.ref_ptr (length a₁.now) ∷ [], tt))), tt)

    abbrev Said : O.row.Denot → SProp 𝓤
    Said r = (callee_spec 𝓛 (κ₁, tt) (h, (a₁, tt))).ensures tt r

    asked : Is (state_row S) h (mach h ∷ []) → ent 𝓤 (⋆ 𝓛 (‵ (flft κ₁ q₁) ∷ ‵ ((ShrSlice (named 1) κ₁ (row_of A₁)).own_val a₁ (slice_val a₁.ref_ptr (length a₁.now) ∷ [])) ∷ [])) ((Callee 𝓛).pre to)
    asked was = qed 𝓛 (‵ (flft κ₁ q₁) ∷ ‵ ((ShrSlice (named 1) κ₁ (row_of A₁)).own_val a₁ (slice_val a₁.ref_ptr (length a₁.now) ∷ [])) ∷ []) ∵ nothing ! $ move ! (2 ∷ 0 ∷ []) $ fjoin ! $ owned ! (state_row S) (Is (state_row S)) (LL.makes S.T S.plain 𝓛) h _ was $ fjoin ! $ nothing ! $ move ! (2 ∷ 0 ∷ []) $ join ! $ join ! $ frame ! $ nothing ! $ done !

    ends : (r : O.row.Denot) (is : Is (row_of Ans) (O.ans r) (Ans.val (O.ans r) ∷ [])) → r ≡ spec h a₁.now → ent 𝓤 (⋆ 𝓛 (‵ (fobs γ ((state_row S).coded.code (O.st r))) ∷ ‵ (fbor κ (Body (mem (state_row S)) b o γ)) ∷ ‵ (flft κ q) ∷ ‵ (flft κ₁ q₁) ∷ ‵ ((ShrSlice (named 1) κ₁ (row_of A₁)).own_val a₁ (slice_val a₁.ref_ptr (length a₁.now) ∷ [])) ∷ [])) (After (Ans.val (O.ans r)))
    ends r is e =
        qed 𝓛 (‵ (fobs γ ((state_row S).coded.code (O.st r))) ∷ ‵ (fbor κ (Body (mem (state_row S)) b o γ)) ∷ ‵ (flft κ q) ∷ ‵ (flft κ₁ q₁) ∷ ‵ ((ShrSlice (named 1) κ₁ (row_of A₁)).own_val a₁ (slice_val a₁.ref_ptr (length a₁.now) ∷ [])) ∷ []) ∵
        suffices ! _ (ends_at 𝓛 ended stayed (clauses 𝓛) (((κ, (κ₁, tt)), (q, (q₁, tt)), tt, x, at), tt) (Ans.val (O.ans r)) (O.ans r) ((O.st r), (tt, tt)) (tt, (tt, tt))) $ says ! (ap O.ans e, ap O.st e) $
        nothing ! $ move ! (4 ∷ 0 ∷ []) $ join ! $ move ! (3 ∷ 0 ∷ []) $ join ! $ frame ! $ feq_i ! (List Val) (vptr b o ∷ []) (vptr b o ∷ []) refl $ fjoin3 ! $ nothing ! $ move ! (2 ∷ 0 ∷ []) $ fjoin ! $ move ! (1 ∷ 0 ∷ []) $ fjoin ! $ owned ! (row_of Ans) (Is (row_of Ans)) (made 𝓛 Ans) (O.ans r) _ is $ move ! (1 ∷ 0 ∷ []) $ done !

    typed_out : (r : O.row.Denot) (v : Val) → Is O.row r (v ∷ []) → Holds (has_ty τO v) × WT v
    typed_out r v is = subst (λ (u : Val). Holds (has_ty τO u) × WT u) (sym (ap only (O.tells r _ is)))
        (as_fields (Ans.ty ∷ τS ∷ []) (Ans.val (O.ans r) ∷ mach (O.st r) ∷ []) (Ans.typed (O.ans r) (O.ans_is r _ is), (((LL.lawful S.T S.L 𝓛).typed (O.st r) _ (O.st_is r _ is)).0, tt)))

    module _ (C : Calls 𝓤 H) (Λ : Loops 𝓤 H) (fm : FmC 𝓤 H 𝓛.laws C) (known : Triple 𝓤 (C key) (Callee 𝓛)) where
      walk : ent 𝓤 (on_entry 𝓛 signature (κ, (κ₁, tt)) (q, (q₁, tt)) x at) (WpFn 𝓤 H C Λ function (vptr b o ∷ slice_val a₁.ref_ptr (length a₁.now) ∷ []) After)
      walk =
          qed 𝓛 ((‵ (flft κ q) ⊛ ‵ (flft κ₁ q₁) ⊛ ‵ ftrue) ∷ ‵ (owns (MutRef (named 0) κ (state_row S) ∷ ShrSlice (named 1) κ₁ (row_of A₁) ∷ []) x at) ∷ []) ∵ enter ! C Λ function (vptr b o ∷ slice_val a₁.ref_ptr (length a₁.now) ∷ []) _ $
          alloc1 ! (λ b₀. alloc1 ! (λ b₁. alloc1 ! (λ b₂. alloc1 ! (λ b₃. alloc1 ! (λ b₄. alloc1 ! (λ b₅. alloc0 ! $ params1 ! $ pass1 ! (init ! 8 refl (tt, tt)) $ pass1 ! (init ! 6 refl (((shr_slice_Lawful 𝓛 (named 1) κ₁ (row_of A₁)).typed a₁ _ p₁).0)) $ pass0 ! $
          move ! (13 ∷ []) $ fsplit ! $ move ! (1 ∷ []) $ fsplit ! $ move ! (1 ∷ []) $ drop ! $ move ! (1 ∷ []) $ fsplit3 ! $ drop ! $ move ! (15 ∷ []) $ split ! $ move ! (1 ∷ []) $ split ! $ move ! (1 ∷ []) $ drop ! $
          move ! (2 ∷ 3 ∷ 1 ∷ []) $ opens ! tt (state_row S) {h = h} b o (λ vs. spelt ! (state_row S) (Is (state_row S)) (shows 𝓛 (state_row S)) (LL.vals S.T S.L) (LL.tells S.T S.L) full_share h vs b o $ move ! (1 ∷ []) $ peeks ! (state_row S) (Is (state_row S)) (shows 𝓛 (state_row S)) h (mach h ∷ []) (λ was.
          assigns ! (of_opd ! (load ! (from ! (hop ! (look ! 15 refl) (stop !))) (look_raw ! 1 refl))) (from ! (stop !)) (init ! 11 refl (((LL.lawful S.T S.L 𝓛).typed h _ was).0)) $
          move ! (6 ∷ []) $ use1 𝓛 (‵ ((ShrSlice (named 1) κ₁ (row_of A₁)).own_val a₁ (slice_val a₁.ref_ptr (length a₁.now) ∷ [])) ⊛ ‵ ((ShrSlice (named 1) κ₁ (row_of A₁)).own_val a₁ (slice_val a₁.ref_ptr (length a₁.now) ∷ []))) ((shr_slice_copy 𝓛 (named 1) κ₁ (row_of A₁) (row_laws A₁)).twice a₁ (slice_val a₁.ref_ptr (length a₁.now) ∷ [])) $ split ! $ move ! (7 ∷ 0 ∷ []) $ join ! $ use1 𝓛 (raw ((Callee 𝓛).pre to)) (asked was) $ calls_at ! fm (Callee 𝓛) known to (and_then ! (load ! (from ! (stop !)) (look ! 11 refl)) (and_then ! (load ! (from ! (stop !)) (look ! 13 refl)) (no_more !))) (λ v.
          use1 𝓛 (later (some (λ (r : O.row.Denot). ((‵ (flft κ₁ q₁) ⊛ ‵ ftrue) ⊛ ‵ (O.row.own_val r (v ∷ []))) ⊛ raw (Said r)))) (id⊢ 𝓤 _) $ await ! tt $ pick ! (λ r. split ! $ move ! (1 ∷ []) $ use1 𝓛 (some (λ (ws : Fins (κ₁, tt) callee.params (yes, (yes, tt)) (h, (a₁, tt))). ‵ (lasts_of (κ₁, tt) callee.params (yes, (yes, tt)) (h, (a₁, tt)) ws) ⊛ raw (fact 𝓤 (r ≡ spec h a₁.now)))) (id⊢ 𝓤 _) $ pick ! (λ ws. split ! $ move ! (1 ∷ []) $ heard ! (r ≡ spec h a₁.now) (λ e. drop ! $ split ! $ split ! $ move ! (1 ∷ []) $ drop ! $ move ! (1 ∷ []) $ peeks ! O.row (Is O.row) (shows 𝓛 O.row) r (v ∷ []) (λ is.
          land ! (from ! (stop !)) (init ! 10 refl (typed_out r v is)) $ rewrite ! 10 (λ (u : Val). ‵ (fat full_share τO b₄ 0 u)) (ap only (O.tells r _ is)) refl $
          assigns ! (of_opd ! (load ! (from ! (fld ! refl (stop !))) (look_in ! 10 (sub ! 1 refl (whole !))))) (from ! (stop !)) (init ! 8 refl (((LL.lawful S.T S.L 𝓛).typed (O.st r) _ (O.st_is r _ is)).0)) $
          assigns ! (of_opd ! (load ! (from ! (stop !)) (look ! 8 refl))) (from ! (hop ! (look ! 16 refl) (stop !))) (store_raw ! 4 refl (((LL.lawful S.T S.L 𝓛).typed (O.st r) _ (O.st_is r _ is)).0)) $
          assigns ! (of_opd ! (load ! (from ! (fld ! refl (stop !))) (look_in ! 10 (sub ! 0 refl (whole !))))) (from ! (stop !)) (init ! 18 refl (Ans.typed (O.ans r) (O.ans_is r _ is))) $
          drop ! $ move ! (2 ∷ []) $ drop ! $ owned ! (state_row S) (Is (state_row S)) (LL.makes S.T S.plain 𝓛) (O.st r) _ (O.st_is r _ is) $ move ! (3 ∷ 0 ∷ 4 ∷ 5 ∷ 6 ∷ []) $ closes ! tt (state_row S) (O.st r) (mach (O.st r) ∷ []) b o $
          returns ! (look ! 15 refl) $ forget ! 15 refl $ forget ! 13 refl $ forget ! 11 refl $ forget ! 9 refl $ forget ! 7 refl $ forget ! 5 refl $
          move ! (15 ∷ 16 ∷ []) $ free1 ! $ move ! (13 ∷ 14 ∷ []) $ free1 ! $ move ! (11 ∷ 12 ∷ []) $ free1 ! $ move ! (9 ∷ 10 ∷ []) $ free1 ! $ move ! (7 ∷ 8 ∷ []) $ free1 ! $ move ! (5 ∷ 6 ∷ []) $ free1 ! $ free0 ! $ keep ! (0 ∷ 1 ∷ 2 ∷ 3 ∷ 4 ∷ []) $ by ! (ends r (O.ans_is r _ is) e))))))))))))))

  walks : {M : Type 1} {𝓤 : Ura M} (𝓛 : Logic 𝓤) (C : Calls 𝓤 𝓛.H) (Λ : Loops 𝓤 𝓛.H) → FmC 𝓤 𝓛.H 𝓛.laws C → Triple 𝓤 (C key) (Callee 𝓛) → Walks 𝓛 ended stayed (WpFn 𝓤 𝓛.H C Λ function) (clauses 𝓛)
  walks {𝓤 = 𝓤} 𝓛 C Λ fm known = walked 𝓛 ended stayed (clauses 𝓛) (WpFn 𝓤 𝓛.H C Λ function) (λ κs. (mut_vals, (shr_slice_vals, tt))) (λ κs. (mut_Tells (named 0) κs.0 (state_row S), (shr_slice_Tells (named 1) κs.1.0 (row_of A₁), tt)))
      (λ κs qs bounds a g are. via 𝓤 _ (fst∗ 𝓤 _ (emp 𝓤)) (walk 𝓛 κs.0 qs.0 κs.1.0 qs.1.0 a.0.ref_ptr.0 a.0.ref_ptr.1 a.0.ghost_name a.0.now a.1.0 are.1.0 C Λ fm known))

  meets : {M : Type 1} {𝓤 : Ura M} (𝓛 : Logic 𝓤) (𝓣 : Tables 𝓤 𝓛.H) → Triple 𝓤 (𝓣.C key) (Callee 𝓛) → Meets 𝓛 signature (WpFn 𝓤 𝓛.H 𝓣.C 𝓣.Λ function) (closing 𝓛 ended (clauses 𝓛))
  meets {𝓤 = 𝓤} 𝓛 𝓣 known = walk_Meets 𝓛 ended stayed (Goes-ref 𝓛 2 0 tt (plain (λ _. state_row S)), (Goes-none_slice 𝓛 2 (1 ∷ []) tt (plain (λ _. row_of A₁)) yes, tt)) (clauses 𝓛) (WpFn 𝓤 𝓛.H 𝓣.C 𝓣.Λ function) (WpFn-mono 𝓤 𝓛.H 𝓛.laws 𝓣 function)
      (walks 𝓛 𝓣.C 𝓣.Λ (fm_of 𝓤 𝓛.H 𝓛.laws 𝓣) known)

  -- over the tables of the function's environment, from the callee's own theorem
  pub proved : {M : Type 1} {𝓤 : Ura M} (𝓛 : Logic 𝓤) (𝓜 : Model 𝓤 𝓛.H) (𝓡 : Running 𝓤 𝓛.H 𝓜) (env : Env) (self : Name) → Closed 𝓤 𝓛.H (tables 𝓤 𝓛.H 𝓜 𝓡 env).C (tables 𝓤 𝓛.H 𝓜 𝓡 env).Λ self function
      → (routine : Routine) → env key ≡ routine → Triple 𝓤 (𝓡.run routine) (Callee 𝓛) → Meets 𝓛 signature ((tables 𝓤 𝓛.H 𝓜 𝓡 env).C self) (closing 𝓛 ended (clauses 𝓛))
  unfolding tables_of
  proved {𝓤 = 𝓤} 𝓛 𝓜 𝓡 env self closed routine calls met =
      entered 𝓤 𝓛.H (triple_of 𝓛 signature (closing 𝓛 ended (clauses 𝓛))) (tables 𝓤 𝓛.H 𝓜 𝓡 env).C (tables 𝓤 𝓛.H 𝓜 𝓡 env).Λ self function closed
      (meets 𝓛 (tables_of 𝓤 𝓛.H 𝓜 (tables 𝓤 𝓛.H 𝓜 𝓡 env)) (cited 𝓤 𝓛.H (Callee 𝓛) 𝓜 𝓡 env key routine calls met))
