-- `fn f(t: & S, a1: &mut A1) -> Ans`, of the form Ref of tools/walk.py, which wrote this file: it meets the contract that says the callee's of what lies behind the reference.
-- For all types: `Behind.antt` has what is asked of them. Assumes nothing.
use Rattle.std.specs.Prelude.{◌≡◌, refl, ℕ, [], ◌∷◌, List, T as Holds}
use Rattle.std.proofs.Common.{sym, ap, subst}
use seplogic.Ra.Ura.{Ura}
use base.Fraction.{full_share}
use mir.Syntax.{Callee as Name, Ty, Fn, named, erased, imm, mut, ty_ref, local, value_local, place, deref, copy, rv_opd, addr_of, seq, assign, call, return}
use mir.Val.{Val, vptr, WT, has_ty}
use base.Logic.{SProp, ent, emp, via, fst∗, id⊢}
use base.Fml.{Lft, Share, ftrue, fsep, flft, fbor, fres, fat}
use prog.Model.{Model}
use prog.Routine.{Routine, Env}
use prog.Wp.{Calls, Loops, Closed, WpFn, Tables}
use types.Logic.{Logic}
use contract.Lifetimes.{Lfts}
use contract.Monad.{fact}
use contract.Running.{Running, tables, tables_of}
use types.Kit.{‵, raw, ◌⊛◌, ⋆, some, later, ◌$◌, ◌∵◌, !, qed, by, move, keep, drop, use1, split, join, pick, rewrite, fsplit, fjoin, feq_i, suffices, frame, await, done}
use types.Run.{look, look_raw, init, forget, stop, hop, from, load, addr, of_opd, and_then, no_more, assigns, land, returns, enter, alloc1, alloc0, params1, pass1, pass0, free1, free0}
use types.SemTy.{Body}
use sound.WpLaws.{FmC, fm_of, WpFn-mono}
use denote.RattleType.{owns}
use denote.Shadow.{makes_shadow}
use denote.Laws.{Is, Makes, shows}
use denote.Memory.{mem, hidden_shr, pointee}
use denote.Builtin.{RefOf, RefMutOf}
use denote.Ref.{Bor, MutBor, MutRef, ShrRef, shr_vals, mut_vals, mut_Tells, shr_Tells}
use denote.Signature.{Signature, plain}
use denote.Exit.{yes}
use denote.Steps.{only, looks, shuts, owned, peeks, heard, nothing}
use denote.Struct.Steps.{spelt}
use denote.Struct.Struct.{layout}
use denote.Struct.Declared.{shape}
use denote.Triple.Statement.{Contract, Triple}
use denote.Triple.Call.{calls_at}
use denote.Triple.Clauses.{Ended, AtExit, Clauses, closing}
use denote.Triple.End.{Fins, lasts_of}
use denote.Triple.Entry.{Args, Res, on_entry}
use denote.Triple.Spec.{Spec, Meets, triple_of, exits}
use denote.Triple.Table.{entered, cited}
use denote.Triple.Walked.{says, Stays, stay_none_ref, gave_ref, walk_of, Goes-none_ref, Goes-gave_ref, Walks, ends_at, walked, walk_Meets}
use denote.Struct.Laws as LL
use Rattle.common.specs.Promise.{Promise, by_value}
use Rattle.walks.specs.Behind.{Arg, row_of, State, state_row}

module _ (S : State) (A₁ : Arg) (Ans : Arg) (key : Name) (spec : S.T.D → A₁.X → Ans.X) (fill₁ : S.T.D → A₁.X → A₁.X) where
  abbrev τS : Ty
  τS = layout (shape S.T)

  abbrev pub function : Fn
  function = record {
    lifetimes = 2;
    outlives = [];
    ty_params = [];
    givens = 0;
    params = 2;
    locals = local Ans.ty value_local ∷ local (ty_ref (named 0) imm (pointee (state_row S).written)) value_local ∷ local (ty_ref (named 1) mut A₁.ty) value_local ∷ local τS value_local ∷ local (ty_ref erased mut A₁.ty) value_local ∷ [];
    body = seq (assign (place 3 []) (rv_opd (copy (place 1 (deref τS ∷ []))))) (seq (assign (place 4 []) (addr_of (place 2 (deref A₁.ty ∷ [])))) (seq (call key (copy (place 3 []) ∷ copy (place 4 []) ∷ []) (place 0 [])) return));
  }

  abbrev pub callee : Signature
  callee = record { lifetimes = 1; outlives = []; params = plain (λ _. state_row S) ∷ RefMutOf (0 ∷ []) tt (plain (λ _. row_of A₁)) (λ _. tt) ∷ []; result = plain (λ _. row_of Ans) }

  abbrev pub signature : Signature
  signature = record { lifetimes = 2; outlives = []; params = RefOf (0 ∷ []) tt (plain (λ _. state_row S)) (λ _. tt) ∷ RefMutOf (1 ∷ []) tt (plain (λ _. row_of A₁)) (λ _. tt) ∷ []; result = plain (λ _. row_of Ans) }

  abbrev pub ended : Ended
  ended = record { signature = signature; kept = (yes, (yes, tt)) }

  abbrev stayed : Stays signature.params ended.kept
  stayed = (stay_none_ref (0 ∷ []) tt (plain (λ _. state_row S)) yes, (gave_ref (1 ∷ []) tt (plain (λ _. row_of A₁)), tt))

  -- what the contract says, and that no two outcomes satisfy it
  abbrev pub Post : (κs : Lfts 2) → Args signature κs → Res signature κs → AtExit ended κs → Type 0
  Post κs a r e = (r ≡ spec a.0.now a.1.0.now) × (e.1.0.now ≡ fill₁ a.0.now a.1.0.now)

  abbrev pub seen : (κs : Lfts 2) → Res signature κs → AtExit ended κs → Ans.X × A₁.X
  seen κs r e = (r, e.1.0.now)

  pub promise : Promise (λ (κs : Lfts 2) (a : Args signature κs). Unit {0}) Post seen
  promise = by_value _ (λ κs a. tt) (λ κs a r e p. λ i. (p.0 i, p.1 i))

  module _ {M : Type 1} {𝓤 : Ura M} (𝓛 : Logic 𝓤) where
    abbrev pub callee_spec : Spec 𝓤 callee
    callee_spec κs a = record { ghost = Unit {0}; requires = λ _. emp 𝓤; ensures = λ _ r. exits 𝓛 callee (yes, (yes, tt)) κs a (λ e. fact 𝓤 ((r ≡ spec a.0 a.1.0.now) × (e.1.0.now ≡ fill₁ a.0 a.1.0.now))) }

    abbrev pub Callee : Contract 𝓤
    Callee = triple_of 𝓛 callee callee_spec

    abbrev pub clauses : Clauses 𝓤 ended
    clauses κs a = record { ghost = Unit {0}; requires = λ _. emp 𝓤; ensures = λ _ r e. fact 𝓤 (Post κs a r e) }

  made : {M : Type 1} {𝓤 : Ura M} (𝓛 : Logic 𝓤) (B : Arg) → Makes 𝓛 (row_of B) (Is (row_of B))
  made 𝓛 B x vs p = makes_shadow 𝓛 (B.own x vs) (B.pure x vs) p

  module _ {M : Type 1} {𝓤 : Ura M} (𝓛 : Logic 𝓤) (κ : Lft) (q : Share) (κ₁ : Lft) (q₁ : Share) (b o : ℕ) (h : S.T.D) (a₁ : MutBor A₁.X) (p₁ : Is (MutRef (named 1) κ₁ (row_of A₁)) a₁ (vptr a₁.ref_ptr.0 a₁.ref_ptr.1 ∷ [])) where
    open 𝓛 use {H}

    abbrev Xs : Type 0
    Xs = Bor S.T.D × (MutBor A₁.X × Unit {0})

    abbrev Vs : Type 0
    Vs = List Val × (List Val × Unit {0})

    abbrev x : Xs
    x = (record { ref_ptr = (b, o); now = h }, (a₁, tt))

    abbrev at : Vs
    at = (vptr b o ∷ [], (vptr a₁.ref_ptr.0 a₁.ref_ptr.1 ∷ [], tt))

    abbrev mach : S.T.D → Val
    mach d = LL.val S.T S.L d

    abbrev After : Val → SProp 𝓤
    After = (walk_of 𝓛 ended stayed (clauses 𝓛)).post (((κ, (κ₁, tt)), (q, (q₁, tt)), tt, x, at), tt)

    abbrev to : (Callee 𝓛).Ghost
    to = (((κ₁, tt), (q₁, tt), tt, (h, (a₁, tt)), (mach h ∷ [], (vptr a₁.ref_ptr.0 a₁.ref_ptr.1 ∷ [], tt))), tt)

    abbrev Said : Ans.X → SProp 𝓤
    Said r = (callee_spec 𝓛 (κ₁, tt) (h, (a₁, tt))).ensures tt r

    asked : Is (state_row S) h (mach h ∷ []) → ent 𝓤 (⋆ 𝓛 (‵ (flft κ₁ q₁) ∷ ‵ ((MutRef (named 1) κ₁ (row_of A₁)).own_val a₁ (vptr a₁.ref_ptr.0 a₁.ref_ptr.1 ∷ [])) ∷ [])) ((Callee 𝓛).pre to)
    asked was = qed 𝓛 (‵ (flft κ₁ q₁) ∷ ‵ ((MutRef (named 1) κ₁ (row_of A₁)).own_val a₁ (vptr a₁.ref_ptr.0 a₁.ref_ptr.1 ∷ [])) ∷ []) ∵ nothing ! $ move ! (2 ∷ 0 ∷ []) $ fjoin ! $ owned ! (state_row S) (Is (state_row S)) (LL.makes S.T S.plain 𝓛) h _ was $ fjoin ! $ nothing ! $ move ! (2 ∷ 0 ∷ []) $ join ! $ join ! $ frame ! $ nothing ! $ done !

    ends : (r : Ans.X) (z₁ : A₁.X) (is : Is (row_of Ans) (r) (Ans.val r ∷ [])) → (r ≡ spec h a₁.now) × (z₁ ≡ fill₁ h a₁.now) → ent 𝓤 (⋆ 𝓛 (‵ (hidden_shr (state_row S) κ h b o) ∷ ‵ (flft κ q) ∷ ‵ (flft κ₁ q₁) ∷ ‵ (fsep (fres a₁.ghost_name ((row_of A₁).coded.code z₁)) (fbor κ₁ (Body (mem (row_of A₁)) a₁.ref_ptr.0 a₁.ref_ptr.1 a₁.ghost_name))) ∷ [])) (After (Ans.val r))
    ends r z₁ is e =
        qed 𝓛 (‵ (hidden_shr (state_row S) κ h b o) ∷ ‵ (flft κ q) ∷ ‵ (flft κ₁ q₁) ∷ ‵ (fsep (fres a₁.ghost_name ((row_of A₁).coded.code z₁)) (fbor κ₁ (Body (mem (row_of A₁)) a₁.ref_ptr.0 a₁.ref_ptr.1 a₁.ghost_name))) ∷ []) ∵
        suffices ! _ (ends_at 𝓛 ended stayed (clauses 𝓛) (((κ, (κ₁, tt)), (q, (q₁, tt)), tt, x, at), tt) (Ans.val r) (r) (tt, (z₁, tt)) (tt, (tt, tt))) $ says ! (e.0, e.1) $
        nothing ! $ move ! (3 ∷ 0 ∷ []) $ join ! $ move ! (2 ∷ 0 ∷ []) $ join ! $ frame ! $ feq_i ! (List Val) (vptr b o ∷ []) (vptr b o ∷ []) refl $ fjoin ! $ nothing ! $ move ! (2 ∷ 0 ∷ []) $ fjoin ! $ move ! (1 ∷ 0 ∷ []) $ fjoin ! $ owned ! (row_of Ans) (Is (row_of Ans)) (made 𝓛 Ans) (r) _ is $ move ! (1 ∷ 0 ∷ []) $ done !

    again : (r : Ans.X) (v : Val) → Is (row_of Ans) r (v ∷ []) → Is (row_of Ans) r (Ans.val r ∷ [])
    again r v is = subst (λ (us : List Val). Is (row_of Ans) r us) (Ans.tells r _ is) is

    typed_ans : (r : Ans.X) (v : Val) → Is (row_of Ans) r (v ∷ []) → Holds (has_ty Ans.ty v) × WT v
    typed_ans r v is = subst (λ (u : Val). Holds (has_ty Ans.ty u) × WT u) (sym (ap only (Ans.tells r _ is))) (Ans.typed r (again r v is))

    module _ (C : Calls 𝓤 H) (Λ : Loops 𝓤 H) (fm : FmC 𝓤 H 𝓛.laws C) (known : Triple 𝓤 (C key) (Callee 𝓛)) where
      walk : ent 𝓤 (on_entry 𝓛 signature (κ, (κ₁, tt)) (q, (q₁, tt)) x at) (WpFn 𝓤 H C Λ function (vptr b o ∷ vptr a₁.ref_ptr.0 a₁.ref_ptr.1 ∷ []) After)
      walk =
          qed 𝓛 ((‵ (flft κ q) ⊛ ‵ (flft κ₁ q₁) ⊛ ‵ ftrue) ∷ ‵ (owns (ShrRef (named 0) κ (state_row S) ∷ MutRef (named 1) κ₁ (row_of A₁) ∷ []) x at) ∷ []) ∵ enter ! C Λ function (vptr b o ∷ vptr a₁.ref_ptr.0 a₁.ref_ptr.1 ∷ []) _ $
          alloc1 ! (λ b₀. alloc1 ! (λ b₁. alloc1 ! (λ b₂. alloc1 ! (λ b₃. alloc1 ! (λ b₄. alloc0 ! $ params1 ! $ pass1 ! (init ! 6 refl (tt, tt)) $ pass1 ! (init ! 4 refl (tt, tt)) $ pass0 ! $
          move ! (11 ∷ []) $ fsplit ! $ move ! (1 ∷ []) $ fsplit ! $ move ! (1 ∷ []) $ drop ! $ move ! (1 ∷ []) $ fsplit ! $ drop ! $ move ! (12 ∷ []) $ split ! $ move ! (1 ∷ []) $ split ! $ move ! (1 ∷ []) $ drop ! $
          move ! (2 ∷ 1 ∷ []) $ looks ! tt (state_row S) (LL.copied S.T S.copy 𝓛).opens h b o (λ q' vs. spelt ! (state_row S) (Is (state_row S)) (shows 𝓛 (state_row S)) (LL.vals S.T S.L) (LL.tells S.T S.L) q' h vs b o $ move ! (1 ∷ []) $ peeks ! (state_row S) (Is (state_row S)) (shows 𝓛 (state_row S)) h (mach h ∷ []) (λ was.
          assigns ! (of_opd ! (load ! (from ! (hop ! (look ! 12 refl) (stop !))) (look_raw ! 1 refl))) (from ! (stop !)) (init ! 8 refl (((LL.lawful S.T S.L 𝓛).typed h _ was).0)) $
          assigns ! (addr ! (from ! (hop ! (look ! 10 refl) (stop !)))) (from ! (stop !)) (init ! 6 refl (tt, tt)) $
          move ! (4 ∷ 5 ∷ []) $ join ! $ use1 𝓛 (raw ((Callee 𝓛).pre to)) (asked was) $ calls_at ! fm (Callee 𝓛) known to (and_then ! (load ! (from ! (stop !)) (look ! 7 refl)) (and_then ! (load ! (from ! (stop !)) (look ! 5 refl)) (no_more !))) (λ v.
          use1 𝓛 (later (some (λ (r : Ans.X). ((‵ (flft κ₁ q₁) ⊛ ‵ ftrue) ⊛ ‵ ((row_of Ans).own_val r (v ∷ []))) ⊛ raw (Said r)))) (id⊢ 𝓤 _) $ await ! tt $ pick ! (λ r. split ! $ move ! (1 ∷ []) $ use1 𝓛 (some (λ (ws : Fins (κ₁, tt) callee.params (yes, (yes, tt)) (h, (a₁, tt))). ‵ (lasts_of (κ₁, tt) callee.params (yes, (yes, tt)) (h, (a₁, tt)) ws) ⊛ raw (fact 𝓤 ((r ≡ spec h a₁.now) × (ws.1.0 ≡ fill₁ h a₁.now))))) (id⊢ 𝓤 _) $ pick ! (λ ws. split ! $ move ! (1 ∷ []) $ heard ! ((r ≡ spec h a₁.now) × (ws.1.0 ≡ fill₁ h a₁.now)) (λ e. fsplit ! $ drop ! $ fsplit ! $ move ! (1 ∷ []) $ drop ! $ move ! (1 ∷ []) $ split ! $ split ! $ move ! (1 ∷ []) $ drop ! $ move ! (1 ∷ []) $ peeks ! (row_of Ans) (Is (row_of Ans)) (shows 𝓛 (row_of Ans)) r (v ∷ []) (λ is.
          land ! (from ! (stop !)) (init ! 15 refl (typed_ans r v is)) $ rewrite ! 15 (λ (u : Val). ‵ (fat full_share Ans.ty b₀ 0 u)) (ap only (Ans.tells r _ is)) refl $
          drop ! $ move ! (3 ∷ 2 ∷ 4 ∷ []) $ shuts ! tt (state_row S) q' h (mach h ∷ []) b o $
          returns ! (look ! 12 refl) $ forget ! 12 refl $ forget ! 10 refl $ forget ! 8 refl $ forget ! 6 refl $ forget ! 4 refl $
          move ! (12 ∷ 13 ∷ []) $ free1 ! $ move ! (10 ∷ 11 ∷ []) $ free1 ! $ move ! (8 ∷ 9 ∷ []) $ free1 ! $ move ! (6 ∷ 7 ∷ []) $ free1 ! $ move ! (4 ∷ 5 ∷ []) $ free1 ! $ free0 ! $ keep ! (3 ∷ 0 ∷ 1 ∷ 2 ∷ []) $ by ! (ends r (ws.1.0) (again r v is) e)))))))))))))

  walks : {M : Type 1} {𝓤 : Ura M} (𝓛 : Logic 𝓤) (C : Calls 𝓤 𝓛.H) (Λ : Loops 𝓤 𝓛.H) → FmC 𝓤 𝓛.H 𝓛.laws C → Triple 𝓤 (C key) (Callee 𝓛) → Walks 𝓛 ended stayed (WpFn 𝓤 𝓛.H C Λ function) (clauses 𝓛)
  walks {𝓤 = 𝓤} 𝓛 C Λ fm known = walked 𝓛 ended stayed (clauses 𝓛) (WpFn 𝓤 𝓛.H C Λ function) (λ κs. (shr_vals, (mut_vals, tt))) (λ κs. (shr_Tells (named 0) κs.0 (state_row S), (mut_Tells (named 1) κs.1.0 (row_of A₁), tt)))
      (λ κs qs bounds a g are. via 𝓤 _ (fst∗ 𝓤 _ (emp 𝓤)) (walk 𝓛 κs.0 qs.0 κs.1.0 qs.1.0 a.0.ref_ptr.0 a.0.ref_ptr.1 a.0.now a.1.0 are.1.0 C Λ fm known))

  meets : {M : Type 1} {𝓤 : Ura M} (𝓛 : Logic 𝓤) (𝓣 : Tables 𝓤 𝓛.H) → Triple 𝓤 (𝓣.C key) (Callee 𝓛) → Meets 𝓛 signature (WpFn 𝓤 𝓛.H 𝓣.C 𝓣.Λ function) (closing 𝓛 ended (clauses 𝓛))
  meets {𝓤 = 𝓤} 𝓛 𝓣 known = walk_Meets 𝓛 ended stayed (Goes-none_ref 𝓛 2 (0 ∷ []) tt (plain (λ _. state_row S)) yes, (Goes-gave_ref 𝓛 2 1 tt (plain (λ _. row_of A₁)), tt)) (clauses 𝓛) (WpFn 𝓤 𝓛.H 𝓣.C 𝓣.Λ function) (WpFn-mono 𝓤 𝓛.H 𝓛.laws 𝓣 function)
      (walks 𝓛 𝓣.C 𝓣.Λ (fm_of 𝓤 𝓛.H 𝓛.laws 𝓣) known)

  -- over the tables of the function's environment, from the callee's own theorem
  pub proved : {M : Type 1} {𝓤 : Ura M} (𝓛 : Logic 𝓤) (𝓜 : Model 𝓤 𝓛.H) (𝓡 : Running 𝓤 𝓛.H 𝓜) (env : Env) (self : Name) → Closed 𝓤 𝓛.H (tables 𝓤 𝓛.H 𝓜 𝓡 env).C (tables 𝓤 𝓛.H 𝓜 𝓡 env).Λ self function
      → (routine : Routine) → env key ≡ routine → Triple 𝓤 (𝓡.run routine) (Callee 𝓛) → Meets 𝓛 signature ((tables 𝓤 𝓛.H 𝓜 𝓡 env).C self) (closing 𝓛 ended (clauses 𝓛))
  unfolding tables_of
  proved {𝓤 = 𝓤} 𝓛 𝓜 𝓡 env self closed routine calls met =
      entered 𝓤 𝓛.H (triple_of 𝓛 signature (closing 𝓛 ended (clauses 𝓛))) (tables 𝓤 𝓛.H 𝓜 𝓡 env).C (tables 𝓤 𝓛.H 𝓜 𝓡 env).Λ self function closed
      (meets 𝓛 (tables_of 𝓤 𝓛.H 𝓜 (tables 𝓤 𝓛.H 𝓜 𝓡 env)) (cited 𝓤 𝓛.H (Callee 𝓛) 𝓜 𝓡 env key routine calls met))
