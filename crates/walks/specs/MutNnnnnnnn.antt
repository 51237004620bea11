-- `fn f(t: &mut S, a1: A1, a2: A2, a3: A3, a4: A4, a5: A5, a6: A6, a7: A7, a8: A8) -> Ans`, of the form Mut of tools/walk.py, which wrote this file: it meets the contract that says the callee's of what lies behind the reference.
-- For all types: `Behind.antt` has what is asked of them. Assumes nothing.
use Rattle.std.specs.Prelude.{◌≡◌, refl, ℕ, [], ◌∷◌, List, T as Holds}
use Rattle.std.proofs.Common.{sym, ap, subst}
use seplogic.Ra.Ura.{Ura}
use base.Fraction.{full_share}
use mir.Syntax.{Callee as Name, Ty, Fn, named, mut, ty_ref, ty_struct, tnil, tcons, local, value_local, place, deref, field, copy, rv_opd, seq, assign, call, return}
use mir.Val.{Val, vptr, WT, has_ty}
use base.Logic.{SProp, ent, emp, via, fst∗, id⊢}
use base.Fml.{GName, Lft, Share, ftrue, flft, fobs, fbor, fat}
use prog.Model.{Model}
use prog.Routine.{Routine, Env}
use prog.Wp.{Calls, Loops, Closed, WpFn, Tables}
use types.Logic.{Logic}
use contract.Lifetimes.{Lfts}
use contract.Monad.{fact}
use contract.Running.{Running, tables, tables_of}
use types.Kit.{‵, raw, ◌⊛◌, ⋆, some, later, ◌$◌, ◌∵◌, !, qed, by, move, keep, drop, use0, use1, split, join, pick, rewrite, fsplit, fsplit3, fjoin, fjoin3, feq_i, suffices, frame, await, done}
use types.Run.{look, look_raw, init, store_raw, forget, stop, hop, fld, from, load, of_opd, and_then, no_more, assigns, land, returns, enter, alloc1, alloc0, params1, pass1, pass0, free1, free0}
use types.Part.{whole, sub, look_in}
use types.SemTy.{Body}
use sound.WpLaws.{FmC, fm_of, WpFn-mono}
use denote.RattleType.{owns}
use denote.Shadow.{makes_shadow}
use denote.Laws.{Is, Makes, shows}
use denote.Memory.{mem, pointee}
use denote.Builtin.{RefMutOf}
use denote.Ref.{MutBor, MutRef, mut_vals, mut_Tells}
use denote.Signature.{Signature, plain}
use denote.Exit.{yes}
use denote.Steps.{only, opens, closes, owned, peeks, heard, nothing}
use denote.Struct.Steps.{spelt}
use denote.Struct.Struct.{layout, as_fields}
use denote.Struct.Declared.{shape}
use denote.Triple.Statement.{Contract, Triple}
use denote.Triple.Call.{calls_at}
use denote.Triple.Clauses.{Ended, AtExit, Clauses, closing}
use denote.Triple.End.{Fins, lasts_of}
use denote.Triple.Entry.{Args, Res, on_entry}
use denote.Triple.Spec.{Spec, Meets, triple_of, exits}
use denote.Triple.Table.{entered, cited}
use denote.Triple.Walked.{says, Stays, stay_ref, stay_none, walk_of, Goes-none, Goes-ref, Walks, ends_at, walked, walk_Meets}
use denote.Struct.Laws as LL
use Rattle.common.specs.Promise.{Promise, by_value}
use Rattle.walks.specs.Behind.{Arg, row_of, State, state_row, Out}

module _ (S : State) (A₁ A₂ A₃ A₄ A₅ A₆ A₇ A₈ : Arg) (Ans : Arg) (O : Out S Ans) (key : Name) (spec : S.T.D → A₁.X → A₂.X → A₃.X → A₄.X → A₅.X → A₆.X → A₇.X → A₈.X → O.row.Denot) where
  abbrev τS : Ty
  τS = layout (shape S.T)

  abbrev τO : Ty
  τO = ty_struct O.name (tcons Ans.ty (tcons τS tnil))

  abbrev pub function : Fn
  function = record {
    lifetimes = 1;
    outlives = [];
    ty_params = [];
    givens = 0;
    params = 9;
    locals = local Ans.ty value_local ∷ local (ty_ref (named 0) mut (pointee (state_row S).written)) value_local ∷ local A₁.ty value_local ∷ local A₂.ty value_local ∷ local A₃.ty value_local ∷ local A₄.ty value_local ∷ local A₅.ty value_local ∷ local A₆.ty value_local ∷ local A₇.ty value_local ∷ local A₈.ty value_local ∷ local τS value_local ∷ local τO value_local ∷ local τS value_local ∷ [];
    body = seq (assign (place 10 []) (rv_opd (copy (place 1 (deref τS ∷ []))))) (seq (call key (copy (place 10 []) ∷ copy (place 2 []) ∷ copy (place 3 []) ∷ copy (place 4 []) ∷ copy (place 5 []) ∷ copy (place 6 []) ∷ copy (place 7 []) ∷ copy (place 8 []) ∷ copy (place 9 []) ∷ []) (place 11 [])) (seq (assign (place 12 []) (rv_opd (copy (place 11 (field 1 ∷ []))))) (seq (assign (place 1 (deref τS ∷ [])) (rv_opd (copy (place 12 [])))) (seq (assign (place 0 []) (rv_opd (copy (place 11 (field 0 ∷ []))))) return))));
  }

  abbrev pub callee : Signature
  callee = record { lifetimes = 0; outlives = []; params = plain (λ _. state_row S) ∷ plain (λ _. row_of A₁) ∷ plain (λ _. row_of A₂) ∷ plain (λ _. row_of A₃) ∷ plain (λ _. row_of A₄) ∷ plain (λ _. row_of A₅) ∷ plain (λ _. row_of A₆) ∷ plain (λ _. row_of A₇) ∷ plain (λ _. row_of A₈) ∷ []; result = plain (λ _. O.row) }

  abbrev pub signature : Signature
  signature = record { lifetimes = 1; outlives = []; params = RefMutOf (0 ∷ []) tt (plain (λ _. state_row S)) (λ _. tt) ∷ plain (λ _. row_of A₁) ∷ plain (λ _. row_of A₂) ∷ plain (λ _. row_of A₃) ∷ plain (λ _. row_of A₄) ∷ plain (λ _. row_of A₅) ∷ plain (λ _. row_of A₆) ∷ plain (λ _. row_of A₇) ∷ plain (λ _. row_of A₈) ∷ []; result = plain (λ _. row_of Ans) }

  abbrev pub ended : Ended
  ended = record { signature = signature; kept = (yes, (yes, (yes, (yes, (yes, (yes, (yes, (yes, (yes, tt))))))))) }

  abbrev stayed : Stays signature.params ended.kept
  stayed = (stay_ref (0 ∷ []) tt (plain (λ _. state_row S)), (stay_none (λ _. row_of A₁) yes, (stay_none (λ _. row_of A₂) yes, (stay_none (λ _. row_of A₃) yes, (stay_none (λ _. row_of A₄) yes, (stay_none (λ _. row_of A₅) yes, (stay_none (λ _. row_of A₆) yes, (stay_none (λ _. row_of A₇) yes, (stay_none (λ _. row_of A₈) yes, tt)))))))))

  -- what the contract says, and that no two outcomes satisfy it
  abbrev pub Post : (κs : Lfts 1) → Args signature κs → Res signature κs → AtExit ended κs → Type 0
  Post κs a r e = (r ≡ O.ans (spec a.0.now a.1.0 a.1.1.0 a.1.1.1.0 a.1.1.1.1.0 a.1.1.1.1.1.0 a.1.1.1.1.1.1.0 a.1.1.1.1.1.1.1.0 a.1.1.1.1.1.1.1.1.0)) × (e.0.now ≡ O.st (spec a.0.now a.1.0 a.1.1.0 a.1.1.1.0 a.1.1.1.1.0 a.1.1.1.1.1.0 a.1.1.1.1.1.1.0 a.1.1.1.1.1.1.1.0 a.1.1.1.1.1.1.1.1.0))

  abbrev pub seen : (κs : Lfts 1) → Res signature κs → AtExit ended κs → Ans.X × S.T.D
  seen κs r e = (r, e.0.now)

  pub promise : Promise (λ (κs : Lfts 1) (a : Args signature κs). Unit {0}) Post seen
  promise = by_value _ (λ κs a. tt) (λ κs a r e p. λ i. (p.0 i, p.1 i))

  module _ {M : Type 1} {𝓤 : Ura M} (𝓛 : Logic 𝓤) where
    abbrev pub callee_spec : Spec 𝓤 callee
    callee_spec κs a = record { ghost = Unit {0}; requires = λ _. emp 𝓤; ensures = λ _ r. exits 𝓛 callee (yes, (yes, (yes, (yes, (yes, (yes, (yes, (yes, (yes, tt))))))))) κs a (λ e. fact 𝓤 (r ≡ spec a.0 a.1.0 a.1.1.0 a.1.1.1.0 a.1.1.1.1.0 a.1.1.1.1.1.0 a.1.1.1.1.1.1.0 a.1.1.1.1.1.1.1.0 a.1.1.1.1.1.1.1.1.0)) }

    abbrev pub Callee : Contract 𝓤
    Callee = triple_of 𝓛 callee callee_spec

    abbrev pub clauses : Clauses 𝓤 ended
    clauses κs a = record { ghost = Unit {0}; requires = λ _. emp 𝓤; ensures = λ _ r e. fact 𝓤 (Post κs a r e) }

  made : {M : Type 1} {𝓤 : Ura M} (𝓛 : Logic 𝓤) (B : Arg) → Makes 𝓛 (row_of B) (Is (row_of B))
  made 𝓛 B x vs p = makes_shadow 𝓛 (B.own x vs) (B.pure x vs) p

  module _ {M : Type 1} {𝓤 : Ura M} (𝓛 : Logic 𝓤) (κ : Lft) (q : Share) (b o : ℕ) (γ : GName) (h : S.T.D) (a₁ : A₁.X) (a₂ : A₂.X) (a₃ : A₃.X) (a₄ : A₄.X) (a₅ : A₅.X) (a₆ : A₆.X) (a₇ : A₇.X) (a₈ : A₈.X) (p₁ : Is (row_of A₁) a₁ (A₁.val a₁ ∷ [])) (p₂ : Is (row_of A₂) a₂ (A₂.val a₂ ∷ [])) (p₃ : Is (row_of A₃) a₃ (A₃.val a₃ ∷ [])) (p₄ : Is (row_of A₄) a₄ (A₄.val a₄ ∷ [])) (p₅ : Is (row_of A₅) a₅ (A₅.val a₅ ∷ [])) (p₆ : Is (row_of A₆) a₆ (A₆.val a₆ ∷ [])) (p₇ : Is (row_of A₇) a₇ (A₇.val a₇ ∷ [])) (p₈ : Is (row_of A₈) a₈ (A₈.val a₈ ∷ [])) where
    open 𝓛 use {H}

    abbrev Xs : Type 0
    Xs = MutBor S.T.D × (A₁.X × (A₂.X × (A₃.X × (A₄.X × (A₅.X × (A₆.X × (A₇.X × (A₈.X × Unit {0}))))))))

    abbrev Vs : Type 0
    Vs = List Val × (List Val × (List Val × (List Val × (List Val × (List Val × (List Val × (List Val × (List Val × Unit {0}))))))))

    abbrev x : Xs
    x = (record { ref_ptr = (b, o); ghost_name = γ; now = h }, (a₁, (a₂, (a₃, (a₄, (a₅, (a₆, (a₇, (a₈, tt)))))))))

    abbrev at : Vs
    at = (vptr b o ∷ [], (A₁.val a₁ ∷ [], (A₂.val a₂ ∷ [], (A₃.val a₃ ∷ [], (A₄.val a₄ ∷ [], (A₅.val a₅ ∷ [], (A₆.val a₆ ∷ [], (A₇.val a₇ ∷ [], (A₈.val a₈ ∷ [], tt)))))))))

    abbrev mach : S.T.D → Val
    mach d = LL.val S.T S.L d

    abbrev After : Val → SProp 𝓤
    After = (walk_of 𝓛 ended stayed (clauses 𝓛)).post (((κ, tt), (q, tt), tt, x, at), tt)

    abbrev to : (Callee 𝓛).Ghost
    to = ((tt, tt, tt, (h, (a₁, (a₂, (a₃, (a₄, (a₅, (a₆, (a₇, (a₈, tt))))))))), (mach h ∷ [], (A₁.val a₁ ∷ [], (A₂.val a₂ ∷ [], (A₃.val a₃ ∷ [], (A₄.val a₄ ∷ [], (A₅.val a₅ ∷ [], (A₆.val a₆ ∷ [], (A₇.val a₇ ∷ [], (A₈.val a₈ ∷ [], tt)))))))))), tt)

    abbrev Said : O.row.Denot → SProp 𝓤
    Said r = (callee_spec 𝓛 tt (h, (a₁, (a₂, (a₃, (a₄, (a₅, (a₆, (a₇, (a₈, tt)))))))))).ensures tt r

    asked : Is (state_row S) h (mach h ∷ []) → ent 𝓤 (⋆ 𝓛 ([])) ((Callee 𝓛).pre to)
    asked was = qed 𝓛 ([]) ∵ nothing ! $ owned ! (row_of A₈) (Is (row_of A₈)) (made 𝓛 A₈) a₈ _ p₈ $ fjoin ! $ owned ! (row_of A₇) (Is (row_of A₇)) (made 𝓛 A₇) a₇ _ p₇ $ fjoin ! $ owned ! (row_of A₆) (Is (row_of A₆)) (made 𝓛 A₆) a₆ _ p₆ $ fjoin ! $ owned ! (row_of A₅) (Is (row_of A₅)) (made 𝓛 A₅) a₅ _ p₅ $ fjoin ! $ owned ! (row_of A₄) (Is (row_of A₄)) (made 𝓛 A₄) a₄ _ p₄ $ fjoin ! $ owned ! (row_of A₃) (Is (row_of A₃)) (made 𝓛 A₃) a₃ _ p₃ $ fjoin ! $ owned ! (row_of A₂) (Is (row_of A₂)) (made 𝓛 A₂) a₂ _ p₂ $ fjoin ! $ owned ! (row_of A₁) (Is (row_of A₁)) (made 𝓛 A₁) a₁ _ p₁ $ fjoin ! $ owned ! (state_row S) (Is (state_row S)) (LL.makes S.T S.plain 𝓛) h _ was $ fjoin ! $ nothing ! $ join ! $ frame ! $ nothing ! $ done !

    ends : (r : O.row.Denot) (is : Is (row_of Ans) (O.ans r) (Ans.val (O.ans r) ∷ [])) → r ≡ spec h a₁ a₂ a₃ a₄ a₅ a₆ a₇ a₈ → ent 𝓤 (⋆ 𝓛 (‵ (fobs γ ((state_row S).coded.code (O.st r))) ∷ ‵ (fbor κ (Body (mem (state_row S)) b o γ)) ∷ ‵ (flft κ q) ∷ [])) (After (Ans.val (O.ans r)))
    ends r is e =
        qed 𝓛 (‵ (fobs γ ((state_row S).coded.code (O.st r))) ∷ ‵ (fbor κ (Body (mem (state_row S)) b o γ)) ∷ ‵ (flft κ q) ∷ []) ∵
        suffices ! _ (ends_at 𝓛 ended stayed (clauses 𝓛) (((κ, tt), (q, tt), tt, x, at), tt) (Ans.val (O.ans r)) (O.ans r) ((O.st r), (tt, (tt, (tt, (tt, (tt, (tt, (tt, (tt, tt))))))))) (tt, (tt, (tt, (tt, (tt, (tt, (tt, (tt, (tt, tt)))))))))) $ says ! (ap O.ans e, ap O.st e) $
        nothing ! $ move ! (3 ∷ 0 ∷ []) $ join ! $ frame ! $ feq_i ! (List Val) (vptr b o ∷ []) (vptr b o ∷ []) refl $ fjoin3 ! $ nothing ! $ owned ! (row_of A₈) (Is (row_of A₈)) (made 𝓛 A₈) a₈ _ p₈ $ fjoin ! $ owned ! (row_of A₇) (Is (row_of A₇)) (made 𝓛 A₇) a₇ _ p₇ $ fjoin ! $ owned ! (row_of A₆) (Is (row_of A₆)) (made 𝓛 A₆) a₆ _ p₆ $ fjoin ! $ owned ! (row_of A₅) (Is (row_of A₅)) (made 𝓛 A₅) a₅ _ p₅ $ fjoin ! $ owned ! (row_of A₄) (Is (row_of A₄)) (made 𝓛 A₄) a₄ _ p₄ $ fjoin ! $ owned ! (row_of A₃) (Is (row_of A₃)) (made 𝓛 A₃) a₃ _ p₃ $ fjoin ! $ owned ! (row_of A₂) (Is (row_of A₂)) (made 𝓛 A₂) a₂ _ p₂ $ fjoin ! $ owned ! (row_of A₁) (Is (row_of A₁)) (made 𝓛 A₁) a₁ _ p₁ $ fjoin ! $ move ! (1 ∷ 0 ∷ []) $ fjoin ! $ owned ! (row_of Ans) (Is (row_of Ans)) (made 𝓛 Ans) (O.ans r) _ is $ move ! (1 ∷ 0 ∷ []) $ done !

    typed_out : (r : O.row.Denot) (v : Val) → Is O.row r (v ∷ []) → Holds (has_ty τO v) × WT v
    typed_out r v is = subst (λ (u : Val). Holds (has_ty τO u) × WT u) (sym (ap only (O.tells r _ is)))
        (as_fields (Ans.ty ∷ τS ∷ []) (Ans.val (O.ans r) ∷ mach (O.st r) ∷ []) (Ans.typed (O.ans r) (O.ans_is r _ is), (((LL.lawful S.T S.L 𝓛).typed (O.st r) _ (O.st_is r _ is)).0, tt)))

    module _ (C : Calls 𝓤 H) (Λ : Loops 𝓤 H) (fm : FmC 𝓤 H 𝓛.laws C) (known : Triple 𝓤 (C key) (Callee 𝓛)) where
      walk : ent 𝓤 (on_entry 𝓛 signature (κ, tt) (q, tt) x at) (WpFn 𝓤 H C Λ function (vptr b o ∷ A₁.val a₁ ∷ A₂.val a₂ ∷ A₃.val a₃ ∷ A₄.val a₄ ∷ A₅.val a₅ ∷ A₆.val a₆ ∷ A₇.val a₇ ∷ A₈.val a₈ ∷ []) After)
      walk =
          qed 𝓛 ((‵ (flft κ q) ⊛ ‵ ftrue) ∷ ‵ (owns (MutRef (named 0) κ (state_row S) ∷ row_of A₁ ∷ row_of A₂ ∷ row_of A₃ ∷ row_of A₄ ∷ row_of A₅ ∷ row_of A₆ ∷ row_of A₇ ∷ row_of A₈ ∷ []) x at) ∷ []) ∵ enter ! C Λ function (vptr b o ∷ A₁.val a₁ ∷ A₂.val a₂ ∷ A₃.val a₃ ∷ A₄.val a₄ ∷ A₅.val a₅ ∷ A₆.val a₆ ∷ A₇.val a₇ ∷ A₈.val a₈ ∷ []) _ $
          alloc1 ! (λ b₀. alloc1 ! (λ b₁. alloc1 ! (λ b₂. alloc1 ! (λ b₃. alloc1 ! (λ b₄. alloc1 ! (λ b₅. alloc1 ! (λ b₆. alloc1 ! (λ b₇. alloc1 ! (λ b₈. alloc1 ! (λ b₉. alloc1 ! (λ b₁₀. alloc1 ! (λ b₁₁. alloc1 ! (λ b₁₂. alloc0 ! $ params1 ! $ pass1 ! (init ! 22 refl (tt, tt)) $ pass1 ! (init ! 20 refl (A₁.typed a₁ p₁)) $ pass1 ! (init ! 18 refl (A₂.typed a₂ p₂)) $ pass1 ! (init ! 16 refl (A₃.typed a₃ p₃)) $ pass1 ! (init ! 14 refl (A₄.typed a₄ p₄)) $ pass1 ! (init ! 12 refl (A₅.typed a₅ p₅)) $ pass1 ! (init ! 10 refl (A₆.typed a₆ p₆)) $ pass1 ! (init ! 8 refl (A₇.typed a₇ p₇)) $ pass1 ! (init ! 6 refl (A₈.typed a₈ p₈)) $ pass0 ! $
          move ! (27 ∷ []) $ fsplit ! $ move ! (1 ∷ []) $ drop ! $ fsplit3 ! $ drop ! $ move ! (28 ∷ []) $ split ! $ move ! (1 ∷ []) $ drop ! $
          move ! (1 ∷ 2 ∷ 0 ∷ []) $ opens ! tt (state_row S) {h = h} b o (λ vs. spelt ! (state_row S) (Is (state_row S)) (shows 𝓛 (state_row S)) (LL.vals S.T S.L) (LL.tells S.T S.L) full_share h vs b o $ move ! (1 ∷ []) $ peeks ! (state_row S) (Is (state_row S)) (shows 𝓛 (state_row S)) h (mach h ∷ []) (λ was.
          assigns ! (of_opd ! (load ! (from ! (hop ! (look ! 27 refl) (stop !))) (look_raw ! 1 refl))) (from ! (stop !)) (init ! 9 refl (((LL.lawful S.T S.L 𝓛).typed h _ was).0)) $
          use0 𝓛 (raw ((Callee 𝓛).pre to)) (asked was) $ calls_at ! fm (Callee 𝓛) known to (and_then ! (load ! (from ! (stop !)) (look ! 10 refl)) (and_then ! (load ! (from ! (stop !)) (look ! 26 refl)) (and_then ! (load ! (from ! (stop !)) (look ! 24 refl)) (and_then ! (load ! (from ! (stop !)) (look ! 22 refl)) (and_then ! (load ! (from ! (stop !)) (look ! 20 refl)) (and_then ! (load ! (from ! (stop !)) (look ! 18 refl)) (and_then ! (load ! (from ! (stop !)) (look ! 16 refl)) (and_then ! (load ! (from ! (stop !)) (look ! 14 refl)) (and_then ! (load ! (from ! (stop !)) (look ! 12 refl)) (no_more !)))))))))) (λ v.
          use1 𝓛 (later (some (λ (r : O.row.Denot). ((‵ ftrue) ⊛ ‵ (O.row.own_val r (v ∷ []))) ⊛ raw (Said r)))) (id⊢ 𝓤 _) $ await ! tt $ pick ! (λ r. split ! $ move ! (1 ∷ []) $ use1 𝓛 (some (λ (ws : Fins tt callee.params (yes, (yes, (yes, (yes, (yes, (yes, (yes, (yes, (yes, tt))))))))) (h, (a₁, (a₂, (a₃, (a₄, (a₅, (a₆, (a₇, (a₈, tt)))))))))). ‵ (lasts_of tt callee.params (yes, (yes, (yes, (yes, (yes, (yes, (yes, (yes, (yes, tt))))))))) (h, (a₁, (a₂, (a₃, (a₄, (a₅, (a₆, (a₇, (a₈, tt))))))))) ws) ⊛ raw (fact 𝓤 (r ≡ spec h a₁ a₂ a₃ a₄ a₅ a₆ a₇ a₈)))) (id⊢ 𝓤 _) $ pick ! (λ ws. split ! $ move ! (1 ∷ []) $ heard ! (r ≡ spec h a₁ a₂ a₃ a₄ a₅ a₆ a₇ a₈) (λ e. drop ! $ split ! $ drop ! $ peeks ! O.row (Is O.row) (shows 𝓛 O.row) r (v ∷ []) (λ is.
          land ! (from ! (stop !)) (init ! 8 refl (typed_out r v is)) $ rewrite ! 8 (λ (u : Val). ‵ (fat full_share τO b₁₁ 0 u)) (ap only (O.tells r _ is)) refl $
          assigns ! (of_opd ! (load ! (from ! (fld ! refl (stop !))) (look_in ! 8 (sub ! 1 refl (whole !))))) (from ! (stop !)) (init ! 6 refl (((LL.lawful S.T S.L 𝓛).typed (O.st r) _ (O.st_is r _ is)).0)) $
          assigns ! (of_opd ! (load ! (from ! (stop !)) (look ! 6 refl))) (from ! (hop ! (look ! 28 refl) (stop !))) (store_raw ! 2 refl (((LL.lawful S.T S.L 𝓛).typed (O.st r) _ (O.st_is r _ is)).0)) $
          assigns ! (of_opd ! (load ! (from ! (fld ! refl (stop !))) (look_in ! 8 (sub ! 0 refl (whole !))))) (from ! (stop !)) (init ! 30 refl (Ans.typed (O.ans r) (O.ans_is r _ is))) $
          drop ! $ drop ! $ owned ! (state_row S) (Is (state_row S)) (LL.makes S.T S.plain 𝓛) (O.st r) _ (O.st_is r _ is) $ move ! (1 ∷ 0 ∷ 2 ∷ 3 ∷ 4 ∷ []) $ closes ! tt (state_row S) (O.st r) (mach (O.st r) ∷ []) b o $
          returns ! (look ! 27 refl) $ forget ! 27 refl $ forget ! 25 refl $ forget ! 23 refl $ forget ! 21 refl $ forget ! 19 refl $ forget ! 17 refl $ forget ! 15 refl $ forget ! 13 refl $ forget ! 11 refl $ forget ! 9 refl $ forget ! 7 refl $ forget ! 5 refl $ forget ! 3 refl $
          move ! (27 ∷ 28 ∷ []) $ free1 ! $ move ! (25 ∷ 26 ∷ []) $ free1 ! $ move ! (23 ∷ 24 ∷ []) $ free1 ! $ move ! (21 ∷ 22 ∷ []) $ free1 ! $ move ! (19 ∷ 20 ∷ []) $ free1 ! $ move ! (17 ∷ 18 ∷ []) $ free1 ! $ move ! (15 ∷ 16 ∷ []) $ free1 ! $ move ! (13 ∷ 14 ∷ []) $ free1 ! $ move ! (11 ∷ 12 ∷ []) $ free1 ! $ move ! (9 ∷ 10 ∷ []) $ free1 ! $ move ! (7 ∷ 8 ∷ []) $ free1 ! $ move ! (5 ∷ 6 ∷ []) $ free1 ! $ move ! (3 ∷ 4 ∷ []) $ free1 ! $ free0 ! $ keep ! (0 ∷ 1 ∷ 2 ∷ []) $ by ! (ends r (O.ans_is r _ is) e)))))))))))))))))))))

  walks : {M : Type 1} {𝓤 : Ura M} (𝓛 : Logic 𝓤) (C : Calls 𝓤 𝓛.H) (Λ : Loops 𝓤 𝓛.H) → FmC 𝓤 𝓛.H 𝓛.laws C → Triple 𝓤 (C key) (Callee 𝓛) → Walks 𝓛 ended stayed (WpFn 𝓤 𝓛.H C Λ function) (clauses 𝓛)
  walks {𝓤 = 𝓤} 𝓛 C Λ fm known = walked 𝓛 ended stayed (clauses 𝓛) (WpFn 𝓤 𝓛.H C Λ function) (λ κs. (mut_vals, ((λ y. A₁.val y ∷ []), ((λ y. A₂.val y ∷ []), ((λ y. A₃.val y ∷ []), ((λ y. A₄.val y ∷ []), ((λ y. A₅.val y ∷ []), ((λ y. A₆.val y ∷ []), ((λ y. A₇.val y ∷ []), ((λ y. A₈.val y ∷ []), tt)))))))))) (λ κs. (mut_Tells (named 0) κs.0 (state_row S), (A₁.tells, (A₂.tells, (A₃.tells, (A₄.tells, (A₅.tells, (A₆.tells, (A₇.tells, (A₈.tells, tt))))))))))
      (λ κs qs bounds a g are. via 𝓤 _ (fst∗ 𝓤 _ (emp 𝓤)) (walk 𝓛 κs.0 qs.0 a.0.ref_ptr.0 a.0.ref_ptr.1 a.0.ghost_name a.0.now a.1.0 a.1.1.0 a.1.1.1.0 a.1.1.1.1.0 a.1.1.1.1.1.0 a.1.1.1.1.1.1.0 a.1.1.1.1.1.1.1.0 a.1.1.1.1.1.1.1.1.0 are.1.0 are.1.1.0 are.1.1.1.0 are.1.1.1.1.0 are.1.1.1.1.1.0 are.1.1.1.1.1.1.0 are.1.1.1.1.1.1.1.0 are.1.1.1.1.1.1.1.1.0 C Λ fm known))

  meets : {M : Type 1} {𝓤 : Ura M} (𝓛 : Logic 𝓤) (𝓣 : Tables 𝓤 𝓛.H) → Triple 𝓤 (𝓣.C key) (Callee 𝓛) → Meets 𝓛 signature (WpFn 𝓤 𝓛.H 𝓣.C 𝓣.Λ function) (closing 𝓛 ended (clauses 𝓛))
  meets {𝓤 = 𝓤} 𝓛 𝓣 known = walk_Meets 𝓛 ended stayed (Goes-ref 𝓛 1 0 tt (plain (λ _. state_row S)), (Goes-none 𝓛 1 (λ _. row_of A₁) yes (λ κs x f. refl), (Goes-none 𝓛 1 (λ _. row_of A₂) yes (λ κs x f. refl), (Goes-none 𝓛 1 (λ _. row_of A₃) yes (λ κs x f. refl), (Goes-none 𝓛 1 (λ _. row_of A₄) yes (λ κs x f. refl), (Goes-none 𝓛 1 (λ _. row_of A₅) yes (λ κs x f. refl), (Goes-none 𝓛 1 (λ _. row_of A₆) yes (λ κs x f. refl), (Goes-none 𝓛 1 (λ _. row_of A₇) yes (λ κs x f. refl), (Goes-none 𝓛 1 (λ _. row_of A₈) yes (λ κs x f. refl), tt))))))))) (clauses 𝓛) (WpFn 𝓤 𝓛.H 𝓣.C 𝓣.Λ function) (WpFn-mono 𝓤 𝓛.H 𝓛.laws 𝓣 function)
      (walks 𝓛 𝓣.C 𝓣.Λ (fm_of 𝓤 𝓛.H 𝓛.laws 𝓣) known)

  -- over the tables of the function's environment, from the callee's own theorem
  pub proved : {M : Type 1} {𝓤 : Ura M} (𝓛 : Logic 𝓤) (𝓜 : Model 𝓤 𝓛.H) (𝓡 : Running 𝓤 𝓛.H 𝓜) (env : Env) (self : Name) → Closed 𝓤 𝓛.H (tables 𝓤 𝓛.H 𝓜 𝓡 env).C (tables 𝓤 𝓛.H 𝓜 𝓡 env).Λ self function
      → (routine : Routine) → env key ≡ routine → Triple 𝓤 (𝓡.run routine) (Callee 𝓛) → Meets 𝓛 signature ((tables 𝓤 𝓛.H 𝓜 𝓡 env).C self) (closing 𝓛 ended (clauses 𝓛))
  unfolding tables_of
  proved {𝓤 = 𝓤} 𝓛 𝓜 𝓡 env self closed routine calls met =
      entered 𝓤 𝓛.H (triple_of 𝓛 signature (closing 𝓛 ended (clauses 𝓛))) (tables 𝓤 𝓛.H 𝓜 𝓡 env).C (tables 𝓤 𝓛.H 𝓜 𝓡 env).Λ self function closed
      (meets 𝓛 (tables_of 𝓤 𝓛.H 𝓜 (tables 𝓤 𝓛.H 𝓜 𝓡 env)) (cited 𝓤 𝓛.H (Callee 𝓛) 𝓜 𝓡 env key routine calls met))
