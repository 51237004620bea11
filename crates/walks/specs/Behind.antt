-- What the walks of this folder (`Mut*.antt`, `Part*.antt`, `Ref*.antt`) are over: a plain argument, a state, and a result that holds an answer and the next state.
--     Arg          a built-in type that owns only facts, with its machine value as a function of the value.        row_of     its row, which at `uint w32` is `u32` by computation
--     State        a declared struct of plain data, with the laws that its generated module has
--     Out S Ans    a declared struct of an answer and a state, in that order
-- Assumes nothing.
use Rattle.std.specs.Prelude.{◌≡◌, ℕ, Bool, List, [], ◌∷◌, T as Holds, Float}
use Rattle.std.proofs.Math.Dec.{eqb_refl}
use Rattle.std.specs.Float.Ieee as Ieee
use Rattle.std.specs.Float.{Format}
use mir.Syntax.{Sym, Ty, Width, ty_int, ty_bool, ty_float}
use mir.ValLaws.{eq_f_refl}
use mir.Val.{Val, vint, vbool, vfloat, vstruct, vnil, vcons, WT, has_ty, bytes}
use Rattle.std.specs.Borrow.{Fml, RattleType}
use Rattle.std.specs.Coded.{Coded, coded_ℕ, coded_bool}
use denote.RattleType.{RowLaws}
use denote.Shadow.{shadow, Pure}
use denote.Laws.{Is}
use denote.Plain.{plain_type, plain_row_laws, UInt, Boolean, uint_Tells, bool_Tells}
use denote.Floats.{FloatOf, float_Tells, passes}
use denote.Struct.Struct.{Plains, Struct, layout}
use denote.Struct.Declared.{Declared, fields, row, shape}
use denote.Struct.Members.{Member}
use denote.Struct.Laws as LL

pub record Arg : Type 2 where
  pub X : Type 0
  pub coded : Coded X
  pub ty : Ty
  pub own : X → List Val → Fml
  pub pure : (x : X) (vs : List Val) → Pure (own x vs)
  pub val : X → Val
  pub tells : (x : X) (vs : List Val) → shadow (own x vs) → vs ≡ val x ∷ []
  pub typed : (x : X) → shadow (own x (val x ∷ [])) → Holds (has_ty ty (val x)) × WT (val x)

abbrev pub row_of : Arg → RattleType
row_of a = plain_type a.X a.coded (a.ty ∷ []) a.own a.pure

-- a `&` to such a value can be had twice
pub row_laws : (a : Arg) → RowLaws (row_of a)
row_laws a = plain_row_laws a.X a.coded (a.ty ∷ []) a.own a.pure

abbrev pub uint : Width → Arg
uint w = record { X = ℕ; coded = coded_ℕ; ty = ty_int w; own = (UInt w).own_val; pure = λ x vs. (tt, tt); val = vint w; tells = uint_Tells w; typed = λ n p. (eqb_refl (bytes w), record { fits = p.1 }) }

abbrev pub float : Format → Arg
float f = record { X = Float; coded = (FloatOf f).coded; ty = ty_float f; own = (FloatOf f).own_val; pure = λ x vs. (tt, tt); val = vfloat f; tells = float_Tells f; typed = λ x p. (eq_f_refl f, passes (Ieee.fits f x) p.1) }

abbrev pub boolean : Arg
boolean = record { X = Bool; coded = coded_bool; ty = ty_bool; own = Boolean.own_val; pure = λ x vs. tt; val = vbool; tells = bool_Tells; typed = λ x p. (tt, tt) }

pub record State : Type 2 where
  pub T : Declared
  pub L : LL.Laws T
  pub copy : LL.Copyables T.parts
  pub plain : Plains (fields T)

abbrev pub state_row : State → RattleType
state_row S = row S.T

-- a field of that type
abbrev pub state_member : State → Member
state_member S = record { row = Struct (shape S.T); ty = layout (shape S.T) }

pub record Out (S : State) (Ans : Arg) : Type 2 where
  pub row : RattleType
  pub name : Sym
  pub ans : row.Denot → Ans.X
  pub st : row.Denot → S.T.D
  pub tells : (r : row.Denot) (vs : List Val) → Is row r vs → vs ≡ vstruct (vcons (Ans.val (ans r)) (vcons (LL.val S.T S.L (st r)) vnil)) ∷ []
  pub ans_is : (r : row.Denot) (vs : List Val) → Is row r vs → Is (row_of Ans) (ans r) (Ans.val (ans r) ∷ [])
  pub st_is : (r : row.Denot) (vs : List Val) → Is row r vs → Is (state_row S) (st r) (LL.vals S.T S.L (st r))
