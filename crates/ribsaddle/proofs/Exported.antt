-- What is shown of an exported function, over the very clauses of its source: it has no `requires`, its `ensures` is the one fact `post`, and of `post` there is one outcome (`Rattle.common.specs.Promise`).
-- It is shown of the clauses themselves and of no plain reading of them: that they say this is an equation here.
use Rattle.std.specs.Prelude.{◌≡◌}
use seplogic.Ra.Ura.{Ura}
use base.Logic.{SProp, emp}
use prog.Memory.{Memory}
use prog.Routine.{Routine}
use types.Logic.{Logic}
use contract.Lifetimes.{Lfts}
use contract.Monad.{Fun, fact}
use denote.Triple.Clauses.{Ended, AtExit, Clauses}
use denote.Triple.Entry.{Args, Res}
use Rattle.common.specs.Promise.{Promise}

-- `seen` is what a caller can see: the answer, and all memory lent to be written.
pub record Exported
    (T : Ended)
    (clauses : (M : Type 1) (𝓤 : Ura M) (𝓛 : Logic 𝓤) → (Memory → SProp 𝓤) → (Routine → Fun 𝓤) → Clauses 𝓤 T)
    {W : Type 0}
    (seen : (κs : Lfts T.signature.lifetimes) → Res T.signature κs → AtExit T κs → W)
    : Type 2 where
  pub post : (κs : Lfts T.signature.lifetimes) → Args T.signature κs → Res T.signature κs → AtExit T κs → Type 0
  pub asks_nothing :
      (M : Type 1) (𝓤 : Ura M) (𝓛 : Logic 𝓤) (mem : Memory → SProp 𝓤) (run : Routine → Fun 𝓤)
      (κs : Lfts T.signature.lifetimes) (a : Args T.signature κs) (g : (clauses M 𝓤 𝓛 mem run κs a).ghost)
      → (clauses M 𝓤 𝓛 mem run κs a).requires g ≡ emp 𝓤
  pub says :
      (M : Type 1) (𝓤 : Ura M) (𝓛 : Logic 𝓤) (mem : Memory → SProp 𝓤) (run : Routine → Fun 𝓤)
      (κs : Lfts T.signature.lifetimes) (a : Args T.signature κs) (g : (clauses M 𝓤 𝓛 mem run κs a).ghost) (r : Res T.signature κs) (e : AtExit T κs)
      → (clauses M 𝓤 𝓛 mem run κs a).ensures g r e ≡ fact 𝓤 (post κs a r e)
  pub promise : Promise (λ (κs : Lfts T.signature.lifetimes) (a : Args T.signature κs). Unit {0}) post seen
