-- What is shown of every public function of the port, over the very claims that its source makes: `pre` and `post` are the plain readings of
-- its `requires` and `ensures`, functions of the lifetimes, the arguments, the result and the parameters as the function returns.
-- A crate's proofs/Promises.antt has one such record for each of its public functions.
use Rattle.std.specs.Prelude.{◌≡◌}
use Rattle.std.proofs.Common.{◌∙◌, sym}

-- `seen` is what a caller can see of a result and of the memory that it lent. Nothing is asked of the caller, and whatever two outcomes satisfy
-- the promise for the same arguments, the caller sees the same.
pub record Promise
    {K W : Type 0}
    {A R S : K → Type 0}
    (pre : (κs : K) → A κs → Type 0)
    (post : (κs : K) → A κs → R κs → S κs → Type 0)
    (seen : (κs : K) → R κs → S κs → W)
    : Type 0 where
  pub asks_nothing : (κs : K) (a : A κs) → pre κs a
  pub one_outcome : (κs : K) (a : A κs) (r r' : R κs) (s s' : S κs) → post κs a r s → post κs a r' s' → seen κs r s ≡ seen κs r' s'

-- Where the promise gives what is seen as a value of the arguments, there is one outcome.
pub by_value :
    {K W : Type 0}
    {A R S : K → Type 0}
    {pre : (κs : K) → A κs → Type 0}
    {post : (κs : K) → A κs → R κs → S κs → Type 0}
    {seen : (κs : K) → R κs → S κs → W}
    (value : (κs : K) → A κs → W)
    → ((κs : K) (a : A κs) → pre κs a)
    → ((κs : K) (a : A κs) (r : R κs) (s : S κs) → post κs a r s → seen κs r s ≡ value κs a)
    → Promise pre post seen
by_value value total given =
    record {
      asks_nothing = total;
      one_outcome = λ κs a r r' s s' p p'. given κs a r s p ∙ sym (given κs a r' s' p');
    }

-- Where the promise gives the document's number and values for the result, and no two results have the same, there is one outcome.
pub by_code :
    {K W C : Type 0}
    {A R S : K → Type 0}
    {pre : (κs : K) → A κs → Type 0}
    {post : (κs : K) → A κs → R κs → S κs → Type 0}
    {seen : (κs : K) → R κs → S κs → W}
    (code : W → C)
    → ((x y : W) → code x ≡ code y → x ≡ y)
    → (value : (κs : K) → A κs → C)
    → ((κs : K) (a : A κs) → pre κs a)
    → ((κs : K) (a : A κs) (r : R κs) (s : S κs) → post κs a r s → code (seen κs r s) ≡ value κs a)
    → Promise pre post seen
by_code code one_to_one value total given =
    record {
      asks_nothing = total;
      one_outcome = λ κs a r r' s s' p p'. one_to_one _ _ (given κs a r s p ∙ sym (given κs a r' s' p'));
    }
