-- What holds of each draft on the way: its literals fit its width, and its parameters are so many as the steps before say.
use Rattle.std.specs.Prelude.{◌≡◌, ℕ, ◌+◌, ◌<◌, ◌≤◌, ◌==◌, Bool, true, List, [], ◌∷◌, length, IsTrue, All}
use Rattle.std.specs.List.{list_all}
use Rattle.cub_proto.specs.declared.transition.Transition.{Transition}
use Rattle.cub_proto.specs.declared.protocol.Protocol.{Protocol}
use Rattle.cub_proto.specs.StateOf.{signature_of}
use Rattle.cub_proto.specs.Fits.{place_fits, literal_fits}
use Rattle.cub_cube.specs.declared.cube.Cube.{Cube}
use Rattle.piece_steps.specs.Steps.{Draft, Step, Param, Guard, Other, Branch, Fail, Choose, Late}

-- the number of places of parameters that are still to be chosen
abbrev pub params_in : List Step → ℕ
params_in [] = 0
params_in (Param ∷ steps) = params_in steps + 1
params_in (Guard ∷ steps) = params_in steps
params_in (Other q ∷ steps) = params_in steps
params_in (Branch i ∷ steps) = params_in steps
params_in (Fail i b ∷ steps) = params_in steps
params_in (Choose i ∷ steps) = params_in steps
params_in (Late j ∷ steps) = params_in steps

-- they come before all else
abbrev pub params_first : List Step → Bool
params_first [] = true
params_first (Param ∷ steps) = params_first steps
params_first (Guard ∷ steps) = params_in steps == 0
params_first (Other q ∷ steps) = params_in steps == 0
params_first (Branch i ∷ steps) = params_in steps == 0
params_first (Fail i b ∷ steps) = params_in steps == 0
params_first (Choose i ∷ steps) = params_in steps == 0
params_first (Late j ∷ steps) = params_in steps == 0

-- a draft with those steps to go
pub record DraftFits (p : Protocol) (c : Cube) (t : Transition) (steps : List Step) (d : Draft) : Type 0 where
  pub first : IsTrue (params_first steps)
  pub count : length d.params + params_in steps ≡ t.params
  pub below : All (λ q. q < d.inner) d.params
  pub within : d.inner ≤ d.width
  pub wide : c.width ≤ d.inner
  pub begins : 0 < params_in steps → (d.lits ≡ []) × (d.width ≡ d.inner)
  pub terms : All (λ e. IsTrue (place_fits c.width e.term)) d.choices
  pub fits : IsTrue (list_all (literal_fits (signature_of p) d.width) d.lits)
