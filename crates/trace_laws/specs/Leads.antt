-- What the steps along a chain do from a state that meets its first cube.
use Rattle.std.specs.Prelude.{◌≡◌, ℕ, ◌+◌, List, [], ◌∷◌, Option, Some, None, option_map, slice_get, IsTrue}
use Rattle.std.specs.List.{list_all}
use Rattle.std.specs.Option.{option_or}
use Rattle.cub_proto.specs.declared.event.Event.{Event}
use Rattle.cub_proto.specs.declared.event.Plain.{Plain}
use Rattle.cub_proto.specs.declared.protocol.Protocol.{Protocol}
use Rattle.cub_proto.specs.Configuration.{Configuration}
use Rattle.cub_proto.specs.Legal.{AreLegal, after_all}
use Rattle.cub_proto.specs.Meets.{Satisfies}
use Rattle.replay.specs.declared.fault.StepFault.TheVariants.{Other}
use Rattle.replay.specs.Fault.{fault_at}
use Rattle.replay.specs.Machine.{MakesUnsafe}
use Rattle.trace_judge.specs.Plain.{is_step}
use Rattle.trace_laws.specs.declared.chain.Link.{Link}
use Rattle.trace_laws.specs.Blocked.{blocked, freed, with_crashes}

-- the step and the first process at which a step is first blocked, where the first of the steps has that number
abbrev pub first_blocked : Protocol → Configuration → List Event → ℕ → Option Plain
first_blocked p s [] number = None
first_blocked p s (e ∷ es) number =
    option_or (option_map (λ i. record { step = number; process = i }) (slice_get (blocked p s e) 0)) (first_blocked p (after_all p s (freed p s e)) es (number + 1))

-- each step is legal once the processes that block it have crashed, and has no other fault before
abbrev pub AreFree : Protocol → Configuration → List Event → Type 0
AreFree p s [] = Unit {0}
AreFree p s (e ∷ es) =
    AreLegal p s (freed p s e) × ((i : ℕ) → slice_get (blocked p s e) 0 ≡ Some i → fault_at p s e ≡ Some (Other i)) × AreFree p (after_all p s (freed p s e)) es

-- the steps are firings, each free in its turn, and the named processes make the named unsafe conjunction true at their end
pub record LeadsTo (p : Protocol) (s : Configuration) (steps : List Event) (goal : ℕ) (places : List ℕ) : Type 0 where
  pub firings : IsTrue (list_all is_step steps)
  pub free : AreFree p s steps
  pub ends : MakesUnsafe p (after_all p s (with_crashes p s steps)) goal places

-- the processes satisfy the first cube
abbrev pub SatisfyFirst : Configuration → List Link → List ℕ → Type 0
SatisfyFirst s [] processes = ⊥
SatisfyFirst s (link ∷ chain) processes = Satisfies s processes link.cube.width link.cube.lits
