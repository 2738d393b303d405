-- When a state satisfies a conjunction of some width, and when a protocol is safe.
use Rattle.std.specs.Prelude.{◌≡◌, ℕ, List, length, IsTrue, Contains}
use Rattle.cub_proto.specs.declared.literal.Lit.{Lit}
use Rattle.cub_proto.specs.declared.event.Event.{Event}
use Rattle.cub_proto.specs.declared.protocol.Goal.{Goal}
use Rattle.cub_proto.specs.declared.protocol.Protocol.{Protocol}
use Rattle.cub_proto.specs.Configuration.{Configuration}
use Rattle.cub_proto.specs.Truth.{all_true}
use Rattle.cub_proto.specs.Legal.{AreDistinctAlive, IsRun, after_all}

-- distinct alive processes, one for each place, make every literal true
pub record Satisfies (s : Configuration) (places : List ℕ) (width : ℕ) (lits : List Lit) : Type 0 where
  pub one_each : length places ≡ width
  pub processes : AreDistinctAlive s places
  pub holds : IsTrue (all_true s places lits)

-- some processes of the state satisfy the conjunction
abbrev pub Meets : Configuration → ℕ → List Lit → Type 0
Meets s width lits = (places : List ℕ) × Satisfies s places width lits

-- the state meets an unsafe conjunction
abbrev pub IsUnsafe : Protocol → Configuration → Type 0
IsUnsafe p s = (goal : Goal) × Contains p.goals goal × Meets s goal.width goal.lits

-- no run ends in an unsafe state
abbrev pub IsSafe : Protocol → Type 0
IsSafe p = (s : Configuration) (events : List Event) → IsRun p s events → IsUnsafe p (after_all p s events) → ⊥
