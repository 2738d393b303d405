-- Cubes with numbers: the pieces of a cube by their place in the list, the consistent goals by their number among all.
use Rattle.std.specs.Prelude.{ℕ, List, map}
use Rattle.cub_base.specs.Numbered.{map_from}
use Rattle.cub_proto.specs.declared.protocol.Protocol.{Protocol}
use Rattle.cub_cube.specs.declared.cube.Cube.{Cube}
use Rattle.cub_cube.specs.Goals.{goal_cube}
use Rattle.cub_cube.specs.Meaning.{IsConsistent}
use Rattle.cub_cube.specs.Kept.{Keeps}
use Rattle.log_form.specs.declared.numbered.Numbered.{Numbered}

abbrev pub with_number : ℕ → Cube → Numbered
with_number n c = record { number = n; cube = c }

-- each cube with its place in the list
abbrev pub numbered : List Cube → List Numbered
numbered cubes = map_from with_number 0 cubes

-- the consistent goals in order, each with its number among all goals
abbrev pub AreRoots : Protocol → List Numbered → Type 0
AreRoots p roots = Keeps (λ r. IsConsistent p r.cube.width r.cube.lits) (numbered (map (goal_cube p) p.goals)) roots
