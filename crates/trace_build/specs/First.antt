-- The first link of a chain.
use Rattle.std.specs.Prelude.{ℕ, List, [], ◌∷◌}
use Rattle.cub_proto.specs.declared.protocol.Protocol.{Protocol}
use Rattle.cub_proto.specs.Configuration.{Configuration}
use Rattle.cub_cube.specs.declared.cube.Cube.{Cube}
use Rattle.theory_laws.specs.Built.{own_places}
use Rattle.theory_laws.specs.Chosen.{IsChosenState}
use Rattle.theory_laws.specs.Start.{start_width, with_start_literals}
use Rattle.trace_laws.specs.declared.chain.Link.{Link}

-- the state is the chosen start state of the cube
abbrev pub IsChosenStart : Protocol → Cube → Configuration → Type 0
IsChosenStart p c s = IsChosenState p (start_width c.width) (with_start_literals p c.width c.lits) s

-- the state is the chosen start state of the first cube
abbrev pub IsChosenFirst : Protocol → List Link → Configuration → Type 0
IsChosenFirst p [] s = ⊥
IsChosenFirst p (link ∷ chain) s = IsChosenStart p link.cube s

-- the processes at the places of the first cube: those with the numbers of the places
abbrev pub first_places : List Link → List ℕ
first_places [] = []
first_places (link ∷ chain) = own_places link.cube.width
