use Rattle.std.proofs.Common.{take}
use Rattle.std.specs.Prelude.{All, Contains}
use Rattle.cub_cube.specs.Normal.{ordered}
use Rattle.cub_cube.specs.Rename.{renamed}
use Rattle.cube_form.proofs.forms.are_some.Given as goal

abbrev pub invariant-loop-lit : goal.invariant-loop-lit
invariant-loop-lit l = All (λ m. Contains l.others (ordered (renamed l.places m))) (take l.lit-index l.lits)
