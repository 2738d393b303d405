use Rattle.std.proofs.Common.{◌≡◌, map}
use Rattle.std.specs.List.{range_with_len}
use Rattle.cube_form.specs.Name.{number_in}
use Rattle.cube_form.proofs.naming.turned.Given as goal

abbrev pub invariant-loop-place : goal.invariant-loop-place
invariant-loop-place l = l.back ≡ map (number_in l.places) (range_with_len 0 l.place)
