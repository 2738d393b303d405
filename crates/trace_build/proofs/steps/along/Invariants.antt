use Rattle.std.proofs.Common.{◌≡◌, take}
use Rattle.cub_cube.specs.Rename.{along}
use Rattle.trace_build.proofs.steps.along.Given as goal

abbrev pub invariant-loop-place : goal.invariant-loop-place
invariant-loop-place l = l.list ≡ along (take l.place-index l.places) l.processes
