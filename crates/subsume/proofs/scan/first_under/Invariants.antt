use Rattle.std.proofs.Common.{ℕ, ◌<◌, ◌≤◌}
use Rattle.cub_cube.specs.Cover.{DoesCover}
use Rattle.log_form.specs.Links.{cube_at}
use Rattle.theory.specs.Made.{IsFor}
use Rattle.subsume.proofs.scan.first_under.Given as goal

abbrev pub invariant-loop-number : goal.invariant-loop-number
invariant-loop-number l = record {
  made : IsFor l.protocol l.scratch;
  none : (j : ℕ) → l.start ≤ j → j < l.number → DoesCover l.protocol l.cube (cube_at l.cubes j) → ⊥;
}
