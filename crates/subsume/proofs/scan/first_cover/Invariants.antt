use Rattle.std.proofs.Common.{ℕ, ◌<◌, ◌≤◌}
use Rattle.cub_cube.specs.Cover.{DoesCover}
use Rattle.log_form.specs.Links.{cube_at}
use Rattle.subsume.specs.Ready.{IsReady}
use Rattle.subsume.proofs.scan.first_cover.Given as goal

abbrev pub invariant-loop-i : goal.invariant-loop-i
invariant-loop-i l = record {
  ready : IsReady l.protocol l.cube l.consistent l.scratch;
  none : (j : ℕ) → l.start ≤ j → j < l.i → DoesCover l.protocol (cube_at l.cubes j) l.cube → ⊥;
}
