use Rattle.std.proofs.Common.{◌-◌, ◌≡◌, ◌+◌, ◌<◌, ◌≤◌, ℕ}
use Rattle.std.specs.Prelude.{slice_index}
use Rattle.cub_cube.specs.Cover.{DoesCover}
use Rattle.log_form.specs.Links.{cube_at}
use Rattle.cover_index.specs.Counted.{RisesForCovers}
use Rattle.cover_index.specs.Asked.{IsAsked}
use Rattle.cover_index.proofs.above.some_among.Given as goal

abbrev pub invariant-loop-at : goal.invariant-loop-at
invariant-loop-at l = record {
  asked : IsAsked l.protocol l.cube l.own l.consistent l.scratch;
  order : l.from ≤ l.at;
  none : (j : ℕ) → l.from ≤ j → j < l.at → slice_index l.retired (l.base + j) ≡ 0 → DoesCover l.protocol (cube_at l.cubes j) l.cube → ⊥;
  tests : (new : ℕ) → RisesForCovers l.protocol l.cubes l.at l.upto l.cube l.scratch.tests new → RisesForCovers l.protocol l.cubes l.from l.upto l.cube l.initial.scratch.tests new;
}

abbrev pub decreases-loop-at : goal.decreases-loop-at
decreases-loop-at l = l.upto - l.at
