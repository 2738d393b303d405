use Rattle.std.proofs.Common.{◌≡◌, ◌<◌, ◌≤◌, ◌-◌, ℕ}
use Rattle.std.specs.Prelude.{slice_index}
use Rattle.cub_cube.specs.Cover.{DoesCover}
use Rattle.log_form.specs.Links.{cube_at}
use Rattle.cover_index.specs.Asked.{IsAsked}
use Rattle.cover_index.specs.Noted.{IsNoted, RisesForOthers}
use Rattle.cover_index.proofs.list_above.other_with_cover.Given as goal

abbrev pub invariant-loop-at : goal.invariant-loop-at
invariant-loop-at l = record {
  asked : IsAsked l.protocol l.cube l.own l.consistent l.scratch;
  within : l.at ≤ l.upto;
  none : (j : ℕ) → j < l.at → (IsNoted l.recent j → ⊥) → slice_index l.retired j ≡ 0 → DoesCover l.protocol (cube_at l.store.cubes j) l.cube → ⊥;
  tests : RisesForOthers l.protocol l.store.cubes l.recent 0 l.at l.cube l.initial.scratch.tests l.scratch.tests;
}

abbrev pub decreases-loop-at : goal.decreases-loop-at
decreases-loop-at l = l.upto - l.at
