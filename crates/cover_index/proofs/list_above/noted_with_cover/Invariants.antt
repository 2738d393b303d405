use Rattle.std.proofs.Common.{◌≡◌, ◌<◌, ℕ, length}
use Rattle.std.specs.Prelude.{slice_index}
use Rattle.cub_cube.specs.Cover.{DoesCover}
use Rattle.log_form.specs.Links.{cube_at}
use Rattle.subsume.specs.Summary.{IsCandidate}
use Rattle.cover_index.specs.Counted.{RisesFor}
use Rattle.cover_index.specs.Asked.{IsAsked}
use Rattle.cover_index.proofs.Grouped.{IsAmong}
use Rattle.cover_index.proofs.list_above.noted_with_cover.Given as goal

-- no live cube of the groups before this one covers, and their candidates alone were tested
abbrev pub invariant-loop-group : goal.invariant-loop-group
invariant-loop-group l = record {
  asked : IsAsked l.protocol l.cube l.own l.consistent l.scratch;
  none : (j : ℕ) → j < length l.store.cubes → IsAmong l.group-items l.group-index j → slice_index l.retired j ≡ 0 → DoesCover l.protocol (cube_at l.store.cubes j) l.cube → ⊥;
  tests : RisesFor (λ j. IsCandidate l.protocol (cube_at l.store.cubes j) l.cube × IsAmong l.group-items l.group-index j) 0 (length l.store.cubes) l.initial.scratch.tests l.scratch.tests;
}
