use Rattle.std.proofs.Common.{take}
use Rattle.cub_cube.specs.Cover.{IsCovered}
use Rattle.log_steps.specs.Judged.{pick_cubes}
use Rattle.log_steps.proofs.judging.picks_cover.Given as goal

abbrev pub invariant-loop-pick : goal.invariant-loop-pick
invariant-loop-pick g l = record {
  made : g.S.MadeFor.made_for l.scratch l.protocol;
  none : IsCovered l.protocol (pick_cubes (take l.pick-index l.picks)) l.cube → ⊥;
}
