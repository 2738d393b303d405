use Rattle.std.proofs.Common.{◌≡◌, List, length}
use Rattle.cub_cube.specs.declared.cube.Cube.{Cube}
use Rattle.log_form.specs.Numbering.{numbered}
use Rattle.log_steps.specs.Judged.{ArePicksSoFar}
use Rattle.log_steps.proofs.judging.judge_pieces.Given as goal

abbrev pub invariant-loop-picks : goal.invariant-loop-picks
invariant-loop-picks g l = record {
  made : g.S.MadeFor.made_for l.scratch l.protocol;
  serves : g.F.Finder.serves l.finder l.protocol;
  same : g.F.Finder.list l.finder ≡ g.F.Finder.list l.initial.finder;
  done : List Cube;
  given : g.S.Expands.given l.walk l.protocol l.cube done;
  count : l.number ≡ length done;
  so : ArePicksSoFar g.S.Decisions.chosen l.protocol (g.F.Finder.list l.initial.finder) (numbered done) l.picks l.ended;
}

abbrev pub decreases-loop-picks : goal.decreases-loop-picks
decreases-loop-picks g l = g.S.Expands.left l.walk
