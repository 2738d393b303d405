use Rattle.std.proofs.Common.{◌≡◌, List, length}
use Rattle.std.specs.Prelude.{All}
use Rattle.cub_cube.specs.declared.cube.Cube.{Cube}
use Rattle.log_form.specs.Numbering.{numbered}
use Rattle.log_form.specs.Pieces.{IsAskable}
use Rattle.log_steps.proofs.walking.pieces_of.Given as goal

abbrev pub invariant-loop-list : goal.invariant-loop-list
invariant-loop-list g l = record {
  made : g.S.MadeFor.made_for l.scratch l.protocol;
  done : List Cube;
  given : g.S.Expands.given l.walk l.protocol l.cube done;
  count : l.number ≡ length done;
  is : l.list ≡ numbered done;
  fit : All (λ x. IsAskable l.protocol x.cube) l.list;
}

abbrev pub decreases-loop-list : goal.decreases-loop-list
decreases-loop-list g l = g.S.Expands.left l.walk
