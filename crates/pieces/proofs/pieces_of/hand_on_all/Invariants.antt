use Rattle.std.proofs.Common.{◌≡◌}
use Rattle.cub_cube.specs.Mentions.{terms_in}
use Rattle.theory.specs.Made.{IsFor, IsKept}
use Rattle.piece_choices.specs.Pieces.{IsPossible}
use Rattle.piece_steps.specs.Steps.{first_draft}
use Rattle.pieces.specs.Handed.{Hands}
use Rattle.pieces.proofs.Gathering.{by_first}
use Rattle.pieces.proofs.pieces_of.hand_on_all.Given as goal

abbrev pub invariant-loop-number : goal.invariant-loop-number
invariant-loop-number g l = record {
  kept : IsKept l.fn.scratch l.scratch;
  made : IsFor l.protocol l.scratch;
  first : l.work ≡ first_draft l.cube.width (terms_in l.cube.lits);
  handed : Hands (IsPossible l.protocol) g.R.Receiver.takes (by_first l.protocol l.cube l.number) l.fn.receiver l.receiver;
}
