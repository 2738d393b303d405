use Rattle.std.proofs.Common.{◌≡◌, ◌*◌, ◌-◌, length}
use Rattle.theory.specs.Made.{IsFor, IsKept}
use Rattle.piece_choices.specs.Pieces.{IsPossible}
use Rattle.pieces.specs.Handed.{Hands}
use Rattle.pieces.proofs.Walking.{so_far}
use Rattle.pieces.proofs.walk.+walk.Given as goal

abbrev pub decreases-attempt : goal.decreases-attempt
decreases-attempt g l = 3 * (length l.job.now.steps - l.at) - 1

abbrev pub decreases-walk : goal.decreases-walk
decreases-walk g l = 3 * (length l.job.now.steps - l.at)

abbrev pub invariant-walk-loop-k : goal.invariant-walk-loop-k
invariant-walk-loop-k g l = record {
  kept : IsKept l.fn.scratch l.scratch;
  made : IsFor l.job.protocol l.scratch;
  same : l.work ≡ l.fn.work;
  handed : Hands (IsPossible l.job.protocol) g.R.Receiver.takes (so_far l.job l.next l.fn.work l.k) l.fn.receiver l.receiver;
}
