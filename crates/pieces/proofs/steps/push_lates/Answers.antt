use Rattle.std.proofs.Common.{refl}
use Rattle.std.specs.Prelude.{map}
use Rattle.piece_steps.specs.Steps.{Late}
use Rattle.pieces.specs.Jobs.{as_step}
use Rattle.pieces.proofs.StepLists.{one_pushed}
use Rattle.pieces.proofs.steps.push_lates.Goals as goal

pub loop-j-preserved : goal.loop-j-preserved
loop-j-preserved c = one_pushed (λ j. Late j) c.loop-j.steps.items c.push.new.self.items _ (map as_step c.args.steps.now.items) c.loop-j.j c.in_ok-push.ensures.items refl c.loop-j.invariant
