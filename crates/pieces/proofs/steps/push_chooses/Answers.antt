use Rattle.std.proofs.Common.{refl}
use Rattle.std.specs.Prelude.{map}
use Rattle.piece_steps.specs.Steps.{Choose}
use Rattle.pieces.specs.Jobs.{as_step}
use Rattle.pieces.proofs.StepLists.{one_pushed}
use Rattle.pieces.proofs.steps.push_chooses.Goals as goal

pub loop-i-preserved : goal.loop-i-preserved
loop-i-preserved c = one_pushed (λ i. Choose i) c.loop-i.steps.items c.push.new.self.items _ (map as_step c.args.steps.now.items) c.loop-i.i c.in_ok-push.ensures.items refl c.loop-i.invariant
