use Rattle.std.proofs.Common.{refl}
use Rattle.std.specs.Prelude.{map}
use Rattle.piece_steps.specs.Steps.{Fail}
use Rattle.pieces.specs.Jobs.{as_step}
use Rattle.pieces.proofs.StepLists.{one_pushed}
use Rattle.pieces.proofs.steps.push_fails.Goals as goal

pub loop-b-preserved : goal.loop-b-preserved
loop-b-preserved c = one_pushed (Fail c.args.i) c.loop-b.steps.items c.push.new.self.items _ (map as_step c.args.steps.now.items) c.loop-b.b c.in_ok-push.ensures.items refl c.loop-b.invariant
