use Rattle.std.proofs.Common.{refl}
use Rattle.std.specs.Prelude.{map}
use Rattle.piece_steps.specs.Steps.{Other}
use Rattle.pieces.specs.Jobs.{as_step}
use Rattle.pieces.proofs.StepLists.{one_pushed}
use Rattle.pieces.proofs.steps.push_others.Goals as goal

pub loop-q-preserved : goal.loop-q-preserved
loop-q-preserved c = one_pushed (λ q. Other q) c.loop-q.steps.items c.push.new.self.items _ (map as_step c.args.steps.now.items) c.loop-q.q c.in_ok-push.ensures.items refl c.loop-q.invariant
