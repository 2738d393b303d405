use Rattle.std.specs.Prelude.{map}
use Rattle.piece_steps.specs.Steps.{way_steps}
use Rattle.pieces.specs.Jobs.{as_step}
use Rattle.pieces.proofs.StepLists.{lists_pushed}
use Rattle.pieces.proofs.steps.push_ways.Goals as goal

pub loop-i-preserved : goal.loop-i-preserved
loop-i-preserved c = lists_pushed (way_steps c.args.transition.now) c.args.terms.now _ c.loop-i.steps.items c.push_way.new.steps.items (map as_step c.args.steps.now.items) c.loop-i.i c.loop-i-test.true c.in_ok-push_way.ensures c.loop-i.invariant
