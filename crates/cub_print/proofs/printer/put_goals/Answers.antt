use Rattle.cub_print.specs.Printed.{goal_marks}
use Rattle.cub_print.proofs.Spelling.{spelled_next}
use Rattle.cub_print.proofs.printer.put_goals.Goals as goal

pub loop-one-preserved : goal.loop-one-preserved
loop-one-preserved c =
    spelled_next c.args.out.now (goal_marks c.args.protocol.now) c.args.goals.now c.loop-one.one-index c.one-item.result c.loop-one.invariant c.in_ok-put_goal.ensures c.one-item.is c.loop-one-test.true
