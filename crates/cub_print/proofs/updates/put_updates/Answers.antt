use Rattle.cub_print.specs.Printed.{update_marks}
use Rattle.cub_print.proofs.Spelling.{spelled_next}
use Rattle.cub_print.proofs.updates.put_updates.Goals as goal

pub loop-update-preserved : goal.loop-update-preserved
loop-update-preserved c =
    spelled_next c.args.out.now (update_marks c.args.protocol.now c.args.params) c.args.updates.now c.loop-update.update-index c.update-item.result c.loop-update.invariant c.in_ok-put_update.ensures c.update-item.is c.loop-update-test.true
