use Rattle.cub_print.specs.Printed.{branch_marks}
use Rattle.cub_print.proofs.Spelling.{spelled_next}
use Rattle.cub_print.proofs.updates.put_branches.Goals as goal

pub loop-branch-preserved : goal.loop-branch-preserved
loop-branch-preserved c =
    spelled_next c.args.out.now (branch_marks c.args.protocol.now c.args.params c.args.target) c.args.branches.now c.loop-branch.branch-index c.branch-item.result c.loop-branch.invariant c.in_ok-put_branch.ensures c.branch-item.is c.loop-branch-test.true
