use Rattle.std.proofs.Common.{◌++◌}
use Rattle.cub_print.specs.Printed.{conjunction_marks, or_marks}
use Rattle.cub_print.proofs.Spelling.{spelled_next}
use Rattle.cub_print.proofs.literals.put_further_conjunctions.Goals as goal

pub loop-lits-preserved : goal.loop-lits-preserved
loop-lits-preserved c =
    spelled_next c.args.out.now (λ x. or_marks ++ conjunction_marks c.args.protocol.now c.args.params x) c.args.conjs.now c.loop-lits.lits-index c.lits-item.result c.loop-lits.invariant c.in_ok-put_next_conjunction.ensures c.lits-item.is c.loop-lits-test.true
