use Rattle.std.proofs.Common.{◌++◌}
use Rattle.cub_print.specs.Terms.{literal_marks}
use Rattle.cub_print.specs.Printed.{and_marks}
use Rattle.cub_print.proofs.Spelling.{spelled_item}
use Rattle.cub_print.proofs.literals.put_further_literals.Goals as goal

pub loop-lit-preserved : goal.loop-lit-preserved
loop-lit-preserved c =
    spelled_item c.args.out.now (λ x. and_marks ++ literal_marks c.args.protocol.now c.args.params x) c.args.lits.now c.loop-lit.lit-index _
    c.loop-lit.invariant c.in_ok-put_next_literal.ensures c.loop-lit-test.true
