use Rattle.cub_print.specs.Printed.{transition_marks}
use Rattle.cub_print.proofs.Spelling.{spelled_next}
use Rattle.cub_print.proofs.printer.put_transitions.Goals as goal

pub loop-transition-preserved : goal.loop-transition-preserved
loop-transition-preserved c =
    spelled_next c.args.out.now (transition_marks c.args.protocol.now) c.args.transitions.now c.loop-transition.transition-index c.transition-item.result c.loop-transition.invariant c.in_ok-put_transition.ensures c.transition-item.is c.loop-transition-test.true
