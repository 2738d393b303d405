use Rattle.cub_print.specs.Printed.{array_marks}
use Rattle.cub_print.proofs.Spelling.{spelled_next}
use Rattle.cub_print.proofs.printer.put_arrays.Goals as goal

pub loop-decl-preserved : goal.loop-decl-preserved
loop-decl-preserved c =
    spelled_next c.args.out.now (array_marks c.args.protocol.now) c.args.decls.now c.loop-decl.decl-index c.decl-item.result c.loop-decl.invariant c.in_ok-put_array.ensures c.decl-item.is c.loop-decl-test.true
