use Rattle.cub_print.specs.Printed.{type_marks}
use Rattle.cub_print.proofs.Spelling.{spelled_next}
use Rattle.cub_print.proofs.printer.put_types.Goals as goal

pub loop-decl-preserved : goal.loop-decl-preserved
loop-decl-preserved c =
    spelled_next c.args.out.now (type_marks) c.args.decls.now c.loop-decl.decl-index c.decl-item.result c.loop-decl.invariant c.in_ok-put_type.ensures c.decl-item.is c.loop-decl-test.true
