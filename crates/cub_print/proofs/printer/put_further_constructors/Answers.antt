use Rattle.std.proofs.Common.{◌++◌, ◌∷◌, []}
use Rattle.cub_print.specs.Mark.{name}
use Rattle.cub_print.specs.Printed.{bar_marks}
use Rattle.cub_print.proofs.Spelling.{spelled_next}
use Rattle.cub_print.proofs.printer.put_further_constructors.Goals as goal

pub loop-constructor-preserved : goal.loop-constructor-preserved
loop-constructor-preserved c =
    spelled_next c.args.out.now (λ c. bar_marks ++ name c ∷ []) c.args.names.now c.loop-constructor.constructor-index c.constructor-item.result c.loop-constructor.invariant c.in_ok-put_next_constructor.ensures c.constructor-item.is c.loop-constructor-test.true
