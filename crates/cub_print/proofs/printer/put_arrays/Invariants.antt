use Rattle.std.proofs.Common.{◌≡◌, ◌++◌, take}
use Rattle.std.specs.Prelude.{flat_map}
use Rattle.cub_print.specs.Mark.{spelled}
use Rattle.cub_print.specs.Printed.{array_marks}
use Rattle.cub_print.proofs.printer.put_arrays.Given as goal

abbrev pub invariant-loop-decl : goal.invariant-loop-decl
invariant-loop-decl l = l.out ≡ l.initial.out ++ spelled (flat_map (array_marks l.protocol) (take l.decl-index l.decls))
