use Rattle.std.proofs.Common.{◌≡◌, ◌++◌, take, ◌∷◌, []}
use Rattle.std.specs.Prelude.{flat_map}
use Rattle.cub_print.specs.Mark.{spelled, name}
use Rattle.cub_print.specs.Printed.{bar_marks}
use Rattle.cub_print.proofs.printer.put_further_constructors.Given as goal

abbrev pub invariant-loop-constructor : goal.invariant-loop-constructor
invariant-loop-constructor l = l.out ≡ l.initial.out ++ spelled (flat_map (λ c. bar_marks ++ name c ∷ []) (take l.constructor-index l.names))
