use Rattle.std.proofs.Common.{◌≡◌, ◌++◌, take}
use Rattle.std.specs.Prelude.{flat_map}
use Rattle.cub_print.specs.Mark.{spelled}
use Rattle.cub_print.specs.Terms.{literal_marks}
use Rattle.cub_print.specs.Printed.{and_marks}
use Rattle.cub_print.proofs.literals.put_further_literals.Given as goal

abbrev pub invariant-loop-lit : goal.invariant-loop-lit
invariant-loop-lit l = l.out ≡ l.initial.out ++ spelled (flat_map (λ x. and_marks ++ literal_marks l.protocol l.params x) (take l.lit-index l.lits))
