use Rattle.std.proofs.Common.{◌≡◌, ◌++◌, take}
use Rattle.std.specs.Prelude.{flat_map}
use Rattle.cub_print.specs.Mark.{spelled}
use Rattle.cub_print.specs.Printed.{conjunction_marks, or_marks}
use Rattle.cub_print.proofs.literals.put_further_conjunctions.Given as goal

abbrev pub invariant-loop-lits : goal.invariant-loop-lits
invariant-loop-lits l = l.out ≡ l.initial.out ++ spelled (flat_map (λ c. or_marks ++ conjunction_marks l.protocol l.params c) (take l.lits-index l.conjs))
