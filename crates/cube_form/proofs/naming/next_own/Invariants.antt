use Rattle.std.proofs.Common.{◌≡◌, drop}
use Rattle.std.specs.List.{filter}
use Rattle.cube_form.specs.Name.{is_own}
use Rattle.cube_form.proofs.naming.next_own.Given as goal

abbrev pub invariant-loop-at : goal.invariant-loop-at
invariant-loop-at l = filter (is_own l.place) (drop l.at l.lits) ≡ filter (is_own l.place) l.lits
