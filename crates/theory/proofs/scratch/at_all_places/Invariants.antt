use Rattle.std.proofs.Common.{◌≡◌}
use Rattle.theory_laws.specs.Start.{at_each_place}
use Rattle.theory.proofs.scratch.at_all_places.Given as goal

abbrev pub invariant-loop-q : goal.invariant-loop-q
invariant-loop-q l = l.all ≡ at_each_place l.conj l.q
