use Rattle.std.proofs.Common.{◌≡◌, map}
use Rattle.std.specs.List.{range_with_len}
use Rattle.std.specs.Prelude.{slice_index}
use Rattle.trace_laws.specs.Standing.{position}
use Rattle.trace_build.proofs.standing.standing.Given as goal

abbrev pub invariant-loop-q : goal.invariant-loop-q
invariant-loop-q l = l.list.items ≡ map (λ q. slice_index l.processes (position l.places q)) (range_with_len 0 l.q)
