use Rattle.theory.specs.Made.{IsFor, IsKept}
use Rattle.trace_build.proofs.WalkLemmas.{Walks}
use Rattle.trace_build.proofs.walking.walk.Given as goal

abbrev pub invariant-loop-at : goal.invariant-loop-at
invariant-loop-at l = record {
  kept : IsKept l.fn.scratch l.scratch;
  made : IsFor l.protocol l.scratch;
  walks : Walks l.protocol l.state l.chain l.at l.processes.items l.steps;
}
