use Rattle.cube_core.specs.Waiting.{NoneOpenBefore}
use Rattle.cube_core.proofs.waiting.least_open.Given as goal

abbrev pub invariant-loop-number : goal.invariant-loop-number
invariant-loop-number l = NoneOpenBefore l.budget l.nodes l.number
