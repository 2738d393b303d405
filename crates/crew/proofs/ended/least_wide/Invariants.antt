use Rattle.crew.specs.Ends.{NoneWide}
use Rattle.crew.proofs.ended.least_wide.Given as goal

abbrev pub invariant-loop-number : goal.invariant-loop-number
invariant-loop-number l = NoneWide l.budget l.nodes l.number
