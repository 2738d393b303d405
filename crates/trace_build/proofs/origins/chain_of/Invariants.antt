use Rattle.trace_build.proofs.OriginLemmas.{Grows}
use Rattle.trace_build.proofs.origins.chain_of.Given as goal

abbrev pub invariant-loop-at : goal.invariant-loop-at
invariant-loop-at l = Grows l.nodes l.number l.at l.chain

abbrev pub decreases-loop-at : goal.decreases-loop-at
decreases-loop-at l = l.at
