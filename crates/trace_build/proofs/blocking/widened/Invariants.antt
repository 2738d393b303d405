use Rattle.std.proofs.Common.{◌≡◌, take}
use Rattle.trace_build.proofs.blocking.widened.Given as goal

abbrev pub invariant-loop-param : goal.invariant-loop-param
invariant-loop-param l = l.places.items ≡ take l.param-index l.params
