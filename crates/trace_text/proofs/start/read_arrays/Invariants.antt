use Rattle.trace_text.proofs.Looping.{IsReadArrays}
use Rattle.trace_text.proofs.start.read_arrays.Given as goal

abbrev pub invariant-loop-array : goal.invariant-loop-array
invariant-loop-array l = IsReadArrays l.protocol l.fn.state l.state l.array l.at l.rest l.line l.text
