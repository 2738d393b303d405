use Rattle.trace_text.proofs.Looping.{IsReadGlobals}
use Rattle.trace_text.proofs.start.read_globals.Given as goal

abbrev pub invariant-loop-global : goal.invariant-loop-global
invariant-loop-global l = IsReadGlobals l.protocol l.fn.state l.state l.global l.at l.rest l.line l.text
