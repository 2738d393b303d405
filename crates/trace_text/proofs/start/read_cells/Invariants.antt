use Rattle.trace_text.proofs.Looping.{IsReadCells}
use Rattle.trace_text.proofs.start.read_cells.Given as goal

abbrev pub invariant-loop-process : goal.invariant-loop-process
invariant-loop-process l = IsReadCells l.protocol l.fn.state l.state l.array l.process l.at l.rest l.line l.text
