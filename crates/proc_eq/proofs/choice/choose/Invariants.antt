use Rattle.std.proofs.Common.{◌++◌}
use Rattle.proc_eq.specs.Chosen.{AreChosen}
use Rattle.proc_eq.proofs.choice.choose.Given as goal

abbrev pub invariant-loop-own : goal.invariant-loop-own
invariant-loop-own l = AreChosen l.labels l.processes (l.lits ++ l.more) l.own
