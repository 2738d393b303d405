-- The table is the closure of the constraints below k.
use Rattle.std.proofs.Common.{◌≡◌, take}
use Rattle.diff_core.specs.Table.{IsClosureOf}
use Rattle.diff_core.proofs.closure.Closure.take_all.Given as goal

abbrev pub invariant-loop-k : goal.invariant-loop-k
invariant-loop-k g l = record {
  nodes : l.self.nodes ≡ l.fn.self.nodes;
  closure : IsClosureOf (take l.k (g.C.Constraints.list l.constraints)) l.self;
}
