use Rattle.std.proofs.Common.{◌≡◌, ◌++◌, take, drop}
use Rattle.cub_proto.specs.Configuration.{cells_of}
use Rattle.replay.specs.Writes.{with_cells}
use Rattle.replay.proofs.effect.copy_cells.Given as goal

abbrev pub invariant-loop-process : goal.invariant-loop-process
invariant-loop-process l = l.to ≡ with_cells l.fn.to l.array (take l.process (cells_of l.from l.array) ++ drop l.process (cells_of l.fn.to l.array))
