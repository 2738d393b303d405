use Rattle.std.proofs.Common.{◌≡◌, ◌++◌, take, drop}
use Rattle.cub_proto.specs.Configuration.{cells_of}
use Rattle.replay.specs.Writes.{with_cells, new_cells}
use Rattle.replay.proofs.effect.write_cells.Given as goal

abbrev pub invariant-loop-process : goal.invariant-loop-process
invariant-loop-process l = l.next ≡ with_cells l.fn.next l.array (take l.process (new_cells l.state l.params l.update l.array) ++ drop l.process (cells_of l.fn.next l.array))
