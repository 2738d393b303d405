use Rattle.std.proofs.Common.{◌≡◌, take}
use Rattle.cub_proto.proofs.state.copied_arrays.Given as goal

abbrev pub invariant-loop-cells : goal.invariant-loop-cells
invariant-loop-cells l = l.copies.items ≡ take l.cells-index l.arrays
