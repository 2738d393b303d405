use Rattle.std.proofs.Common.{◌≡◌, ◌++◌, take}
use Rattle.std.specs.Prelude.{map}
use Rattle.cub_proto.specs.StateOf.{signature_of}
use Rattle.cub_cube.specs.Replace.{replaced}
use Rattle.updates.specs.Chosen.{value_in}
use Rattle.pieces.proofs.whole.push_replaced.Given as goal

abbrev pub invariant-loop-lit : goal.invariant-loop-lit
invariant-loop-lit l = l.lits ≡ l.fn.lits ++ map (replaced (signature_of l.protocol) (value_in l.terms l.values)) (take l.lit-index l.more)
