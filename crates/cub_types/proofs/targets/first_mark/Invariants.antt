use Rattle.std.proofs.Common.{◌≡◌, drop}
use Rattle.cub_types.specs.Writes.{first_mark}
use Rattle.cub_types.proofs.targets.first_mark.Given as goal

abbrev pub invariant-loop-node : goal.invariant-loop-node
invariant-loop-node l = first_mark (drop l.node-index l.nodes) l.last ≡ first_mark l.nodes l.last
