use Rattle.std.proofs.Common.{◌≡◌, drop}
use Rattle.cub_proto.specs.Fits.{targets_rise}
use Rattle.cub_proto.proofs.parts.targets_rise.Given as goal

abbrev pub invariant-loop-index : goal.invariant-loop-index
invariant-loop-index l = targets_rise (drop l.index l.updates) ≡ targets_rise l.updates
