use Rattle.std.proofs.Common.{take}
use Rattle.cub_proto.specs.StateOf.{signature_of}
use Rattle.subsume.specs.Gathering.{IsGathered}
use Rattle.subsume.proofs.marks.gather.Given as goal

abbrev pub invariant-loop-lit : goal.invariant-loop-lit
invariant-loop-lit l = IsGathered (signature_of l.protocol) (take l.lit-index l.lits) l.gathering
