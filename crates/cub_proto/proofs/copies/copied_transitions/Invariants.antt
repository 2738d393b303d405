use Rattle.std.proofs.Common.{◌≡◌, take}
use Rattle.cub_proto.proofs.copies.copied_transitions.Given as goal

abbrev pub invariant-loop-transition : goal.invariant-loop-transition
invariant-loop-transition l = l.copies ≡ take l.transition-index l.transitions
