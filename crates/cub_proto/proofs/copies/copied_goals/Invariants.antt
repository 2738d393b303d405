use Rattle.std.proofs.Common.{◌≡◌, take}
use Rattle.cub_proto.proofs.copies.copied_goals.Given as goal

abbrev pub invariant-loop-one : goal.invariant-loop-one
invariant-loop-one l = l.copies ≡ take l.one-index l.goals
