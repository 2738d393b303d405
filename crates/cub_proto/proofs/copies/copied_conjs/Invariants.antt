use Rattle.std.proofs.Common.{◌≡◌, take}
use Rattle.cub_proto.proofs.copies.copied_conjs.Given as goal

abbrev pub invariant-loop-lits : goal.invariant-loop-lits
invariant-loop-lits l = l.copies ≡ take l.lits-index l.conjs
