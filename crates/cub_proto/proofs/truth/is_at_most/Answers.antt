use Rattle.std.proofs.Common.{arith}
use Rattle.std.proofs.lemmas.Int.{ints}
use Rattle.cub_proto.proofs.truth.is_at_most.Goals as goal

pub returns : goal.returns
returns c = grind (arith, ints)
