use Rattle.subsume.proofs.Bits.{either_bits}
use Rattle.cover_index.proofs.columns.either.Goals as goal

pub returns : goal.returns
returns c k = either_bits c.args.a c.args.b k
