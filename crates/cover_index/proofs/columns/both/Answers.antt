use Rattle.fin_dom.proofs.Masks.{both_bits}
use Rattle.cover_index.proofs.columns.both.Goals as goal

pub returns : goal.returns
returns c k = both_bits c.args.a c.args.b k
