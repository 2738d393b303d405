use Rattle.theory.proofs.Following.{opened}
use Rattle.theory.proofs.entailment.open_to.Goals as goal

pub returns : goal.returns
returns c = opened c.args.protocol.now c.args.domains.now c.args.term c.full_mask.result c.left.result c.both.result c.full_mask.ensures c.left.ensures c.both.ensures
