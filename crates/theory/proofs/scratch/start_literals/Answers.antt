use Rattle.theory.proofs.Starts.{first_of}
use Rattle.theory.proofs.scratch.start_literals.Goals as goal

pub returns : goal.returns
returns c = first_of c.get.result c.args.protocol.now.start c.get.ensures.value
