use Rattle.theory.proofs.Parting.{diff_here}
use Rattle.figures.proofs.closing.closes.Goals as goal

pub close-requires-clause-terms : goal.close-requires-clause-terms
close-requires-clause-terms c = diff_here c.args.protocol.now 11 c.args.lits.now c.args.scratch.now.room c.requires.room c.requires.fitting
