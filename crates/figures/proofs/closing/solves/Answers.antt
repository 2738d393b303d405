use Rattle.theory.proofs.Parting.{fin_here}
use Rattle.figures.proofs.closing.solves.Goals as goal

pub solve-requires-clause-fit : goal.solve-requires-clause-fit
solve-requires-clause-fit c = fin_here c.args.protocol.now 11 c.args.lits.now c.args.scratch.now c.requires.size c.requires.fitting
