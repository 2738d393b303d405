use Rattle.theory_laws.proofs.Starting.{starts_are_consistent, consistent_starts}
use Rattle.start_check.proofs.start.meets_start.Goals as goal

pub returns-clause-exact : goal.returns-clause-exact
returns-clause-exact c = (
  (λ h. consistent_starts c.args.protocol.now c.args.cube.now.width c.args.cube.now.lits c.requires.fitting (c.with_start.ensures.exact.0 h)),
  (λ meets. c.with_start.ensures.exact.1 (starts_are_consistent c.args.protocol.now c.args.cube.now.width c.args.cube.now.lits c.requires.fitting meets)),
)
