use Rattle.theory_laws.proofs.Starting.{starts_are_consistent, consistent_starts}
use Rattle.cert_check.proofs.Owing.{expandable_fitting}
use Rattle.cert_check.proofs.starts.meets_start.Goals as goal

pub with_start-requires-clause-fitting : goal.with_start-requires-clause-fitting
with_start-requires-clause-fitting c = expandable_fitting c.args.protocol.now c.args.cube.now c.requires.fit

pub returns-clause-exact : goal.returns-clause-exact
returns-clause-exact c =
    let fitting = expandable_fitting c.args.protocol.now c.args.cube.now c.requires.fit in (
      (λ h. consistent_starts c.args.protocol.now c.args.cube.now.width c.args.cube.now.lits fitting (c.with_start.ensures.exact.0 h)),
      (λ meets. c.with_start.ensures.exact.1 (starts_are_consistent c.args.protocol.now c.args.cube.now.width c.args.cube.now.lits fitting meets)),
    )
