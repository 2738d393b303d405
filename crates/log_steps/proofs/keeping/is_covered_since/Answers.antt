use Rattle.std.proofs.Common.{refl}
use Rattle.log_steps.proofs.KeepLemmas.{none_since, some_since}
use Rattle.log_steps.proofs.keeping.is_covered_since.Goals as goal

pub returns-in-Some-clause-value : goal.returns-in-Some-clause-value
returns-in-Some-clause-value g c = (
  λ t. some_since c.args.protocol.now (g.F.Finder.list c.args.finder.now) c.args.seen c.args.cube.now c.in-Some._link c.in-Some.ensures.first,
  λ h. refl,
)

pub returns-in-None-clause-value : goal.returns-in-None-clause-value
returns-in-None-clause-value g c = (
  λ t. cc,
  λ h. absurd (none_since c.args.protocol.now (g.F.Finder.list c.args.finder.now) c.args.seen c.args.cube.now c.in-None.ensures.first h),
)
