use Rattle.std.proofs.lemmas.Bool.{false≢true}
use Rattle.cert_check.specs.Injections.{cube_of}
use Rattle.cert_check.proofs.Owing.{none_named, named_at, at_named}
use Rattle.cert_check.proofs.naming.is_named.Goals as goal

pub returns-in-None-clause-taken : goal.returns-in-None-clause-taken
returns-in-None-clause-taken c = c.take.ensures.taken c.args.protocol.now c.args.cubes.now c.requires.come c.requires.owed

pub returns-in-None-clause-exact : goal.returns-in-None-clause-exact
returns-in-None-clause-exact c = (
  (λ h. absurd (false≢true h)),
  (λ named. absurd (none_named c.args.protocol.now c.args.cubes.now c.args.lines.now c.requires.rise c.args.key (cube_of c.args.width c.args.lits.now) c.in-None.ensures.line named)),
)

pub returns-in-Some-clause-taken : goal.returns-in-Some-clause-taken
returns-in-Some-clause-taken c = c.take.ensures.taken c.args.protocol.now c.args.cubes.now c.requires.come c.requires.owed

pub returns-in-Some-clause-exact : goal.returns-in-Some-clause-exact
returns-in-Some-clause-exact c =
    let found = c.in-Some.ensures.line in (
      (λ h. named_at c.args.protocol.now c.args.cubes.now c.args.lines.now c.requires.rise c.args.key (cube_of c.args.width c.args.lits.now) c.in-Some.at found.0 c.index-lines-at.result found.1 found.2 c.index-lines-at.is (c.line_covers.ensures.exact.0 h)),
      (λ named. c.line_covers.ensures.exact.1 (at_named c.args.protocol.now c.args.cubes.now c.args.lines.now c.requires.rise c.args.key (cube_of c.args.width c.args.lits.now) c.in-Some.at found.0 c.index-lines-at.result found.1 found.2 c.index-lines-at.is named)),
    )
