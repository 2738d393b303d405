use Rattle.std.proofs.Common.{refl}
use Rattle.cert_text.specs.Place.{Version, Count}
use Rattle.cert_text.proofs.Steps.{goes_on, no_line, bad_line}
use Rattle.cert_text.proofs.reader.read_version.Goals as goal

pub returns-in_default-clause-err : goal.returns-in_default-clause-err
returns-in_default-clause-err c = λ p. no_line p Version 2 c.args.text.now refl 1 refl c.in_default.ensures.none

pub returns-in_default-version_of-clause-err : goal.returns-in_default-version_of-clause-err
returns-in_default-version_of-clause-err c = λ p.
    bad_line p Version 2 c.args.text.now refl 1 refl c.in-Some.cut.bytes.now c.in-Some.cut.rest.now c.in-Some.ensures.some
    (λ q t. c.in_default-version_of.ensures.none t.0 t.1)

pub returns-clause-ok : goal.returns-clause-ok
returns-clause-ok c = λ p.
    goes_on p Version 2 c.args.text.now c.in-Some.cut.bytes.now c.in-Some.cut.rest.now (Count c.in-Some-version_of.two) c.in-Some.ensures.some
    (c.in-Some-version_of.two, c.in-Some-version_of.ensures.found, refl)
