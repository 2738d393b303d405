use Rattle.std.proofs.Common.{refl}
use Rattle.journal_text.specs.Place.{Heading, Version}
use Rattle.journal_text.proofs.Steps.{goes_on, no_line, bad_line}
use Rattle.journal_text.proofs.head.read_heading.Goals as goal

pub returns-in_default-clause-err : goal.returns-in_default-clause-err
returns-in_default-clause-err g c = λ p. no_line g.M.PreImages.pieces p Heading 1 c.args.text.now refl 1 refl c.in_default.ensures.none

pub returns-in_default-heading_of-clause-err : goal.returns-in_default-heading_of-clause-err
returns-in_default-heading_of-clause-err g c = λ p.
    bad_line g.M.PreImages.pieces p Heading 1 c.args.text.now refl 1 refl c.in-Some.cut.bytes.now c.in-Some.cut.rest.now c.in-Some.ensures.some
    (λ q t. c.in_default-heading_of.ensures.none t.0 t.1)

pub returns-clause-ok : goal.returns-clause-ok
returns-clause-ok g c = λ p.
    goes_on g.M.PreImages.pieces p Heading 1 c.args.text.now c.in-Some.cut.bytes.now c.in-Some.cut.rest.now (Version c.in-Some-heading_of.full) c.in-Some.ensures.some
    (c.in-Some-heading_of.full, c.in-Some-heading_of.ensures.found, refl)
