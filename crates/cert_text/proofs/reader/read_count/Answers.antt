use Rattle.std.proofs.Common.{refl, [], ap}
use Rattle.cert_text.specs.Place.{Count, behind_cubes}
use Rattle.cert_text.proofs.Steps.{goes_on, no_line, bad_line}
use Rattle.cert_text.proofs.reader.read_count.Goals as goal

pub returns-in_default-clause-err : goal.returns-in_default-clause-err
returns-in_default-clause-err c = λ p two. no_line p (Count two) 3 c.args.text.now refl 2 refl c.in_default.ensures.none

pub returns-in_default-digits_of-clause-err : goal.returns-in_default-digits_of-clause-err
returns-in_default-digits_of-clause-err c = λ p two.
    bad_line p (Count two) 3 c.args.text.now refl 2 refl c.in-Some.cut.bytes.now c.in-Some.cut.rest.now c.in-Some.ensures.some
    (λ q t. c.in_default-digits_of.ensures.none t.0 t.1 t.2)

pub returns-clause-ok : goal.returns-clause-ok
returns-clause-ok c = λ p two.
    goes_on p (Count two) 3 c.args.text.now c.in-Some.cut.bytes.now c.in-Some.cut.rest.now (behind_cubes two c.number.result []) c.in-Some.ensures.some
    (c.in-Some-digits_of.digits.now, c.in-Some-digits_of.ensures.found.0, c.in-Some-digits_of.ensures.found.1, ap (λ o. behind_cubes two o []) c.number.ensures)
