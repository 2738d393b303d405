use Rattle.std.proofs.Common.{refl, sym, ◌∙◌, codes}
use Rattle.text_lines.proofs.NumberLaws.{bytes_same}
use Rattle.cert_text.specs.Place.{Heading, Version}
use Rattle.cert_text.proofs.Refused.{differs}
use Rattle.cert_text.proofs.Steps.{goes_on, no_line, bad_line}
use Rattle.cert_text.proofs.reader.read_heading.Goals as goal

pub returns-in_default-clause-err : goal.returns-in_default-clause-err
returns-in_default-clause-err c = λ p. no_line p Heading 1 c.args.text.now refl 1 refl c.in_default.ensures.none

pub returns-then-not-is_word-clause-err : goal.returns-then-not-is_word-clause-err
returns-then-not-is_word-clause-err c = λ p.
    bad_line p Heading 1 c.args.text.now refl 1 refl c.in-Some.cut.bytes.now c.in-Some.cut.rest.now c.in-Some.ensures.some
    (λ q k. differs c.in-Some.cut.bytes.now (codes "SAFE") (sym c.is_word.ensures ∙ c.if-not-is_word.true) (sym k.0))

pub returns-clause-ok : goal.returns-clause-ok
returns-clause-ok c = λ p.
    goes_on p Heading 1 c.args.text.now c.in-Some.cut.bytes.now c.in-Some.cut.rest.now Version c.in-Some.ensures.some
    (bytes_same c.in-Some.cut.bytes.now (codes "SAFE") (sym c.is_word.ensures ∙ c.if-not-is_word.false), refl)
