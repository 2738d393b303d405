use Rattle.std.proofs.Common.{refl, sym, ◌∙◌, codes}
use Rattle.text_lines.proofs.NumberLaws.{bytes_same}
use Rattle.trace_text.specs.Place.{Closing, Done}
use Rattle.trace_text.proofs.Refused.{differs}
use Rattle.trace_text.proofs.Steps.{goes_on, no_line, bad_line}
use Rattle.trace_text.proofs.reader.read_end.Goals as goal

pub returns-in_default-clause-err : goal.returns-in_default-clause-err
returns-in_default-clause-err c = λ p t. no_line p (Closing t) c.args.line c.args.text.now refl 5 refl c.in_default.ensures.none

pub returns-then-not-is_word-clause-err : goal.returns-then-not-is_word-clause-err
returns-then-not-is_word-clause-err c = λ p t.
    bad_line p (Closing t) c.args.line c.args.text.now refl 5 refl c.in-Some.cut.bytes.now c.in-Some.cut.rest.now c.in-Some.ensures.some
    (λ q k. differs c.in-Some.cut.bytes.now (codes "end") (sym c.is_word.ensures ∙ c.if-not-is_word.true) (sym k.0))

pub returns-clause-ok : goal.returns-clause-ok
returns-clause-ok c = λ p t.
    goes_on p (Closing t) c.args.line c.args.text.now c.in-Some.cut.bytes.now c.in-Some.cut.rest.now (Done t) c.in-Some.ensures.some
    (bytes_same c.in-Some.cut.bytes.now (codes "end") (sym c.is_word.ensures ∙ c.if-not-is_word.false), refl)
