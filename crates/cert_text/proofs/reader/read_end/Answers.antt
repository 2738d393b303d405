use Rattle.std.proofs.Common.{refl, inr, Some, sym, ◌∙◌, codes}
use Rattle.std.proofs.lemmas.Bool.{cond-false}
use Rattle.text_lines.specs.Line.{line_at}
use Rattle.text_lines.proofs.NumberLaws.{bytes_same}
use Rattle.cert_text.specs.Cover.{begins_cover}
use Rattle.cert_text.specs.Place.{Covers, Done, certificate_of, cover_line_kind}
use Rattle.cert_text.proofs.Refused.{differs}
use Rattle.cert_text.proofs.Steps.{goes_on, no_line, bad_line}
use Rattle.cert_text.proofs.Stuck.{no_end_stands}
use Rattle.cert_text.proofs.reader.read_end.Goals as goal

pub returns-in_default-clause-err : goal.returns-in_default-clause-err
returns-in_default-clause-err c = λ p cubes lines.
    no_line p (Covers cubes lines) c.args.line c.args.text.now refl 6
    (cond-false (begins_cover c.args.text.now) (cover_line_kind lines (line_at c.args.text.now)) 6 c.requires) c.in_default.ensures.none

pub returns-then-not-is_word-clause-err : goal.returns-then-not-is_word-clause-err
returns-then-not-is_word-clause-err c = λ p cubes lines.
    bad_line p (Covers cubes lines) c.args.line c.args.text.now refl 6
    (cond-false (begins_cover c.args.text.now) (cover_line_kind lines (line_at c.args.text.now)) 6 c.requires) c.in-Some.cut.bytes.now c.in-Some.cut.rest.now
    c.in-Some.ensures.some
    (no_end_stands p cubes lines c.args.text.now c.in-Some.cut.bytes.now c.in-Some.cut.rest.now c.in-Some.ensures.some c.requires
    (λ is. differs c.in-Some.cut.bytes.now (codes "end") (sym c.is_word.ensures ∙ c.if-not-is_word.true) (sym is)))

pub returns-clause-ok : goal.returns-clause-ok
returns-clause-ok c = λ p cubes lines.
    goes_on p (Covers cubes lines) c.args.line c.args.text.now c.in-Some.cut.bytes.now c.in-Some.cut.rest.now (Done (certificate_of cubes (Some lines))) c.in-Some.ensures.some
    (inr (bytes_same c.in-Some.cut.bytes.now (codes "end") (sym c.is_word.ensures ∙ c.if-not-is_word.false), refl))
