use Rattle.std.proofs.Common.{◌+◌, Ok, codes, refl, sym, ◌∙◌}
use Rattle.std.proofs.lemmas.Result.{err_from_is_err_and}
use Rattle.text_lines.proofs.NumberLaws.{bytes_same}
use Rattle.journal_text.specs.Place.{Ending, Done}
use Rattle.journal_text.proofs.Refused.{differs}
use Rattle.journal_text.proofs.Steps.{goes_on, no_line, bad_line, fault_from}
use Rattle.journal_text.proofs.head.read_end.Goals as goal

pub returns-in_default-clause-err : goal.returns-in_default-clause-err
returns-in_default-clause-err g c = λ p log. no_line g.M.PreImages.pieces p (Ending log) c.args.line c.args.text.now refl 5 refl c.in_default.ensures.none

pub returns-then-not-is_word-clause-err : goal.returns-then-not-is_word-clause-err
returns-then-not-is_word-clause-err g c = λ p log.
    bad_line g.M.PreImages.pieces p (Ending log) c.args.line c.args.text.now refl 5 refl c.in-Some.cut.bytes.now c.in-Some.cut.rest.now c.in-Some.ensures.some
    (λ q t. differs c.in-Some.cut.bytes.now (codes "end") (sym c.is_word.ensures ∙ c.if-not-is_word.true) (sym t.0))

pub returns-in_err-read_nothing-clause-err : goal.returns-in_err-read_nothing-clause-err
returns-in_err-read_nothing-clause-err g c =
    let e = err_from_is_err_and c.from_residual.result c.from_residual.ensures.1 in
    rw (e.1, e.2) (λ p log.
    fault_from g.M.PreImages.pieces p (Done log) (c.args.line + 1) c.in-Some.cut.rest.now (Ending log) c.args.line c.args.text.now c.in_err-read_nothing.field-0.0
    (goes_on g.M.PreImages.pieces p (Ending log) c.args.line c.args.text.now c.in-Some.cut.bytes.now c.in-Some.cut.rest.now (Done log) c.in-Some.ensures.some
    (bytes_same c.in-Some.cut.bytes.now (codes "end") (sym c.is_word.ensures ∙ c.if-not-is_word.false), refl))
    (c.in_err-read_nothing.ensures.err p log))

pub returns-clause-ok : goal.returns-clause-ok
returns-clause-ok g c = λ p log.
    goes_on g.M.PreImages.pieces p (Ending log) c.args.line c.args.text.now c.in-Some.cut.bytes.now c.in-Some.cut.rest.now (Done log) c.in-Some.ensures.some
    (bytes_same c.in-Some.cut.bytes.now (codes "end") (sym c.is_word.ensures ∙ c.if-not-is_word.false), refl) (Ok log) (c.in_ok-read_nothing.ensures.ok p log)
