use Rattle.std.proofs.Common.{refl, sym, ◌∙◌}
use Rattle.text_lines.proofs.NumberLaws.{bytes_same}
use Rattle.journal_text.specs.Text.{version_text}
use Rattle.journal_text.specs.Place.{Version, BudgetLine}
use Rattle.journal_text.proofs.Refused.{differs}
use Rattle.journal_text.proofs.Steps.{goes_on, no_line, bad_line}
use Rattle.journal_text.proofs.head.read_version.Goals as goal

pub returns-in_default-clause-err : goal.returns-in_default-clause-err
returns-in_default-clause-err g c = λ p full. no_line g.M.PreImages.pieces p (Version full) 2 c.args.text.now refl 1 refl c.in_default.ensures.none

pub returns-then-not-is_word-clause-err : goal.returns-then-not-is_word-clause-err
returns-then-not-is_word-clause-err g c = λ p full.
    bad_line g.M.PreImages.pieces p (Version full) 2 c.args.text.now refl 1 refl c.in-Some.cut.bytes.now c.in-Some.cut.rest.now c.in-Some.ensures.some
    (λ q t. differs c.in-Some.cut.bytes.now version_text (sym c.is_word.ensures ∙ c.if-not-is_word.true) (sym t.0))

pub returns-clause-ok : goal.returns-clause-ok
returns-clause-ok g c = λ p full.
    goes_on g.M.PreImages.pieces p (Version full) 2 c.args.text.now c.in-Some.cut.bytes.now c.in-Some.cut.rest.now (BudgetLine full) c.in-Some.ensures.some
    (bytes_same c.in-Some.cut.bytes.now version_text (sym c.is_word.ensures ∙ c.if-not-is_word.false), refl)
