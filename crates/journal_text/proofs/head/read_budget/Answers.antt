use Rattle.std.proofs.Common.{[], None, refl}
use Rattle.std.proofs.lemmas.Result.{err_from_is_err_and}
use Rattle.log_form.specs.Log.{no_log}
use Rattle.journal_text.specs.Place.{BudgetLine, Adding}
use Rattle.journal_text.proofs.ReadyLaws.{no_memory}
use Rattle.journal_text.proofs.Steps.{goes_on, no_line, bad_line}
use Rattle.journal_text.proofs.head.read_budget.Goals as goal

pub returns-in_default-clause-err : goal.returns-in_default-clause-err
returns-in_default-clause-err g c = λ p full. no_line g.M.PreImages.pieces p (BudgetLine full) 3 c.args.text.now refl 1 refl c.in_default.ensures.none

pub returns-in_err-budget-clause-err : goal.returns-in_err-budget-clause-err
returns-in_err-budget-clause-err g c =
    let e = err_from_is_err_and c.from_residual.result c.from_residual.ensures.1 in
    rw (e.1, e.2) (λ p full. no_memory g.M.PreImages.pieces p (BudgetLine full) 3 c.args.text.now c.in_err-budget.field-0.0 c.in_err-budget.ensures.err)

pub returns-in_default-2-clause-err : goal.returns-in_default-2-clause-err
returns-in_default-2-clause-err g c = λ p full.
    bad_line g.M.PreImages.pieces p (BudgetLine full) 3 c.args.text.now refl 1 refl c.in-Some.cut.bytes.now c.in-Some.cut.rest.now c.in-Some.ensures.some
    (λ q t. (rw c.in_default-2.is at c.in_ok-budget.ensures.none) t.0 t.1)

pub returns-clause-ok : goal.returns-clause-ok
returns-clause-ok g c = λ p full.
    goes_on g.M.PreImages.pieces p (BudgetLine full) 3 c.args.text.now c.in-Some.cut.bytes.now c.in-Some.cut.rest.now (Adding full (no_log p c.in-Some-2.budget) None [])
    c.in-Some.ensures.some (c.in-Some-2.budget, rw c.in-Some-2.is at c.in_ok-budget.ensures.found, refl)
