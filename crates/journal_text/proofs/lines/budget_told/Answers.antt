use Rattle.std.proofs.Common.{◌≡◌, ◌≤◌, sym, ◌∙◌, subst, ℕ}
use Rattle.journal_text.proofs.Refused.{budget_numbers, within_limits}
use Rattle.journal_text.proofs.lines.budget_told.Goals as goal

pub returns-then-cubes-lt1-clause-none : goal.returns-then-cubes-lt1-clause-none
returns-then-cubes-lt1-clause-none c = λ b is.
    let same : b.cubes ≡ c.number_told-cubes.result = sym (c.number_told-cubes.ensures ∙ (budget_numbers c.args.line.now b is).0) in
    within_limits 1 65536 c.number_told-cubes.result (subst (λ (n : ℕ). 1 ≤ n) same b.some_cubes) (subst (λ (n : ℕ). n ≤ 65536) same b.few_cubes) c.then-cubes-lt1.either

pub returns-then-width-lt1-clause-none : goal.returns-then-width-lt1-clause-none
returns-then-width-lt1-clause-none c = λ b is.
    let same : b.width ≡ c.number_told-width.result = sym (c.number_told-width.ensures ∙ (budget_numbers c.args.line.now b is).1) in
    within_limits 1 8 c.number_told-width.result (subst (λ (n : ℕ). 1 ≤ n) same b.some_width) (subst (λ (n : ℕ). n ≤ 8) same b.narrow) c.then-width-lt1.either
