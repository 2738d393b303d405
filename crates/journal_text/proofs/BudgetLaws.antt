-- A budget is told by its line.
use Rattle.std.proofs.Common.{◌≡◌, ℕ, ◌≤◌, sym, ap, subst, ◌∙◌}
use Rattle.std.proofs.Math.Bridge.{le_prop}
use Rattle.cub_proto.specs.declared.budget.Budget.{Budget}
use Rattle.journal_text.specs.Text.{budget_text}
use Rattle.journal_text.specs.Told.{number_told}
use Rattle.journal_text.proofs.ToldLaws.{cubes_told, width_told}

-- budgets of equal numbers are equal
abbrev pub IsWithin : ℕ → ℕ → Type 0
IsWithin cubes width = (1 ≤ cubes) × (cubes ≤ 65536) × (1 ≤ width) × (width ≤ 8)

abbrev pub budget_of : (cubes width : ℕ) → IsWithin cubes width → Budget
budget_of cubes width h = record { cubes = cubes; width = width; some_cubes = h.0; few_cubes = h.1; some_width = h.2; narrow = h.3 }

one_within : (cubes width : ℕ) (h k : IsWithin cubes width) → h ≡ k
one_within cubes width h k = λ i. (le_prop h.0 k.0 i, le_prop h.1 k.1 i, le_prop h.2 k.2 i, le_prop h.3 k.3 i)

pub same_numbers : (cubes width : ℕ) (h : IsWithin cubes width) (more wider : ℕ) (k : IsWithin more wider) → cubes ≡ more → width ≡ wider → budget_of cubes width h ≡ budget_of more wider k
same_numbers cubes width h more wider k c w =
    subst (λ (x : ℕ). (g : IsWithin x wider) → budget_of cubes width h ≡ budget_of x wider g) c
    (subst (λ (y : ℕ). (g : IsWithin cubes y) → budget_of cubes width h ≡ budget_of cubes y g) w (λ g. ap (budget_of cubes width) (one_within cubes width h g))) k

pub same_budget : (a b : Budget) → budget_text a ≡ budget_text b → a ≡ b
same_budget a b h =
    same_numbers a.cubes a.width (a.some_cubes, a.few_cubes, a.some_width, a.narrow) b.cubes b.width (b.some_cubes, b.few_cubes, b.some_width, b.narrow)
    (sym (cubes_told a) ∙ ap (number_told 1) h ∙ cubes_told b) (sym (width_told a) ∙ ap (number_told 2) h ∙ width_told b)
