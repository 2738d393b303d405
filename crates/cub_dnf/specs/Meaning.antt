-- The truth of a formula at a state with a process for each place.
use Rattle.std.specs.Prelude.{ℕ, ◌-ℤ◌, Bool, not, List}
use Rattle.std.specs.List.{list_all, list_any}
use Rattle.std.specs.Ordering.{int_eq}
use Rattle.cub_proto.specs.Configuration.{Configuration}
use Rattle.cub_proto.specs.Truth.{is_true, integer_at}
use Rattle.cub_dnf.specs.declared.formula.Formula.{Formula}
use Rattle.cub_dnf.specs.declared.formula.Formula.TheOpen.{Formula-F}
use Rattle.cub_dnf.specs.declared.formula.Formula.TheFolds.{fold-Formula}

-- one formula, with the truth of its parts in their places
abbrev pub truth_step : Configuration → List ℕ → Formula-F Bool → Bool
truth_step s places (Formula-F.Const value) = value
truth_step s places (Formula-F.One lit) = is_true s places lit
truth_step s places (Formula-F.IntEq a b bound) = int_eq (integer_at s places a -ℤ integer_at s places b) bound
truth_step s places (Formula-F.Not part) = not part
truth_step s places (Formula-F.All parts) = list_all (λ part. part) parts
truth_step s places (Formula-F.Any parts) = list_any (λ part. part) parts

abbrev pub formula_is_true : Configuration → List ℕ → Formula → Bool
formula_is_true s places = fold-Formula Bool (truth_step s places)
