-- What every scratch keeps: room for its terms without more memory, and no term with two numbers.
use Rattle.std.specs.Prelude.{ℕ, ◌≤◌, List, length}
use Rattle.std.specs.List.{IsDistinct}
use Rattle.cub_proto.specs.declared.literal.Term.{Term}
use Rattle.diff_close.specs.Names.{term_eq}

pub record IsScratch (room capacity : ℕ) (names : List Term) : Type 0 where
  pub few : room ≤ 104
  pub enough : room ≤ capacity
  pub distinct : IsDistinct term_eq names
  pub within : length names ≤ room
