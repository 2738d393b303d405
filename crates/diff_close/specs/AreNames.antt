-- A list of terms that are numbered: each once, and each among those that literals mention.
use Rattle.std.specs.Prelude.{List, All, Contains}
use Rattle.std.specs.List.{IsDistinct}
use Rattle.cub_proto.specs.declared.literal.Term.{Term}
use Rattle.diff_close.specs.Names.{term_eq}

pub record AreNames (all names : List Term) : Type 0 where
  pub distinct : IsDistinct term_eq names
  pub among : All (Contains all) names
