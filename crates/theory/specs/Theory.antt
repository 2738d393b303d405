-- What a scratch holds: the start literals at the places, a count, and the tables of the three closures.
use Rattle.std.specs.Prelude.{ℕ, Bool, List}
use Rattle.cub_proto.specs.declared.literal.Lit.{Lit}
use Rattle.proc_eq.specs.Classes.{Classes}
use Rattle.diff_close.specs.Scratch.{Scratch}

pub record Theory : Type 0 where
  pub has_start : Bool
  pub each : ℕ
  pub start : List Lit
  pub tests : ℕ
  pub domains : List ℕ
  pub masks : List ℕ
  pub classes : Classes
  pub trial : Classes
  pub integers : Scratch
