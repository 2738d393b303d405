-- The value of a scratch: for how many terms it has room, the terms that it has numbered, the table of their
-- differences, and the cycle that was found last.
use Rattle.std.specs.Prelude.{◌≡◌, ℕ, ◌+◌, List, length, map, All}
use Rattle.std.specs.List.{IsDistinct}
use Rattle.cub_proto.specs.declared.literal.Term.{Term}
use Rattle.cub_proto.specs.declared.literal.Lit.{Lit}
use Rattle.diff_core.specs.Closing.{Closing}
use Rattle.diff_core.specs.Table.{IsClosureOf as IsTableOf}
use Rattle.diff_close.specs.Literals.{MentionsOnly}
use Rattle.diff_close.specs.Names.{term_eq, constraint_of}

pub record Scratch : Type 0 where
  pub room : ℕ
  pub names : List Term
  pub closing : Closing

-- the scratch has closed these literals
pub record IsClosureOf (lits : List Lit) (s : Scratch) : Type 0 where
  pub named : All (MentionsOnly s.names) lits
  pub distinct : IsDistinct term_eq s.names
  pub nodes : s.closing.table.nodes ≡ length s.names + 1
  pub table : IsTableOf (map (constraint_of s.names) lits) s.closing.table

-- it has closed some literals
abbrev pub IsClosed : Scratch → Type 0
IsClosed s = (lits : List Lit) × IsClosureOf lits s
