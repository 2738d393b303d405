-- Marks as they are gathered, literal by literal.
use Rattle.std.specs.Prelude.{◌≡◌, ℕ, ◌<◌, List}
use Rattle.std.specs.List.{list_any}
use Rattle.cub_proto.specs.declared.literal.Lit.{Lit}
use Rattle.cub_proto.specs.Signature.{Signature}
use Rattle.cub_proto.specs.Truth.{has_bit}
use Rattle.theory_laws.specs.Kinds.{is_link}
use Rattle.subsume.specs.declared.marks.Gathering.{Gathering}
use Rattle.subsume.specs.Marks.{marks_global, marks_array, marks_member, marks_constructor, twice, is_bond}

-- the marks of single literals so far, and of two of a kind; the arrays of their memberships; whether two finite terms are
-- compared, or two integer terms
pub record IsGathered (sig : Signature) (lits : List Lit) (g : Gathering) : Type 0 where
  pub globals : (b : ℕ) → b < 64 → has_bit g.globals b ≡ list_any (marks_global sig b) lits
  pub arrays : (b : ℕ) → b < 64 → has_bit g.arrays b ≡ list_any (marks_array sig b) lits
  pub members : (b : ℕ) → b < 64 → has_bit g.members b ≡ twice (marks_member b) lits
  pub constructors : (b : ℕ) → b < 64 → has_bit g.constructors b ≡ list_any (marks_constructor b) lits
  pub pairs : (b : ℕ) → b < 64 → has_bit g.pairs b ≡ twice (marks_constructor b) lits
  pub cells : (b : ℕ) → b < 64 → has_bit g.cells b ≡ list_any (marks_member b) lits
  pub linked : g.linked ≡ list_any is_link lits
  pub bonded : g.bonded ≡ list_any is_bond lits
