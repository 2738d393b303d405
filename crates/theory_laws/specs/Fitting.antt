-- What is asked of a conjunction whose consistency is decided.
use Rattle.std.specs.Prelude.{ℕ, ◌+◌, ◌*◌, ◌≤◌, List, length, IsTrue}
use Rattle.std.specs.List.{list_all}
use Rattle.cub_proto.specs.declared.literal.Lit.{Lit}
use Rattle.cub_proto.specs.declared.protocol.Protocol.{Protocol}
use Rattle.cub_proto.specs.StateOf.{signature_of}
use Rattle.cub_proto.specs.Fits.{literal_fits, is_bounded}

-- the greatest width of a conjunction
abbrev pub greatest_width : ℕ
greatest_width = 11

-- the greatest size of a bound: all below 2 ^ 48
abbrev pub greatest_size : ℕ
greatest_size = 281474976710655

-- the literal fits the protocol and the width, and its bound is below 2 ^ 48 in size
pub record IsFitting (p : Protocol) (width : ℕ) (lit : Lit) : Type 0 where
  pub narrow : width ≤ 11
  pub fits : IsTrue (literal_fits (signature_of p) width lit)
  pub bounded : IsTrue (is_bounded greatest_size lit)

-- so does each literal of the list, at most 11 places wide
pub record AreFitting (p : Protocol) (width : ℕ) (lits : List Lit) : Type 0 where
  pub narrow : width ≤ 11
  pub fit : IsTrue (list_all (literal_fits (signature_of p) width) lits)
  pub bounded : IsTrue (list_all (is_bounded greatest_size) lits)

-- the numbers of a protocol's finite terms are below this one: globals, then 16 for each array
abbrev pub term_numbers : Protocol → ℕ
term_numbers p = 64 + 16 * length p.arrays
