-- A scratch whose tables hold a consistent conjunction.
use Rattle.std.specs.Prelude.{◌≡◌, ℕ, ℤ, List, length}
use Rattle.cub_proto.specs.declared.literal.Term.{Term}
use Rattle.cub_proto.specs.declared.literal.ISide.TheVariants.{At}
use Rattle.cub_proto.specs.declared.literal.Lit.{Lit}
use Rattle.cub_proto.specs.declared.protocol.Protocol.{Protocol}
use Rattle.cub_proto.specs.StateOf.{signature_of}
use Rattle.fin_dom.specs.Gathered.{AreGathered}
use Rattle.fin_dom.specs.Solution.{IsLeastSolution}
use Rattle.fin_dom.specs.Table.{con_of}
use Rattle.proc_eq.specs.Classes.{Classes, entry_of, IsClosureOf as IsClassesOf}
use Rattle.proc_eq.specs.Choice.{IsLeastChoice}
use Rattle.diff_close.specs.Literals.{IsChosen}
use Rattle.diff_close.specs.Scratch.{Scratch, IsClosureOf as IsIntegersOf}
use Rattle.theory_laws.specs.Built.{Values}
use Rattle.theory_laws.specs.Fitting.{AreFitting, term_numbers}
use Rattle.theory_laws.specs.Solved.{PartsHaveSolutions}
use Rattle.theory.specs.Theory.{Theory}

-- each part of the literals has a solution; the tables hold what memberships leave to each term, the classes of
-- processes, and the least bounds of differences
pub record IsLoaded (p : Protocol) (width : ℕ) (lits : List Lit) (t : Theory) : Type 0 where
  pub fitting : AreFitting p width lits
  pub parts : PartsHaveSolutions p width lits
  pub gathered : AreGathered (signature_of p) lits t.domains
  pub places : t.classes.width ≡ width
  pub merged : IsClassesOf lits t.classes
  pub closed : IsIntegersOf lits t.integers

-- the tables hold the least constructors, the chosen processes and the least bounds of differences
pub record IsSolved (p : Protocol) (width : ℕ) (lits : List Lit) (masks : List ℕ) (classes : Classes) (integers : Scratch) : Type 0 where
  pub least : IsLeastSolution (signature_of p) lits (con_of masks)
  pub chosen : IsLeastChoice width lits (entry_of classes.processes)
  pub closed : IsIntegersOf lits integers

-- these numbers are the chosen integers of the literals that a table holds
pub record AreChosen (w : Term → ℤ) (integers : Scratch) : Type 0 where
  pub lits : List Lit
  pub closed : IsIntegersOf lits integers
  pub each : (t : Term) → IsChosen lits (At t) (w t)

-- the values that the tables give, with these integers
abbrev pub table_values : List ℕ → Classes → (Term → ℤ) → Values
table_values masks classes w = record { constructor = con_of masks; process = entry_of classes.processes; integer = w }

-- what the finite part of a loaded conjunction needs: tables of the protocol's size, one of which holds what memberships
-- leave to each term
pub record IsGathered (p : Protocol) (width : ℕ) (lits : List Lit) (domains masks : List ℕ) : Type 0 where
  pub fitting : AreFitting p width lits
  pub parts : PartsHaveSolutions p width lits
  pub gathered : AreGathered (signature_of p) lits domains
  pub domain_count : length domains ≡ term_numbers p
  pub mask_count : length masks ≡ term_numbers p
