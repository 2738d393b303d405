-- Labels while equalities are taken in, one literal at a time.
use Rattle.std.specs.Prelude.{◌≡◌, ℕ, Bool, true, not, ◌==◌, List, IsTrue}
use Rattle.std.specs.List.{list_all}
use Rattle.cub_proto.specs.declared.literal.PSide.{PSide}
use Rattle.cub_proto.specs.declared.literal.Lit.{Lit}
use Rattle.cub_proto.specs.declared.literal.Lit.TheVariants.{FinIn, FinEq, FinNe, ProcEq, ProcNe, Diff}
use Rattle.proc_eq.specs.Solution.{side_fits, Solves}
use Rattle.proc_eq.specs.Classes.{entry_of, AreLabels}

-- an equality is true of the processes; other literals are passed over
abbrev pub is_equality_true : (PSide → ℕ) → Lit → Bool
is_equality_true v (FinIn t mask) = true
is_equality_true v (FinEq a b) = true
is_equality_true v (FinNe a b) = true
is_equality_true v (ProcEq a b) = v a == v b
is_equality_true v (ProcNe a b) = true
is_equality_true v (Diff a b bound) = true

-- a disequality is true of the processes; other literals are passed over
abbrev pub is_disequality_true : (PSide → ℕ) → Lit → Bool
is_disequality_true v (FinIn t mask) = true
is_disequality_true v (FinEq a b) = true
is_disequality_true v (FinNe a b) = true
is_disequality_true v (ProcEq a b) = true
is_disequality_true v (ProcNe a b) = not (v a == v b)
is_disequality_true v (Diff a b bound) = true

-- the labels make the equalities true, and only sides that are forced to be one process share a label
pub record AreMerged (width : ℕ) (lits : List Lit) (labels : List ℕ) : Type 0 where
  pub tidy : AreLabels width labels
  pub equal : IsTrue (list_all (is_equality_true (entry_of labels)) lits)
  pub forced : (v : PSide → ℕ) → Solves width lits v → (a b : PSide) → IsTrue (side_fits 11 a) → IsTrue (side_fits 11 b)
      → entry_of labels a ≡ entry_of labels b → v a ≡ v b
