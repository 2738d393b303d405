-- What a scratch holds: the classes of sides that are forced to be one process.
use Rattle.std.specs.Prelude.{◌≡◌, ℕ, ◌+◌, ◌<◌, ◌≤◌, List, length, slice_index, IsTrue}
use Rattle.cub_proto.specs.declared.literal.PSide.{PSide}
use Rattle.cub_proto.specs.declared.literal.PSide.TheVariants.{Global, Place}
use Rattle.cub_proto.specs.declared.literal.Lit.{Lit}
use Rattle.proc_eq.specs.Solution.{side_fits, Solves}

-- sides are numbered: 11 places, then the globals
abbrev pub node_of : PSide → ℕ
node_of (Place p) = p
node_of (Global g) = 11 + g

-- the number of places, a label for each side, and a process for each side
pub record Classes : Type 0 where
  pub width : ℕ
  pub labels : List ℕ
  pub processes : List ℕ

-- the entry of a side in a table by number
abbrev pub entry_of : List ℕ → PSide → ℕ
entry_of table side = slice_index table (node_of side)

-- each label is the least number of its class: a place stands for itself, and a global for a place below the width,
-- an earlier global or itself
pub record AreLabels (width : ℕ) (labels : List ℕ) : Type 0 where
  pub size : length labels ≡ 75
  pub low : (i : ℕ) → slice_index labels i ≤ i
  pub head : (i : ℕ) → i < 75 → slice_index labels (slice_index labels i) ≡ slice_index labels i
  pub places : (p : ℕ) → p < 11 → slice_index labels p ≡ p
  pub globals : (g : ℕ) → g < 64 → slice_index labels (11 + g) < 11 → slice_index labels (11 + g) < width

-- the labels are processes that satisfy the literals, and only sides that are forced to be one process share a label
pub record AreClosureOf (width : ℕ) (lits : List Lit) (labels : List ℕ) : Type 0 where
  pub tidy : AreLabels width labels
  pub solves : Solves width lits (entry_of labels)
  pub forced : (v : PSide → ℕ) → Solves width lits v → (a b : PSide) → IsTrue (side_fits 11 a) → IsTrue (side_fits 11 b)
      → entry_of labels a ≡ entry_of labels b → v a ≡ v b

-- the classes are those of the literals
abbrev pub IsClosureOf : List Lit → Classes → Type 0
IsClosureOf lits classes = AreClosureOf classes.width lits classes.labels
