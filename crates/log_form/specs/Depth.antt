-- The depth of a node: how many origins are on the way to a root.
use Rattle.std.specs.Prelude.{◌≡◌, ℕ, suc, ◌+◌, ◌*◌, List}
use Rattle.log_form.specs.declared.node.Origin.{Origin}
use Rattle.log_form.specs.declared.node.Node.{Node}
use Rattle.log_form.specs.Log.{node_at}

-- a root has depth 0, a piece of a node one more than that node
pub data HasDepth (nodes : List Node) : ℕ → ℕ → Type 0 where
  at_root : (i goal : ℕ) → (node_at nodes i).origin ≡ Origin.Root goal → HasDepth nodes i 0
  at_piece : (i from piece d : ℕ) → (node_at nodes i).origin ≡ Origin.Piece from piece → HasDepth nodes from d → HasDepth nodes i (suc d)

-- the greatest bound at a depth: that of a protocol's literals, and 2,000,000,000 more for each step
abbrev pub bound_at : ℕ → ℕ
bound_at depth = 2000000001 + depth * 2000000000
