-- The least node that may be expanded.
use Rattle.std.specs.Prelude.{◌≡◌, ℕ, ◌<◌, true, false, List, Option, Some, None, length}
use Rattle.cub_proto.specs.declared.budget.Budget.{Budget}
use Rattle.log_form.specs.declared.node.Node.{Node}
use Rattle.log_form.specs.Log.{node_at}
use Rattle.log_form.specs.Verdict.{is_open}

-- no node before that number waits within the width
abbrev pub NoneOpenBefore : Budget → List Node → ℕ → Type 0
NoneOpenBefore budget nodes number = (i : ℕ) → i < number → is_open budget (node_at nodes i) ≡ false

-- the least node that waits within the width; none where there is none
abbrev pub IsLeastOpen : Budget → List Node → Option ℕ → Type 0
IsLeastOpen budget nodes None = NoneOpenBefore budget nodes (length nodes)
IsLeastOpen budget nodes (Some number) = (number < length nodes) × (is_open budget (node_at nodes number) ≡ true) × NoneOpenBefore budget nodes number
