-- Where links lead.
use Rattle.std.specs.Prelude.{◌≡◌, ℕ, List}
use Rattle.log_form.specs.declared.node.Fate.{Fate}
use Rattle.log_form.specs.declared.node.Node.{Node}
use Rattle.log_form.specs.Log.{node_at}

-- some links, perhaps none, lead from the one node to the other
pub data LeadsTo (nodes : List Node) : ℕ → ℕ → Type 0 where
  itself : (node : ℕ) → LeadsTo nodes node node
  onward : (node from by : ℕ) (places : List ℕ) → LeadsTo nodes node from → (node_at nodes from).fate ≡ Fate.Covered by places → LeadsTo nodes node by
