use Rattle.std.proofs.Common.{◌≡◌, ◌++◌, take}
use Rattle.log_form.specs.Log.{new_nodes}
use Rattle.log_steps.proofs.committing.push_nodes.Given as goal

abbrev pub invariant-loop-one : goal.invariant-loop-one
invariant-loop-one l = l.nodes.items ≡ l.initial.nodes.items ++ new_nodes l.node (take l.one-index l.added)
