use Rattle.std.proofs.Common.{◌≡◌, drop}
use Rattle.cub_names.specs.Checked.{first_of_all}
use Rattle.cub_types.specs.Joined.{no_updates, updating, updating_faults}
use Rattle.cub_types.proofs.updating.all_updates.Given as goal

abbrev pub invariant-loop-node : goal.invariant-loop-node
invariant-loop-node l = record {
  value : updating l.names l.scope l.params l.all (drop l.node-index l.nodes) ≡ updating l.names l.scope l.params no_updates l.nodes;
  first : first_of_all l.first (updating_faults l.names l.scope l.params l.all (drop l.node-index l.nodes)) ≡ first_of_all l.fn.first (updating_faults l.names l.scope l.params no_updates l.nodes);
}
