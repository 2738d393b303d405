use Rattle.std.proofs.Common.{◌≡◌, drop, take, map}
use Rattle.cub_names.specs.Checked.{first_of_all}
use Rattle.cub_types.specs.Writes.{case_of, all_case_faults}
use Rattle.cub_types.proofs.targets.cases_of.Given as goal

abbrev pub invariant-loop-node : goal.invariant-loop-node
invariant-loop-node l = record {
  value : l.cases ≡ map (case_of l.names l.scope l.aim) (take l.node-index l.nodes);
  first : first_of_all l.first (all_case_faults l.names l.scope l.aim (drop l.node-index l.nodes)) ≡ first_of_all l.fn.first (all_case_faults l.names l.scope l.aim l.nodes);
}
