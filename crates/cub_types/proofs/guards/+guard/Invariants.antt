use Rattle.std.proofs.Common.{◌≡◌, drop, map}
use Rattle.cub_names.specs.Checked.{first_of_all, appended}
use Rattle.cub_types.specs.Guards.{conjunct, all_beside}
use Rattle.cub_types.proofs.guards.+guard.Given as goal

abbrev pub invariant-conjuncts-loop-node : goal.invariant-conjuncts-loop-node
invariant-conjuncts-loop-node l = record {
  own : appended l.found.own (all_beside (map (conjunct l.names l.place l.levels l.scope) (drop l.node-index l.nodes))).own ≡ (all_beside (map (conjunct l.names l.place l.levels l.scope) l.nodes)).own;
  others : appended l.found.others (all_beside (map (conjunct l.names l.place l.levels l.scope) (drop l.node-index l.nodes))).others ≡ (all_beside (map (conjunct l.names l.place l.levels l.scope) l.nodes)).others;
  first : first_of_all l.first (all_beside (map (conjunct l.names l.place l.levels l.scope) (drop l.node-index l.nodes))).faults ≡ first_of_all l.fn.first (all_beside (map (conjunct l.names l.place l.levels l.scope) l.nodes)).faults;
}
