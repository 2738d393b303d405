use Rattle.std.proofs.Common.{◌-◌, ◌<◌, ◌≤◌, length}
use Rattle.cub_cube.specs.Cover.{DoesCover}
use Rattle.log_form.specs.Log.{node_at}
use Rattle.core_laws.specs.Following.{LeadsTo}
use Rattle.core_laws.proofs.following.live_cover.Given as goal

abbrev pub invariant-loop-at : goal.invariant-loop-at
invariant-loop-at g l = record {
  later : l.node ≤ l.at;
  inside : l.at < length l.log.nodes;
  end : LeadsTo l.log.nodes l.node l.at;
  covers : DoesCover l.log.protocol (node_at l.log.nodes l.at).cube (node_at l.log.nodes l.node).cube;
}

abbrev pub decreases-loop-at : goal.decreases-loop-at
decreases-loop-at g l = length l.log.nodes - l.at
