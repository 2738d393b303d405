use Rattle.std.proofs.Common.{◌≡◌, take}
use Rattle.log_form.specs.Log.{live_cubes}
use Rattle.cover_lines.proofs.lines.push_all_live.Given as goal

abbrev pub invariant-loop-node : goal.invariant-loop-node
invariant-loop-node g l = record {
  serves : g.F.Finder.serves l.finder l.protocol;
  list : g.F.Finder.list l.finder ≡ live_cubes (take l.node-index l.nodes);
}
