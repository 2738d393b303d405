use Rattle.std.proofs.Common.{◌≡◌, take}
use Rattle.log_form.specs.Log.{cubes_of}
use Rattle.crew.proofs.searching.fill.Given as goal

abbrev pub invariant-loop-node : goal.invariant-loop-node
invariant-loop-node g l = record {
  serves : g.F.Finder.serves l.finder l.protocol;
  list : g.F.Finder.list l.finder ≡ cubes_of (take l.node-index l.nodes);
}
