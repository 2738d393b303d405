use Rattle.std.proofs.Common.{◌≡◌}
use Rattle.theory.specs.Made.{IsFor}
use Rattle.log_form.specs.Log.{cubes_of}
use Rattle.log_form.specs.Legal.{IsLegalLog}
use Rattle.log_form.specs.Later.{GoesOn}
use Rattle.predecessors.specs.Predecessors.{ArePieceCubes}
use Rattle.crew.specs.Search.{LeastFirst}
use Rattle.crew.proofs.Going.{to_go}
use Rattle.crew.proofs.searching.expand_all.Given as goal

abbrev pub invariant-loop-node : goal.invariant-loop-node
invariant-loop-node g l = record {
  made : IsFor l.protocol l.scratch;
  serves : g.F.Finder.serves l.finder l.protocol;
  protocol : l.protocol ≡ l.log.protocol;
  cubes : g.F.Finder.list l.finder ≡ cubes_of l.log.nodes;
  legal : IsLegalLog ArePieceCubes l.log;
  least : LeastFirst l.initial.log l.log;
  later : GoesOn l.initial.log l.log;
}

abbrev pub decreases-loop-node : goal.decreases-loop-node
decreases-loop-node g l = to_go l.log
