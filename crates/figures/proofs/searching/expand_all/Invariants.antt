use Rattle.std.proofs.Common.{◌≡◌}
use Rattle.theory.specs.Made.{IsFor}
use Rattle.log_form.specs.Log.{cubes_of}
use Rattle.figures.proofs.searching.expand_all.Given as goal

abbrev pub invariant-loop-done : goal.invariant-loop-done
invariant-loop-done g l = record {
  made : IsFor l.protocol l.scratch;
  serves : g.F.Finder.serves l.finder l.protocol;
  protocol : l.protocol ≡ l.log.protocol;
  cubes : g.F.Finder.list l.finder ≡ cubes_of l.log.nodes;
}
