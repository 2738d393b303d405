use Rattle.theory.specs.Made.{IsFor}
use Rattle.figures.proofs.listing.search.Given as goal

abbrev pub invariant-loop-done : goal.invariant-loop-done
invariant-loop-done g l = record {
  made : IsFor l.protocol l.scratch;
  serves : g.F.Finder.serves l.finder l.protocol;
}
