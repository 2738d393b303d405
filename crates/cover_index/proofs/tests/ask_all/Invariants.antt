use Rattle.theory.specs.Made.{IsFor}
use Rattle.cover_index.proofs.tests.ask_all.Given as goal

abbrev pub invariant-loop-i : goal.invariant-loop-i
invariant-loop-i g l = record {
  serves : g.F.Finder.serves l.finder l.protocol;
  made : IsFor l.protocol l.scratch;
}
