use Rattle.theory.specs.Made.{IsFor}
use Rattle.cover_index.proofs.tests.answers.Given as goal

abbrev pub invariant-loop-step : goal.invariant-loop-step
invariant-loop-step g l = record {
  serves : g.F.Finder.serves l.finder l.protocol;
  made : IsFor l.protocol l.scratch;
}
