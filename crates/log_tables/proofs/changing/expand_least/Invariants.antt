use Rattle.theory.specs.Made.{IsFor}
use Rattle.log_tables.specs.Kept.{IsAtHand, StaysJudged}
use Rattle.log_tables.proofs.changing.expand_least.Given as goal

abbrev pub invariant-loop-done : goal.invariant-loop-done
invariant-loop-done g l = record {
  made : IsFor l.protocol l.scratch;
  hand : IsAtHand l.protocol (g.F.Finder.list l.finder) (g.F.Finder.serves l.finder l.protocol) l.log;
  stays : StaysJudged l.initial.log l.log;
}
