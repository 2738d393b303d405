use Rattle.theory.specs.Made.{IsFor}
use Rattle.subsume.specs.Scanned.{IsServing}
use Rattle.tables.proofs.section.answer_all.Given as goal

abbrev pub invariant-loop-row : goal.invariant-loop-row
invariant-loop-row l = record {
  made : IsFor l.protocol l.scratch;
  scan : IsServing l.protocol l.scan;
}
