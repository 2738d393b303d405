use Rattle.theory.specs.Made.{IsFor}
use Rattle.log_tables.specs.Kept.{IsKept}
use Rattle.log_tables.proofs.section.answer_all.Given as goal

abbrev pub invariant-loop-row : goal.invariant-loop-row
invariant-loop-row g l = record {
  made : IsFor l.protocol l.scratch;
  kept : IsKept l.protocol (g.F.Finder.list l.finder) (g.F.Finder.serves l.finder l.protocol) l.verdicts.items l.log;
}
