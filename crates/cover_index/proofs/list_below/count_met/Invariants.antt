use Rattle.std.proofs.Common.{◌≡◌}
use Rattle.theory.specs.Made.{IsFor}
use Rattle.cover_index.specs.Asked.{AreMet}
use Rattle.cover_index.proofs.list_below.count_met.Given as goal

abbrev pub invariant-loop-i : goal.invariant-loop-i
invariant-loop-i l = record {
  made : IsFor l.protocol l.scratch;
  tests : l.scratch.tests ≡ l.initial.scratch.tests;
  known : AreMet l.protocol l.store.cubes l.i;
}
