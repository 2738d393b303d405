use Rattle.std.proofs.Common.{◌≤◌, List, length, IsTrue}
use Rattle.cub_proto.specs.declared.literal.Lit.{Lit}
use Rattle.cub_cube.specs.Meaning.{IsConsistent}
use Rattle.theory_laws.specs.Fitting.{AreFitting}
use Rattle.theory.specs.Made.{IsFor, IsKept}
use Rattle.cube_form.specs.Simple.{Drops}
use Rattle.cube_form.proofs.simplification.drop_idle.Given as goal

abbrev pub invariant-loop-at : goal.invariant-loop-at
invariant-loop-at l = record {
  kept : IsKept l.fn.scratch l.scratch;
  made : IsFor l.protocol l.scratch;
  within : l.at ≤ length l.lits.items;
  fitting : AreFitting l.protocol l.width l.lits.items;
  met : IsTrue l.are_met → IsConsistent l.protocol l.width l.lits.items;
  rest : (simple : List Lit) → Drops l.protocol l.width l.at l.lits.items simple → Drops l.protocol l.width (length l.fn.lits.items) l.fn.lits.items simple;
}

abbrev pub decreases-loop-at : goal.decreases-loop-at
decreases-loop-at l = l.at
