use Rattle.std.proofs.Common.{take}
use Rattle.std.specs.Prelude.{All}
use Rattle.cub_cube.specs.Rename.{renamed}
use Rattle.theory_laws.specs.Entailed.{Entails}
use Rattle.theory.specs.Made.{IsFor, IsKept}
use Rattle.theory.specs.Loaded.{IsLoaded}
use Rattle.cube_form.proofs.forms.each_follows.Given as goal

abbrev pub invariant-loop-other : goal.invariant-loop-other
invariant-loop-other l = record {
  kept : IsKept l.fn.scratch l.scratch;
  made : IsFor l.protocol l.scratch;
  loaded : IsLoaded l.protocol l.width l.lits l.scratch;
  so_far : All (λ m. Entails l.protocol l.width l.lits (renamed l.places m)) (take l.other-index l.others);
}
