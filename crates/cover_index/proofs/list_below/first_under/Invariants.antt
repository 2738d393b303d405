use Rattle.std.proofs.Common.{length, ℕ, ◌-◌, Option}
use Rattle.log_form.specs.Links.{Link, IsFirstUnder}
use Rattle.theory.specs.Made.{IsFor}
use Rattle.cover_index.specs.Counted.{RisesForUnder}
use Rattle.cover_index.proofs.list_below.first_under.Given as goal

abbrev pub invariant-loop-at : goal.invariant-loop-at
invariant-loop-at l = record {
  made : IsFor l.protocol l.scratch;
  first : (r : Option Link) → IsFirstUnder l.protocol l.store.cubes l.at (length l.store.cubes) l.cube r → IsFirstUnder l.protocol l.store.cubes l.start (length l.store.cubes) l.cube r;
  tests : (new : ℕ) → RisesForUnder l.protocol l.store.cubes l.at (length l.store.cubes) l.cube l.scratch.tests new → RisesForUnder l.protocol l.store.cubes l.start (length l.store.cubes) l.cube l.initial.scratch.tests new;
}

abbrev pub decreases-loop-at : goal.decreases-loop-at
decreases-loop-at l = l.upto - l.at
