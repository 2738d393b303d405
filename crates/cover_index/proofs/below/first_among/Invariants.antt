use Rattle.std.proofs.Common.{◌-◌, ℕ, Option}
use Rattle.log_form.specs.Links.{Link, IsFirstUnder}
use Rattle.theory.specs.Made.{IsFor}
use Rattle.cover_index.specs.Counted.{RisesForUnder}
use Rattle.cover_index.proofs.below.first_among.Given as goal

-- what the rest finds is found, and the tests of the rest add up with those made
abbrev pub invariant-loop-at : goal.invariant-loop-at
invariant-loop-at l = record {
  made : IsFor l.protocol l.scratch;
  first : (r : Option Link) → IsFirstUnder l.protocol l.cubes l.at l.upto l.cube r → IsFirstUnder l.protocol l.cubes l.from l.upto l.cube r;
  tests : (new : ℕ) → RisesForUnder l.protocol l.cubes l.at l.upto l.cube l.scratch.tests new → RisesForUnder l.protocol l.cubes l.from l.upto l.cube l.initial.scratch.tests new;
}

abbrev pub decreases-loop-at : goal.decreases-loop-at
decreases-loop-at l = l.upto - l.at
