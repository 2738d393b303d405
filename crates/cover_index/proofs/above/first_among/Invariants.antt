use Rattle.std.proofs.Common.{◌-◌, ℕ, Option}
use Rattle.log_form.specs.Links.{Link, IsFirstCover}
use Rattle.cover_index.specs.Counted.{RisesForCovers}
use Rattle.cover_index.specs.Asked.{IsAsked}
use Rattle.cover_index.proofs.above.first_among.Given as goal

-- what the rest finds is found, and the tests of the rest add up with those made
abbrev pub invariant-loop-at : goal.invariant-loop-at
invariant-loop-at l = record {
  asked : IsAsked l.protocol l.cube l.own l.consistent l.scratch;
  first : (r : Option Link) → IsFirstCover l.protocol l.cubes l.at l.upto l.cube r → IsFirstCover l.protocol l.cubes l.from l.upto l.cube r;
  tests : (new : ℕ) → RisesForCovers l.protocol l.cubes l.at l.upto l.cube l.scratch.tests new → RisesForCovers l.protocol l.cubes l.from l.upto l.cube l.initial.scratch.tests new;
}

abbrev pub decreases-loop-at : goal.decreases-loop-at
decreases-loop-at l = l.upto - l.at
