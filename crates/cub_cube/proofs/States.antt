-- Processes at places.
use Rattle.std.proofs.Common.{◌≡◌, ℕ, ◌<◌, Bool, true, false, List, length, get_or, Option, Some, None, refl, sym, arith}
use Rattle.std.specs.Prelude.{slice_index, All, IsTrue, nat_lt}
use Rattle.std.proofs.lemmas.Grind.{common_steps}
use Rattle.cub_proto.specs.declared.literal.Sort.{Sort}
use Rattle.cub_proto.specs.Configuration.{Configuration, process_count}
use Rattle.cub_proto.specs.Fits.{is_finite}
use Rattle.cub_proto.specs.Legal.{AreDistinctAlive}
use Rattle.cub_proto.proofs.StateValues.{alive_within}
use Rattle.cub_base.proofs.Bools.{less_is}

-- a process at a place is there
pub place_within : (s : Configuration) (places : List ℕ) (p : ℕ) → AreDistinctAlive s places → p < length places → slice_index places p < process_count s
place_within s places p distinct below = alive_within s (slice_index places p) (distinct.alive p 0 below)

-- a finite sort
pub finite_is : (sort : Option Sort) → IsTrue (is_finite sort) → (k : ℕ) × (sort ≡ Some (Sort.Fin k))
finite_is (Some (Sort.Fin k)) h = (k, refl)
finite_is (Some Sort.Proc) h = cc
finite_is (Some Sort.Int) h = cc
finite_is None h = cc

-- all processes at places are there
pub processes_within : (s : Configuration) (places : List ℕ) → AreDistinctAlive s places → All (λ i. i < process_count s) places
processes_within s places distinct = λ k d below. alive_within s (get_or places k d) (distinct.alive k d below)

-- processes at two places differ
pub apart : (s : Configuration) (places : List ℕ) → AreDistinctAlive s places → (i j : ℕ) → i < length places → j < length places → (i ≡ j → ⊥) → slice_index places i ≡ slice_index places j → ⊥
apart s places distinct i j below within differ same = by (nat_lt i j) refl
  where
    by : (b : Bool) → nat_lt i j ≡ b → ⊥
    by true e = distinct.distinct i j 0 (less_is i j e) within same
    by false e = let back : j < i = grind (arith, common_steps) in distinct.distinct j i 0 back below (sym same)
