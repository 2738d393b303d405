-- Where no load of a shelf in memory is to fail any more, the files that it has are given.
use Rattle.std.proofs.Common.{◌≡◌, ℕ, ◌≤◌, Bool, true, false, ◌&&◌, List, [], ◌∷◌, ◌++◌, length, length-append, Option, Some, None, Ok, Err, IsTrue, is_some, nat_le, if◌then◌else◌, refl, arith}
use Rattle.io_edge.specs.declared.files.File.{File}
use Rattle.io_edge.specs.declared.shelf.LoadFault.TheVariants.{Failed, TooLong}
use Rattle.io_edge.specs.Calls.{is_among, are_past}
use Rattle.io_edge.specs.Files.{content_of, has_file}
use Rattle.io_edge.specs.MemoryShelf.{given_of, outcome_of}
use Rattle.io_edge.proofs.Past.{not_among, are_past-later}

pub both_true : (a b : Bool) → (a && b) ≡ true → (a ≡ true) × (b ≡ true)
both_true true b both = (refl, both)
both_true false b both = cc

pub true_both : (a b : Bool) → a ≡ true → b ≡ true → (a && b) ≡ true
true_both a b first second = rw (first, second) refl

-- one more name asked for takes no sureness away
pub sure_stays : (fails : List ℕ) (files : List File) (before now : List (List ℕ)) (name other : List ℕ) →
    now ≡ before ++ name ∷ [] →
    IsTrue (are_past fails (length before) && has_file files other) →
    IsTrue (are_past fails (length now) && has_file files other)
sure_stays fails files before now name other longer sure =
    let parts = both_true (are_past fails (length before)) (has_file files other) sure in
    let order : length before ≤ length now = rw longer (omega (arith, length-append before (name ∷ []))) in
    true_both (are_past fails (length now)) (has_file files other) (are_past-later fails (length before) (length now) order parts.0) parts.1

-- what a file gives is no failure
pub given_not_failed : (content : Option (List ℕ)) (limit : ℕ) → is_some content ≡ true → given_of content limit ≡ Err Failed → ⊥
given_not_failed None limit there failed = cc
given_not_failed (Some bytes) limit there failed =
    (elim (nat_le (length bytes) limit) as (λ fits. (if fits then Ok bytes else Err TooLong) ≡ Err Failed → ⊥) [
      | true ↦ λ given. cc
      | false ↦ λ given. cc
    ]) failed

-- a sure load does not fail
pub sure_given : (fails : List ℕ) (files : List File) (call : ℕ) (name : List ℕ) (limit : ℕ) →
    IsTrue (are_past fails call && has_file files name) →
    outcome_of files (is_among fails call) name limit ≡ Err Failed → ⊥
sure_given fails files call name limit sure failed =
    let parts = both_true (are_past fails call) (has_file files name) sure in
    given_not_failed (content_of files name) limit parts.1 (rw (not_among fails call parts.0) at failed)
