-- Where no call is to fail any more, no later one does, and a sink in memory takes all that it has room for.
use Rattle.std.proofs.Common.{◌≡◌, ℕ, ◌+◌, ◌<◌, ◌≤◌, List, [], ◌∷◌, true, false, ◌⊎◌, if◌then◌else◌, arith, refl}
use Rattle.std.proofs.lemmas.Bool.Decides.{nat_tests}
use Rattle.io_edge.specs.Calls.{is_among, are_past}

pub not_among : (fails : List ℕ) (call : ℕ) → are_past fails call ≡ true → is_among fails call ≡ false
not_among [] call past = refl
not_among (fail ∷ fails) call past = let rest = not_among fails call in grind (arith, nat_tests)

pub are_past-later : (fails : List ℕ) (call later : ℕ) → call ≤ later → are_past fails call ≡ true → are_past fails later ≡ true
are_past-later [] call later order past = refl
are_past-later (fail ∷ fails) call later order past = let rest = are_past-later fails call later order in grind (arith, nat_tests)

-- a put that fails was to fail or found no room, so there was no spare for it
pub spare_put : (fails : List ℕ) (calls left size : ℕ) → 0 < size →
    (is_among fails calls ≡ true) ⊎ ((is_among fails calls ≡ false) × (left ≡ 0)) →
    size ≤ (if are_past fails calls then left else 0) → ⊥
spare_put fails calls left size some cause fits =
    (elim (are_past fails calls) as (λ past. are_past fails calls ≡ past → size ≤ (if past then left else 0) → ⊥) [
      | true ↦ λ is within. let none : is_among fails calls ≡ false = not_among fails calls is in grind arith
      | false ↦ λ is within. omega arith
    ]) refl fits

-- a put uses up no more spare than it takes bytes
pub spare_stays : (fails : List ℕ) (calls later left less count : ℕ) → calls ≤ later → left ≤ less + count →
    (if are_past fails calls then left else 0) ≤ (if are_past fails later then less else 0) + count
spare_stays fails calls later left less count order takes =
    (elim (are_past fails calls) as (λ past. are_past fails calls ≡ past →
    (if past then left else 0) ≤ (if are_past fails later then less else 0) + count) [
      | true ↦ λ is. rw (are_past-later fails calls later order is) takes
      | false ↦ λ is. omega arith
    ]) refl
