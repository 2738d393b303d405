-- Groups of which one comes in front.
use Rattle.std.proofs.Common.{◌≡◌, ◌≢◌, ℕ, ◌+◌, ◌<◌, ◌≤◌, Bool, not, List, length, get_or, take, set, sym, ap, ◌∙◌, subst, eq-eqb, arith}
use Rattle.std.specs.Prelude.{◌==◌, AllPairs, All, filter}
use Rattle.std.proofs.lemmas.Bool.{not-true, true≢false}
use Rattle.std.proofs.lemmas.List.{get_or-take, length-take, length-take-le}
use Rattle.std.proofs.lemmas.List.Elements.{filter_more, filter_passes, All-take}
use Rattle.std.proofs.lemmas.List.Kept.{AllPairs-filter, AllPairs-cons}
use Rattle.std.proofs.lemmas.Grind.{common_steps}
use Rattle.cover_index.specs.Noted.{in_front}

-- the first of a list, among whose elements a relation holds
pub pairs_take : (R : ℕ → ℕ → Type 0) (n : ℕ) (xs : List ℕ) → AllPairs R xs → AllPairs R (take n xs)
pairs_take R n xs pairs i j d less below =
    let size = length-take n xs in
    let near : j < n = omega arith in
    let first = get_or-take n xs i d (omega arith) in
    let second = get_or-take n xs j d near in
    subst (λ x. R x (get_or (take n xs) j d)) (sym first) (subst (λ y. R (get_or xs i d) y) (sym second) (pairs i j d less (omega arith)))

module _ (group : ℕ) where
  abbrev is_other : ℕ → Bool
  is_other other = not (other == group)

  none_same : (groups : List ℕ) → All (λ other. group ≢ other) (filter is_other groups)
  none_same groups k d below same =
      true≢false (sym (eq-eqb _ _ (sym same)) ∙ not-true _ (filter_passes is_other groups k d below))

  -- distinct groups stay so
  pub front_distinct : (groups : List ℕ) → AllPairs (λ x y. x ≢ y) groups → AllPairs (λ x y. x ≢ y) (in_front groups group)
  front_distinct groups distinct =
      AllPairs-cons (λ x y. x ≢ y) group (take 3 (filter is_other groups)) (All-take (λ other. group ≢ other) 3 (filter is_other groups) (none_same groups))
      (pairs_take (λ x y. x ≢ y) 3 (filter is_other groups) (AllPairs-filter (λ x y. x ≢ y) is_other groups distinct))

  -- one more of the old groups is looked at
  module _ (old groups : List ℕ) (i count : ℕ) (below : i < length old) (size : length groups ≡ 4) (few : count ≤ 4) (front : take count groups ≡ in_front (take i old) group) where
    room : length (take 3 (filter is_other (take i old))) + 1 ≡ count
    room = omega (arith, ap (λ xs. length xs) front, length-take-le count groups (omega (arith, size, few)))

    pub front_same : get_or old i 0 ≡ group → take count groups ≡ in_front (take (i + 1) old) group
    front_same same = grind (arith, common_steps, filter_more is_other old i 0 below)

    pub front_full : 4 ≤ count → take count groups ≡ in_front (take (i + 1) old) group
    front_full full = grind (arith, common_steps, filter_more is_other old i 0 below, room)

    pub front_more : get_or old i 0 ≢ group → count < 4 → take (count + 1) (set groups count (get_or old i 0)) ≡ in_front (take (i + 1) old) group
    front_more other free = grind (arith, common_steps, filter_more is_other old i 0 below, room)
