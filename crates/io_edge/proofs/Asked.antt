-- What one load after another asks for.
use Rattle.std.proofs.Common.{◌≡◌, ℕ, List, [], ◌∷◌, ◌++◌, take, Option, Some, None, Result, Ok, inl, inr, refl, ap, ◌∙◌, arith, append_assoc}
use Rattle.std.proofs.lemmas.Grind.{common_steps}
use Rattle.std.specs.Prelude.{option_map}
use Rattle.io_edge.specs.declared.shelf.LoadFault.{LoadFault}
use Rattle.io_edge.specs.Shelf.{with_name, AddsName, AsksFor}

-- nothing is asked for before the first load
pub asks_none : (before : Option (List (List ℕ))) (names : List (List ℕ)) → AsksFor before before names
asks_none None names = (0, omega arith, refl)
asks_none (Some asked) names = (0, omega arith, ap Some (grind (arith, common_steps)))

-- the first load asks for the first name
pub asks_first : {X : Type 0} (before now : Option (List (List ℕ))) (first : List ℕ) (rest : List (List ℕ)) (result : Result X LoadFault) →
    AddsName before now first result → AsksFor before now (first ∷ rest)
asks_first before now first rest result added = elim added [
  | inl longer ↦ (1, omega arith, longer)
  | inr memory ↦ rw memory.1 (asks_none before (first ∷ rest))
]

-- a load that answered bytes has added its name
pub added_at_ok : {X : Type 0} (before now : Option (List (List ℕ))) (name : List ℕ) (result : Result X LoadFault) (x : X) →
    result ≡ Ok x → AddsName before now name result → now ≡ with_name before name
added_at_ok before now name result x is added = elim added [
  | inl longer ↦ longer
  | inr memory ↦ let same = memory.0 in cc
]

-- the second load asks for the second name
pub asks_second : {X : Type 0} (before mid now : Option (List (List ℕ))) (first second : List ℕ) (rest : List (List ℕ)) (result : Result X LoadFault) →
    mid ≡ with_name before first → AddsName mid now second result → AsksFor before now (first ∷ second ∷ rest)
asks_second before mid now first second rest result one added = elim added [
  | inl longer ↦ (2, omega arith, longer ∙ ap (λ (names : Option (List (List ℕ))). with_name names second) one ∙ twice before)
  | inr memory ↦ rw memory.1 (1, omega arith, one)
]
  where
    twice : (names : Option (List (List ℕ))) → with_name (with_name names first) second ≡ option_map (λ asked. asked ++ take 2 (first ∷ second ∷ rest)) names
    twice None = refl
    twice (Some asked) = ap Some (append_assoc asked (first ∷ []) (second ∷ []))
