-- What is asked for behind a first load that answered, and answers over a shelf that tells the same.
use Rattle.std.proofs.Common.{◌≡◌, ℕ, suc, List, [], ◌∷◌, ◌++◌, take, Option, Some, None, refl, ap, ◌∙◌, arith, append_assoc}
use Rattle.std.specs.Prelude.{option_map}
use Rattle.io_edge.specs.Shelf.{with_name, AsksFor}

-- the later loads ask for the names behind the first
pub asks_next : (before mid now : Option (List (List ℕ))) (first : List ℕ) (rest : List (List ℕ)) →
    mid ≡ with_name before first → AsksFor mid now rest → AsksFor before now (first ∷ rest)
asks_next before mid now first rest one later =
    (suc later.0, omega arith, later.2 ∙ ap (option_map (λ (asked : List (List ℕ)). asked ++ take later.0 rest)) one ∙ shifted before)
  where
    shifted : (names : Option (List (List ℕ))) → option_map (λ asked. asked ++ take later.0 rest) (with_name names first) ≡ option_map (λ asked. asked ++ take (suc later.0) (first ∷ rest)) names
    shifted None = refl
    shifted (Some asked) = ap Some (append_assoc asked (first ∷ []) (take later.0 rest))
