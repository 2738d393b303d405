-- Where a name stands in a list.
use Rattle.std.specs.Prelude.{ℕ, Bool, not, min, List, bytes_eq}
use Rattle.std.specs.List.{prefix_len}

-- the number of the first that is called so, at most 65,535; the length where there is none
abbrev pub number_of : {X : Type 0} → (X → List ℕ) → List X → List ℕ → ℕ
number_of called xs name = min (prefix_len (λ x. not (bytes_eq (called x) name)) xs) 65535
