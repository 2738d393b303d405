-- A set of names, lent, as a test of names.
use Rattle.std.specs.Prelude.{ℕ, Bool, List, bytes_eq}
use Rattle.std.specs.List.{list_any}
use Rattle.std.specs.HashSet.{HashSet}
use Rattle.std.specs.Borrow.{Bor}

-- the set has a name with these bytes
abbrev pub has_name : {S : Type 0} → HashSet (Bor (List ℕ)) S → List ℕ → Bool
has_name seen name = list_any (λ key. bytes_eq name key.now) seen.keys
