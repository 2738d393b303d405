-- A set of names, lent, as a test of names; and a map from names as a look-up.
use Rattle.std.specs.Prelude.{ℕ, Bool, List, Option, bytes_eq}
use Rattle.std.specs.List.{list_any}
use Rattle.std.specs.Map.{lookup}
use Rattle.std.specs.HashSet.{HashSet}
use Rattle.std.specs.HashMap.{HashMap}
use Rattle.std.specs.Borrow.{Bor}
use Rattle.std.specs.declared.vec.Vec.{Vec}

-- the set has a name with these bytes
abbrev pub has_name : {S : Type 0} → HashSet (Bor (List ℕ)) S → List ℕ → Bool
has_name seen name = list_any (λ key. bytes_eq name key.now) seen.keys

-- what the map has at the name with these bytes
abbrev pub value_in : {X A S : Type 0} → HashMap (Vec ℕ A) X S → List ℕ → Option X
value_in m name = lookup (λ key. bytes_eq name key.items) m.entries
