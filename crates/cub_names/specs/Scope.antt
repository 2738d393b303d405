-- Process variables: each is a place. They are local to a declaration, a formula or an update, and may not have a name of
-- a constructor, a global or an array.
use Rattle.std.specs.Prelude.{ℕ, ◌+◌, Bool, true, false, ◌||◌, if◌then◌else◌, List, [], ◌∷◌, ◌++◌, length, map, take, drop, Option, Some, None, nat_lt, bytes_eq}
use Rattle.std.specs.List.{list_any, list_all}
use Rattle.cub_parse.specs.declared.tree.Leaf.{Leaf}
use Rattle.cub_names.specs.declared.fault.TypeKind.TheVariants as t
use Rattle.cub_names.specs.declared.fault.Fault.{Fault}
use Rattle.cub_names.specs.declared.scope.Local.{Local}
use Rattle.cub_names.specs.Checked.{has_value}
use Rattle.cub_names.specs.Words.{word_of}
use Rattle.cub_names.specs.Declarations.{at_each}
use Rattle.cub_names.specs.Meaning.{Frame, stands_for}

-- the place of a variable; of several with one name the first counts
abbrev pub place_of : List ℕ → List Local → List ℕ → Option ℕ
place_of text [] word = None
place_of text (l ∷ ls) word = if bytes_eq (word_of text l.name) word then Some l.place else place_of text ls word

-- a name of the space of constructors, globals and arrays
abbrev pub is_value : Frame → Leaf → Bool
is_value frame leaf = has_value (stands_for frame.sig (word_of frame.text leaf))

-- the variables with a name that is taken
abbrev pub taken_from : Frame → List (List ℕ) → List Leaf → List Leaf
taken_from frame seen [] = []
taken_from frame seen (l ∷ ls) =
    (if is_value frame l || list_any (bytes_eq (word_of frame.text l)) seen then l ∷ [] else [])
    ++ taken_from frame (seen ++ word_of frame.text l ∷ []) ls

-- T02 for a name that is taken, T16 for the first one above the limit; what follows it stands later
abbrev pub variable_faults : Frame → ℕ → List Leaf → List Fault
variable_faults frame limit names =
    at_each t.T02 (taken_from frame [] (take (limit + 1) names)) ++ at_each t.T16 (take 1 (drop limit names))

abbrev pub locals_from : ℕ → List Leaf → List Local
locals_from k [] = []
locals_from k (l ∷ ls) = record { name = l; place = k } ∷ locals_from (k + 1) ls

-- the variables that a declaration introduces, at most as many as the limit
abbrev pub locals : ℕ → List Leaf → List Local
locals limit names = locals_from 0 (take limit names)

-- all places are below the width
abbrev pub scope_fits : ℕ → List Local → Bool
scope_fits width scope = list_all (λ l. nat_lt l.place width) scope
