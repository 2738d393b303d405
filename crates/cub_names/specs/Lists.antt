-- The declarations of a text, by what they declare.
use Rattle.std.specs.Prelude.{ℕ, Bool, ◌||◌, if◌then◌else◌, List, [], ◌∷◌, ◌++◌}
use Rattle.std.specs.List.{list_any, flat_map}
use Rattle.std.specs.Prelude.{bytes_eq}
use Rattle.cub_parse.specs.declared.tree.Leaf.{Leaf}
use Rattle.cub_parse.specs.declared.tree.DeclNode.{DeclNode}
use Rattle.cub_parse.specs.declared.tree.DeclNode.TheVariants.{Enumeration, Var, Array}
use Rattle.cub_names.specs.declared.lists.Typed.{Typed}
use Rattle.cub_names.specs.Words.{word_of}

abbrev pub type_name : DeclNode → List Leaf
type_name (Enumeration name cons) = name ∷ []
type_name (Var name sort) = []
type_name (Array name sort) = []

abbrev pub global_of : DeclNode → List Typed
global_of (Enumeration name cons) = []
global_of (Var name sort) = record { name = name; sort = sort } ∷ []
global_of (Array name sort) = []

abbrev pub array_of : DeclNode → List Typed
array_of (Enumeration name cons) = []
array_of (Var name sort) = []
array_of (Array name sort) = record { name = name; sort = sort } ∷ []

-- the constructors, the global or the array that is declared
abbrev pub value_names : DeclNode → List Leaf
value_names (Enumeration name cons) = cons
value_names (Var name sort) = name ∷ []
value_names (Array name sort) = name ∷ []

-- the leaves whose word was seen before, at first these words alone
abbrev pub repeated : List ℕ → List (List ℕ) → List Leaf → List Leaf
repeated text seen [] = []
repeated text seen (l ∷ ls) =
    (if list_any (bytes_eq (word_of text l)) seen then l ∷ [] else []) ++ repeated text (seen ++ word_of text l ∷ []) ls
