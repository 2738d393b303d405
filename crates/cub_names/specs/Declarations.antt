-- What the declarations of a text declare, and the faults that stand among them.
use Rattle.std.specs.Prelude.{◌≡◌, ℕ, suc, ◌+◌, Bool, true, false, ◌&&◌, ◌||◌, not, if◌then◌else◌, List, [], ◌∷◌, ◌++◌, length, map, filter, drop, take, codes, bytes_eq, Option, Some, None, option_map, is_none, unwrap_or}
use Rattle.std.specs.Option.{option_map_or}
use Rattle.std.specs.List.{flat_map}
use Rattle.cub_lexer.specs.declared.token.TokenKind.{TokenKind}
use Rattle.cub_lexer.specs.declared.token.TokenKind.TheVariants as k
use Rattle.cub_parse.specs.declared.tree.Leaf.{Leaf}
use Rattle.cub_parse.specs.declared.tree.DeclNode.{DeclNode}
use Rattle.cub_parse.specs.declared.tree.DeclNode.TheVariants.{Enumeration, Var, Array}
use Rattle.cub_proto.specs.declared.literal.Sort.{Sort}
use Rattle.cub_proto.specs.declared.protocol.SortDecl.{SortDecl}
use Rattle.cub_proto.specs.declared.protocol.Decl.{Decl}
use Rattle.cub_proto.specs.Signature.{Signature, is_sort}
use Rattle.cub_names.specs.declared.fault.TypeKind.{TypeKind}
use Rattle.cub_names.specs.declared.fault.TypeKind.TheVariants as t
use Rattle.cub_names.specs.declared.fault.Fault.{Fault}
use Rattle.cub_names.specs.declared.lists.Typed.{Typed}
use Rattle.cub_names.specs.Checked.{fault}
use Rattle.cub_names.specs.Words.{word_of, may_declare}
use Rattle.cub_names.specs.Lists.{type_name, global_of, array_of, value_names, repeated}
use Rattle.cub_names.specs.Meaning.{number_from}

-- the same fault at each leaf
abbrev pub at_each : TypeKind → List Leaf → List Fault
at_each kind leaves = map (λ l. fault l.number kind) leaves

-- the names of the declared types
abbrev pub types_of : List DeclNode → List Leaf
types_of decls = flat_map type_name decls

abbrev pub globals_of : List DeclNode → List Typed
globals_of decls = flat_map global_of decls

abbrev pub arrays_of : List DeclNode → List Typed
arrays_of decls = flat_map array_of decls

-- the names of constructors, globals and arrays in the order of the text
abbrev pub values_of : List DeclNode → List Leaf
values_of decls = flat_map value_names decls

-- the sort of a word of this kind; a name names the type with that number, and type 0 is `bool`
abbrev pub sort_named : TokenKind → Option ℕ → Option Sort
sort_named k.BoolWord number = Some (Sort.Fin 0)
sort_named k.IntWord number = Some Sort.Int
sort_named k.ProcWord number = Some Sort.Proc
sort_named kind number = option_map Sort.Fin number

-- the words of the types' names
abbrev pub words_of : List ℕ → List Leaf → List (List ℕ)
words_of text leaves = map (word_of text) leaves

-- the sort that a leaf names, where the types have these names
abbrev pub sort_at : List ℕ → List (List ℕ) → Leaf → Option Sort
sort_at text types leaf = sort_named leaf.token.kind (number_from 1 types (word_of text leaf))

module _ (text : List ℕ) (types : List (List ℕ)) where
  -- the leaves of sorts that are not known
  abbrev pub unknown_sorts : List Typed → List Leaf
  unknown_sorts ds = flat_map (λ d. if is_none (sort_at text types d.sort) then d.sort ∷ [] else []) ds

  -- the leaves of sorts that are `proc`
  abbrev pub process_sorts : List Typed → List Leaf
  process_sorts ds = flat_map (λ d. if is_sort (sort_at text types d.sort) Sort.Proc then d.sort ∷ [] else []) ds

  -- the names of what is declared as `int`
  abbrev pub integer_names : List Typed → List Leaf
  integer_names ds = flat_map (λ d. if is_sort (sort_at text types d.sort) Sort.Int then d.name ∷ [] else []) ds

  -- what is declared; where the sort is unknown a fault says so, and `proc` stands in its place
  abbrev pub declared_as : Typed → Decl
  declared_as d = record { name = word_of text d.name; sort = unwrap_or (sort_at text types d.sort) Sort.Proc }

abbrev pub typed_name : Typed → Leaf
typed_name d = d.name

-- the names that no declaration may introduce
abbrev pub forbidden : List ℕ → List Leaf → List Leaf
forbidden text leaves = filter (λ l. not (may_declare (word_of text l))) leaves

-- the constructors above the limit of 64, and the name of a type without any
abbrev pub uncounted : DeclNode → List Leaf
uncounted (Enumeration name []) = name ∷ []
uncounted (Enumeration name (c ∷ cs)) = drop 64 (c ∷ cs)
uncounted (Var name sort) = []
uncounted (Array name sort) = []

-- the words that are declared without being written
abbrev pub truth_names : List (List ℕ)
truth_names = codes "False" ∷ codes "True" ∷ []

-- types: T18 for the names, T16 above 256, T02 for a second name, and `bool` is taken
abbrev pub type_faults : List ℕ → List DeclNode → List Fault
type_faults text decls =
    at_each t.T18 (forbidden text (types_of decls)) ++ at_each t.T16 (drop 256 (types_of decls))
    ++ at_each t.T02 (repeated text (codes "bool" ∷ []) (types_of decls)) ++ at_each t.T16 (flat_map uncounted decls)

-- constructors, globals and arrays: T18 for the names, T02 for a second name
abbrev pub value_faults : List ℕ → List DeclNode → List Fault
value_faults text decls =
    at_each t.T18 (forbidden text (values_of decls)) ++ at_each t.T02 (repeated text truth_names (values_of decls))

-- globals or arrays: T01 for unknown sorts, T16 above the limit and above that of integers
abbrev pub typed_faults : List ℕ → List (List ℕ) → ℕ → ℕ → List Typed → List Fault
typed_faults text types limit integers ds =
    at_each t.T01 (unknown_sorts text types ds) ++ at_each t.T16 (map typed_name (drop limit ds))
    ++ at_each t.T16 (drop integers (integer_names text types ds))

abbrev pub global_faults : List ℕ → List (List ℕ) → List DeclNode → List Fault
global_faults text types decls = typed_faults text types 64 16 (globals_of decls)

-- arrays: T12 for one of processes
abbrev pub array_faults : List ℕ → List (List ℕ) → List DeclNode → List Fault
array_faults text types decls = typed_faults text types 32 8 (arrays_of decls) ++ at_each t.T12 (process_sorts text types (arrays_of decls))

-- all faults, where the types have these names
abbrev pub faults_among : List ℕ → List (List ℕ) → List DeclNode → List Fault
faults_among text types decls = type_faults text decls ++ value_faults text decls ++ global_faults text types decls ++ array_faults text types decls

-- all faults of the declarations
abbrev pub declared_faults : List ℕ → List DeclNode → List Fault
declared_faults text decls = faults_among text (words_of text (types_of decls)) decls

abbrev pub sort_of_node : List ℕ → DeclNode → List SortDecl
sort_of_node text (Enumeration name cons) = record { name = word_of text name; cons = map (word_of text) cons } ∷ []
sort_of_node text (Var name sort) = []
sort_of_node text (Array name sort) = []

-- the type that is declared without being written
abbrev pub bool_sort : SortDecl
bool_sort = record { name = codes "bool"; cons = truth_names }

-- what the declarations declare
abbrev pub declared : List ℕ → List DeclNode → Signature
declared text decls = record {
  sorts = bool_sort ∷ flat_map (sort_of_node text) decls;
  globals = map (declared_as text (words_of text (types_of decls))) (globals_of decls);
  arrays = map (declared_as text (words_of text (types_of decls))) (arrays_of decls);
}
