-- The declared sorts, globals and arrays, and the sort of what is built from them.
use Rattle.std.specs.Prelude.{ℕ, Bool, true, false, ◌==◌, List, length, Option, Some, None, option_map, slice_get}
use Rattle.std.specs.Option.{option_map_or}
use Rattle.cub_proto.specs.declared.literal.Sort.{Sort}
use Rattle.cub_proto.specs.declared.literal.Term.{Term}
use Rattle.cub_proto.specs.declared.transition.Target.{Target}
use Rattle.cub_proto.specs.declared.protocol.SortDecl.{SortDecl}
use Rattle.cub_proto.specs.declared.protocol.Decl.{Decl}

-- what literals and values speak of
pub record Signature : Type 0 where
  pub sorts : List SortDecl
  pub globals : List Decl
  pub arrays : List Decl

abbrev pub signature : List SortDecl → List Decl → List Decl → Signature
signature sorts globals arrays = record { sorts = sorts; globals = globals; arrays = arrays }

-- the sort of the declaration with that number, if there is one
abbrev pub declared_sort : List Decl → ℕ → Option Sort
declared_sort decls n = option_map (λ d. d.sort) (slice_get decls n)

abbrev pub sort_of : Signature → Term → Option Sort
sort_of sig (Term.Global g) = declared_sort sig.globals g
sort_of sig (Term.Cell a p) = declared_sort sig.arrays a

abbrev pub target_sort : Signature → Target → Option Sort
target_sort sig (Target.Global g) = declared_sort sig.globals g
target_sort sig (Target.Array a) = declared_sort sig.arrays a

-- the number of constructors of a finite sort; none where the sort is not there or not finite
abbrev pub constructors_of : Signature → Sort → ℕ
constructors_of sig (Sort.Fin k) = option_map_or (λ d. length d.cons) (slice_get sig.sorts k) 0
constructors_of sig Sort.Proc = 0
constructors_of sig Sort.Int = 0

-- the number of constructors of a term's sort
abbrev pub constructors_at : Signature → Term → ℕ
constructors_at sig t = option_map_or (constructors_of sig) (sort_of sig t) 0

-- two sorts are the same
abbrev pub same_sort : Sort → Sort → Bool
same_sort (Sort.Fin j) (Sort.Fin k) = j == k
same_sort (Sort.Fin j) Sort.Proc = false
same_sort (Sort.Fin j) Sort.Int = false
same_sort Sort.Proc (Sort.Fin k) = false
same_sort Sort.Proc Sort.Proc = true
same_sort Sort.Proc Sort.Int = false
same_sort Sort.Int (Sort.Fin k) = false
same_sort Sort.Int Sort.Proc = false
same_sort Sort.Int Sort.Int = true

abbrev pub is_sort : Option Sort → Sort → Bool
is_sort None sort = false
is_sort (Some other) sort = same_sort other sort

-- both are the same finite sort
abbrev pub same_finite : Option Sort → Option Sort → Bool
same_finite (Some (Sort.Fin j)) other = is_sort other (Sort.Fin j)
same_finite (Some Sort.Proc) other = false
same_finite (Some Sort.Int) other = false
same_finite None other = false
