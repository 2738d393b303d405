use Rattle.std.proofs.Common.{◌≡◌, ◌∷◌, take}
use Rattle.std.specs.List.{flat_map}
use Rattle.cub_names.specs.Declarations.{sort_of_node, bool_sort}
use Rattle.cub_names.proofs.values.sorts_of.Given as goal

abbrev pub invariant-loop-decl : goal.invariant-loop-decl
invariant-loop-decl l = l.sorts ≡ bool_sort ∷ flat_map (sort_of_node l.text) (take l.decl-index l.decls)
