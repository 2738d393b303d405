-- Protocols whose declared names are those of texts. The type of protocols allows names that begin with `_`, as the printed
-- variables do; no declaration of a text introduces such a name.
use Rattle.std.specs.Prelude.{Bool, not, ◌&&◌, ℕ, List}
use Rattle.std.specs.List.{list_all}
use Rattle.cub_names.specs.Words.{begins_with_underscore}
use Rattle.cub_proto.specs.declared.protocol.Decl.{Decl}
use Rattle.cub_proto.specs.declared.protocol.SortDecl.{SortDecl}
use Rattle.cub_proto.specs.declared.protocol.Protocol.{Protocol}

abbrev pub is_plain : List ℕ → Bool
is_plain name = not (begins_with_underscore name)

abbrev pub has_plain_names : SortDecl → Bool
has_plain_names d = is_plain d.name && list_all is_plain d.cons

abbrev pub are_plain : List Decl → Bool
are_plain decls = list_all (λ d. is_plain d.name) decls

-- no sort, constructor, global or array has a name that begins with `_`
abbrev pub declares_plain_names : Protocol → Bool
declares_plain_names p = list_all has_plain_names p.sorts && are_plain p.globals && are_plain p.arrays
