-- What every protocol that some text reads as meets: its declarations, its start formula and its goals.
use Rattle.std.specs.Prelude.{ℕ, List, IsTrue}
use Rattle.cub_parse.specs.declared.tree.Syntax.{Syntax}
use Rattle.cub_proto.specs.declared.protocol.Protocol.{Protocol}
use Rattle.cub_types.specs.Typing.{Reads}
use Rattle.print_names.specs.Plain.{declares_plain_names}
use Rattle.print_formulas.specs.Normal.{has_normal_bodies}

-- no name that it declares begins with `_`
abbrev pub NamesArePlain : Type 0
NamesArePlain = (text : List ℕ) (tree : Syntax) (p : Protocol) → Reads text tree p → IsTrue (declares_plain_names p)

-- its start formula and its goals have the literals of normal forms alone
abbrev pub BodiesAreNormal : Type 0
BodiesAreNormal = (text : List ℕ) (tree : Syntax) (p : Protocol) → Reads text tree p → IsTrue (has_normal_bodies p)
