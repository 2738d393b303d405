-- What every protocol that some text reads as meets: its literals, and its transitions.
use Rattle.std.specs.Prelude.{ℕ, Bool, List, IsTrue}
use Rattle.std.specs.List.{list_all}
use Rattle.cub_parse.specs.declared.tree.Syntax.{Syntax}
use Rattle.cub_proto.specs.declared.transition.Transition.{Transition}
use Rattle.cub_proto.specs.declared.protocol.Protocol.{Protocol}
use Rattle.cub_types.specs.Typing.{Reads}
use Rattle.print_words.specs.Writable.{is_writable}
use Rattle.print_names.specs.Plain.{is_plain}
use Rattle.print_formulas.specs.Normal.{is_normal_conjunction}
use Rattle.print_transitions.specs.Normal.{has_normal_guards}

-- each of its literals can be written
abbrev pub LiteralsAreWritable : Type 0
LiteralsAreWritable = (text : List ℕ) (tree : Syntax) (p : Protocol) → Reads text tree p → IsTrue (is_writable p)

-- its guards have the literals of normal forms alone
abbrev pub GuardsAreNormal : Type 0
GuardsAreNormal = (text : List ℕ) (tree : Syntax) (p : Protocol) → Reads text tree p → IsTrue (has_normal_guards p)

-- the conditions of the branches have such literals alone
abbrev pub has_normal_conditions : Protocol → Transition → Bool
has_normal_conditions p t = list_all (λ u. list_all (λ b. is_normal_conjunction p b.cond) u.branches) t.updates

-- and so it is in each transition
abbrev pub ConditionsAreNormal : Type 0
ConditionsAreNormal = (text : List ℕ) (tree : Syntax) (p : Protocol) → Reads text tree p → IsTrue (list_all (has_normal_conditions p) p.transitions)

-- no name of a transition begins with `_`
abbrev pub TransitionNamesArePlain : Type 0
TransitionNamesArePlain = (text : List ℕ) (tree : Syntax) (p : Protocol) → Reads text tree p → IsTrue (list_all (λ t. is_plain t.name) p.transitions)
