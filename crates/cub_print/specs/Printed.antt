-- The marks of formulas, updates, transitions and whole protocols.
use Rattle.std.specs.Prelude.{ℕ, ◌==◌, if◌then◌else◌, Bool, true, false, List, [], ◌∷◌, ◌++◌, drop, codes, flat_map, slice_get}
use Rattle.std.specs.List.{range_with_len}
use Rattle.cub_lexer.specs.declared.token.TokenKind.TheVariants as k
use Rattle.cub_proto.specs.declared.literal.Sort.{Sort}
use Rattle.cub_proto.specs.declared.literal.Sort.TheVariants as sorts
use Rattle.cub_proto.specs.declared.literal.Term.TheVariants as terms
use Rattle.cub_proto.specs.declared.literal.Lit.{Lit}
use Rattle.cub_proto.specs.declared.literal.Value.{Value}
use Rattle.cub_proto.specs.declared.literal.Value.TheVariants as values
use Rattle.cub_proto.specs.declared.transition.Target.{Target}
use Rattle.cub_proto.specs.declared.transition.Target.TheVariants as targets
use Rattle.cub_proto.specs.declared.transition.Branch.{Branch}
use Rattle.cub_proto.specs.declared.transition.Update.{Update}
use Rattle.cub_proto.specs.declared.transition.Transition.{Transition}
use Rattle.cub_proto.specs.declared.protocol.SortDecl.{SortDecl}
use Rattle.cub_proto.specs.declared.protocol.Decl.{Decl}
use Rattle.cub_proto.specs.declared.protocol.Goal.{Goal}
use Rattle.cub_proto.specs.declared.protocol.Protocol.{Protocol}
use Rattle.cub_proto.specs.Signature.{target_sort}
use Rattle.cub_proto.specs.StateOf.{signature_of}
use Rattle.std.specs.Option.{option_map_or}
use Rattle.cub_print.specs.Mark.{Mark, blank, line_feed, name, joined}
use Rattle.cub_print.specs.Mark.Mark.{word}
use Rattle.cub_print.specs.Terms.{constructor_in, place_name, term_marks, process_marks, integer_marks, literal_marks}

abbrev pub and_marks : List Mark
and_marks = blank ∷ word k.And (codes "&&") ∷ blank ∷ []

abbrev pub or_marks : List Mark
or_marks = blank ∷ word k.Or (codes "||") ∷ blank ∷ []

-- literals joined by `&&`; none is `True`
abbrev pub conjunction_marks : Protocol → ℕ → List Lit → List Mark
conjunction_marks p params [] = name (codes "True") ∷ []
conjunction_marks p params (l ∷ ls) = joined and_marks (literal_marks p params) (l ∷ ls)

-- conjunctions joined by `||`; none is `False`
abbrev pub formula_marks : Protocol → ℕ → List (List Lit) → List Mark
formula_marks p params [] = name (codes "False") ∷ []
formula_marks p params (c ∷ cs) = joined or_marks (conjunction_marks p params) (c ∷ cs)

-- a value of an update of the target
abbrev pub value_marks : Protocol → ℕ → Target → Value → List Mark
value_marks p params target (values.Con c) =
    name (option_map_or (λ sort. constructor_in p.sorts sort c) (target_sort (signature_of p) target) []) ∷ []
value_marks p params target (values.Read t) = term_marks p params t
value_marks p params target (values.Proc side) = process_marks p params side
value_marks p params target (values.Sum base add) = integer_marks p params base add
value_marks p params target values.Any = word k.Question (codes "?") ∷ []

-- an array is updated for the variable `_0`
abbrev pub target_marks : Protocol → ℕ → Target → List Mark
target_marks p params (targets.Global g) = term_marks p params (terms.Global g)
target_marks p params (targets.Array a) = term_marks p params (terms.Cell a params)

-- `| COND : VALUE `
abbrev pub branch_marks : Protocol → ℕ → Target → Branch → List Mark
branch_marks p params target b =
    word k.Bar (codes "|") ∷ blank ∷ conjunction_marks p params b.cond
    ++ blank ∷ word k.Colon (codes ":") ∷ blank ∷ value_marks p params target b.value ++ blank ∷ []

-- what is assigned: the value, or the branches and the last value
abbrev pub assigned_marks : Protocol → ℕ → Update → List Branch → List Mark
assigned_marks p params u [] = value_marks p params u.target u.last
assigned_marks p params u (b ∷ bs) =
    word k.CaseWord (codes "case") ∷ blank ∷ flat_map (branch_marks p params u.target) (b ∷ bs)
    ++ word k.Bar (codes "|") ∷ blank ∷ word k.Underscore (codes "_") ∷ blank ∷ word k.Colon (codes ":") ∷ blank ∷ value_marks p params u.target u.last

-- `TARGET := ASSIGNED; `
abbrev pub update_marks : Protocol → ℕ → Update → List Mark
update_marks p params u =
    target_marks p params u.target ++ blank ∷ word k.Assign (codes ":=") ∷ blank ∷ assigned_marks p params u u.branches
    ++ word k.Semicolon (codes ";") ∷ blank ∷ []

-- `(_1 _2)`: so many parameters
abbrev pub parameter_marks : ℕ → List Mark
parameter_marks params =
    word k.ParenOpen (codes "(") ∷ joined (blank ∷ []) (λ place. name (place_name params place) ∷ []) (range_with_len 0 params)
    ++ word k.ParenClose (codes ")") ∷ []

abbrev pub grouped_marks : List Mark → List Mark
grouped_marks marks = word k.ParenOpen (codes "(") ∷ marks ++ word k.ParenClose (codes ")") ∷ []

abbrev pub braced_marks : List Mark → List Mark
braced_marks marks = word k.BraceOpen (codes "{") ∷ blank ∷ marks ++ blank ∷ word k.BraceClose (codes "}") ∷ []

-- the list of one empty conjunction, which is how a protocol has no universal guard
abbrev pub is_trivial : List (List Lit) → Bool
is_trivial [] = false
is_trivial ([] ∷ []) = true
is_trivial ([] ∷ c ∷ cs) = false
is_trivial ((l ∷ ls) ∷ cs) = false

-- `forall_other _0. (OTHERS)`
unfoldable pub universal_marks : Protocol → Transition → List Mark
universal_marks p t =
    word k.ForallOtherWord (codes "forall_other") ∷ blank ∷ name (codes "_0") ∷ word k.Dot (codes ".") ∷ blank
    ∷ grouped_marks (formula_marks p t.params t.others)

-- the guard, and the universal guard where there is one
abbrev pub guard_marks : Protocol → Transition → List Mark
guard_marks p t =
    if is_trivial t.others
    then formula_marks p t.params t.guard
    else grouped_marks (formula_marks p t.params t.guard) ++ and_marks ++ universal_marks p t

-- `transition NAME (PARAMETERS) `
unfoldable pub heading_marks : Transition → List Mark
heading_marks t = word k.TransitionWord (codes "transition") ∷ blank ∷ name t.name ∷ blank ∷ parameter_marks t.params ++ blank ∷ []

-- `requires { GUARD } `
unfoldable pub requires_marks : Protocol → Transition → List Mark
requires_marks p t = word k.RequiresWord (codes "requires") ∷ blank ∷ braced_marks (guard_marks p t) ++ blank ∷ []

-- `{ UPDATES}`
unfoldable pub effect_marks : Protocol → Transition → List Mark
effect_marks p t =
    word k.BraceOpen (codes "{") ∷ blank ∷ flat_map (update_marks p t.params) t.updates ++ word k.BraceClose (codes "}") ∷ line_feed ∷ []

abbrev pub transition_marks : Protocol → Transition → List Mark
transition_marks p t = heading_marks t ++ requires_marks p t ++ effect_marks p t

-- `unsafe (PARAMETERS) { CONJUNCTION }`
abbrev pub goal_marks : Protocol → Goal → List Mark
goal_marks p g =
    word k.UnsafeWord (codes "unsafe") ∷ blank ∷ parameter_marks g.width
    ++ blank ∷ braced_marks (conjunction_marks p g.width g.lits) ++ line_feed ∷ []

-- `init (_1) { FORMULA }`
abbrev pub init_marks : Protocol → List Mark
init_marks p =
    word k.InitWord (codes "init") ∷ blank ∷ parameter_marks 1 ++ blank ∷ braced_marks (formula_marks p 1 p.start) ++ line_feed ∷ []

-- `bool`, `int`, `proc` or the name of a declared sort
abbrev pub sort_mark : Protocol → Sort → Mark
sort_mark p (sorts.Fin j) = if j == 0 then word k.BoolWord (codes "bool") else name (option_map_or (λ d. d.name) (slice_get p.sorts j) [])
sort_mark p sorts.Proc = word k.ProcWord (codes "proc")
sort_mark p sorts.Int = word k.IntWord (codes "int")

-- between constructors
abbrev pub bar_marks : List Mark
bar_marks = blank ∷ word k.Bar (codes "|") ∷ blank ∷ []

-- `type NAME = CONSTRUCTOR | CONSTRUCTOR`
abbrev pub type_marks : SortDecl → List Mark
type_marks d =
    word k.TypeWord (codes "type") ∷ blank ∷ name d.name ∷ blank ∷ word k.Equal (codes "=") ∷ blank
    ∷ joined bar_marks (λ c. name c ∷ []) d.cons ++ line_feed ∷ []

abbrev pub global_marks : Protocol → Decl → List Mark
global_marks p d =
    word k.VarWord (codes "var") ∷ blank ∷ name d.name ∷ blank ∷ word k.Colon (codes ":") ∷ blank ∷ sort_mark p d.sort ∷ line_feed ∷ []

abbrev pub array_marks : Protocol → Decl → List Mark
array_marks p d =
    word k.ArrayWord (codes "array") ∷ blank ∷ name d.name ∷ word k.BracketOpen (codes "[") ∷ word k.ProcWord (codes "proc") ∷ word k.BracketClose (codes "]")
    ∷ blank ∷ word k.Colon (codes ":") ∷ blank ∷ sort_mark p d.sort ∷ line_feed ∷ []

-- the canonical text: one declaration a line
abbrev pub protocol_marks : Protocol → List Mark
protocol_marks p =
    flat_map type_marks (drop 1 p.sorts) ++ flat_map (global_marks p) p.globals ++ flat_map (array_marks p) p.arrays
    ++ init_marks p ++ flat_map (goal_marks p) p.goals ++ flat_map (transition_marks p) p.transitions
