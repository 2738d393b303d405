-- The trees of updates, transitions and declarations, and the tree of a printed protocol.
use Rattle.std.specs.Prelude.{ℕ, ◌==◌, if◌then◌else◌, List, [], ◌∷◌, ◌++◌, codes, drop, flat_map, slice_get, Option, Some, None}
use Rattle.std.specs.List.{range_with_len}
use Rattle.std.specs.Option.{option_map_or}
use Rattle.cub_lexer.specs.declared.token.TokenKind.TheVariants as k
use Rattle.cub_parse.specs.declared.tree.Leaf.{Leaf}
use Rattle.cub_parse.specs.declared.tree.Syntax.{Syntax}
use Rattle.cub_parse.specs.declared.tree.DeclNode.{DeclNode}
use Rattle.cub_parse.specs.declared.tree.DeclNode.TheVariants as decls
use Rattle.cub_parse.specs.declared.tree.BodyNode.{BodyNode}
use Rattle.cub_parse.specs.declared.tree.RestNode.{RestNode}
use Rattle.cub_parse.specs.declared.tree.RestNode.TheVariants as rests
use Rattle.cub_parse.specs.declared.tree.UpdateNode.{UpdateNode}
use Rattle.cub_parse.specs.declared.tree.CaseNode.{CaseNode}
use Rattle.cub_parse.specs.declared.tree.RightNode.{RightNode}
use Rattle.cub_parse.specs.declared.tree.RightNode.TheVariants as rights
use Rattle.cub_parse.specs.declared.tree.FormNode.{FormNode}
use Rattle.cub_parse.specs.declared.tree.FormNode.TheVariants as n
use Rattle.cub_parse.specs.Grammar.{Value, update}
use Rattle.cub_proto.specs.declared.literal.Sort.{Sort}
use Rattle.cub_proto.specs.declared.literal.Sort.TheVariants as sorts
use Rattle.cub_proto.specs.declared.literal.Value.TheVariants as values
use Rattle.cub_proto.specs.declared.literal.Value as own
use Rattle.cub_proto.specs.declared.transition.Target.{Target}
use Rattle.cub_proto.specs.declared.transition.Target.TheVariants as targets
use Rattle.cub_proto.specs.declared.transition.Branch.{Branch}
use Rattle.cub_proto.specs.declared.transition.Update.{Update}
use Rattle.cub_proto.specs.declared.transition.Transition.{Transition}
use Rattle.cub_proto.specs.declared.protocol.SortDecl.{SortDecl}
use Rattle.cub_proto.specs.declared.protocol.Decl.{Decl}
use Rattle.cub_proto.specs.declared.protocol.Goal.{Goal}
use Rattle.cub_proto.specs.declared.protocol.Protocol.{Protocol}
use Rattle.cub_proto.specs.Signature.{target_sort}
use Rattle.cub_proto.specs.StateOf.{signature_of}
use Rattle.cub_print.specs.Mark.{Mark, blank, name, joined}
use Rattle.cub_print.specs.Mark.Mark.{word}
use Rattle.cub_print.specs.Terms.{decl_name, constructor_in, place_name}
use Rattle.cub_print.specs.Printed.{and_marks, conjunction_marks, formula_marks, target_marks, branch_marks, update_marks, parameter_marks, grouped_marks, is_trivial, guard_marks, heading_marks, requires_marks, transition_marks, goal_marks, init_marks, bar_marks, type_marks, global_marks, array_marks}
use Rattle.print_laws.specs.Spot.{Spot, first, past, leaf, leaves, in_row}
use Rattle.print_laws.specs.TermTree.{name_tree, index_tree, alone, term_tree, process_tree, integer_tree, conjunction_tree, formula_tree}

-- what an update assigns
abbrev pub value_tree : Protocol → ℕ → Target → own.Value → Spot → RightNode
value_tree p params target (values.Con c) s =
    rights.Sum (alone (name_tree (option_map_or (λ sort. constructor_in p.sorts sort c) (target_sort (signature_of p) target) []) s))
value_tree p params target (values.Read t) s = rights.Sum (alone (term_tree p params t s))
value_tree p params target (values.Proc side) s = rights.Sum (alone (process_tree p params side s))
value_tree p params target (values.Sum base add) s = rights.Sum (integer_tree p params base add s)
value_tree p params target values.Any s = rights.Any (leaf k.Question (codes "?") s)

-- its target
abbrev pub target_tree : Protocol → Target → Spot → Leaf
target_tree p (targets.Global g) s = leaf k.Name (decl_name p.globals g) s
target_tree p (targets.Array a) s = leaf k.Name (decl_name p.arrays a) s

abbrev pub target_index : Protocol → ℕ → Target → Spot → Option Leaf
target_index p params (targets.Global g) s = None
target_index p params (targets.Array a) s = Some (index_tree (decl_name p.arrays a) (place_name params params) s)

-- `| COND : VALUE `
abbrev pub branch_tree : Protocol → ℕ → Target → Branch → Spot → CaseNode
branch_tree p params target b s =
    let cond = past s (word k.Bar (codes "|") ∷ blank ∷ []) in
    let behind = past cond (conjunction_marks p params b.cond) in
    record {
      cond = conjunction_tree p params b.cond cond;
      colon = leaf k.Colon (codes ":") (past behind (blank ∷ []));
      right = value_tree p params target b.value (past behind (blank ∷ word k.Colon (codes ":") ∷ blank ∷ []));
    }

-- behind the `:=`, which stands in the tree where there are no branches
abbrev pub assigned_tree : Protocol → ℕ → Update → List Branch → Leaf → Spot → Value
assigned_tree p params u [] at s = ([], at, value_tree p params u.target u.last s)
assigned_tree p params u (b ∷ bs) at s =
    let start = past s (word k.CaseWord (codes "case") ∷ blank ∷ []) in
    let behind = past start (flat_map (branch_marks p params u.target) (b ∷ bs)) in
    let before = word k.Bar (codes "|") ∷ blank ∷ word k.Underscore (codes "_") ∷ blank ∷ [] in (
      in_row (branch_marks p params u.target) (branch_tree p params u.target) (b ∷ bs) start,
      leaf k.Colon (codes ":") (past behind before),
      value_tree p params u.target u.last (past behind (before ++ word k.Colon (codes ":") ∷ blank ∷ [])),
    )

abbrev pub update_tree : Protocol → ℕ → Update → Spot → UpdateNode
update_tree p params u s =
    let behind = past s (target_marks p params u.target) in
    update (target_tree p u.target s) (target_index p params u.target s)
    (assigned_tree p params u u.branches (leaf k.Assign (codes ":=") (past behind (blank ∷ []))) (past behind (blank ∷ word k.Assign (codes ":=") ∷ blank ∷ [])))

-- the names of so many parameters, behind `(`
abbrev pub parameter_names : ℕ → Spot → List Leaf
parameter_names params s =
    leaves (past s (word k.ParenOpen (codes "(") ∷ [])) (joined (blank ∷ []) (λ place. name (place_name params place) ∷ []) (range_with_len 0 params))

-- `{ FORMULA }`, with these names, the marks of the formula, and its tree
abbrev pub body_tree : List Leaf → List Mark → (Spot → FormNode) → Spot → BodyNode
body_tree names marks formula s =
    let inside = past s (word k.BraceOpen (codes "{") ∷ blank ∷ []) in
    record { names = names; formula = Some (formula inside); close = leaf k.BraceClose (codes "}") (past (past inside marks) (blank ∷ [])) }

-- `(PARAMETERS) { FORMULA }`
abbrev pub named_body_tree : ℕ → List Mark → (Spot → FormNode) → Spot → BodyNode
named_body_tree params marks formula s = body_tree (parameter_names params s) marks formula (past (past s (parameter_marks params)) (blank ∷ []))

-- the formula in `(` and `)`
abbrev pub grouped_tree : (Spot → FormNode) → Spot → FormNode
grouped_tree formula s = n.Group (formula (past s (word k.ParenOpen (codes "(") ∷ [])))

-- `forall_other _0. (OTHERS)`
abbrev pub universal_tree : Protocol → Transition → Spot → FormNode
universal_tree p t s =
    let named = past s (word k.ForallOtherWord (codes "forall_other") ∷ blank ∷ []) in
    n.Forall (leaf k.ForallOtherWord (codes "forall_other") s) (leaf k.Name (codes "_0") named)
    (grouped_tree (formula_tree p t.params t.others) (past named (name (codes "_0") ∷ word k.Dot (codes ".") ∷ blank ∷ [])))

abbrev pub guard_tree : Protocol → Transition → Spot → FormNode
guard_tree p t s =
    if is_trivial t.others
    then formula_tree p t.params t.guard s
    else n.And (
    grouped_tree (formula_tree p t.params t.guard) s
    ∷ universal_tree p t (past (past s (grouped_marks (formula_marks p t.params t.guard))) and_marks) ∷ [])

abbrev pub transition_tree : Protocol → Transition → Spot → RestNode
transition_tree p t s =
    let named = past s (word k.TransitionWord (codes "transition") ∷ blank ∷ []) in
    let guarded = past (past s (heading_marks t)) (word k.RequiresWord (codes "requires") ∷ blank ∷ []) in
    let updates = past (past (past s (heading_marks t)) (requires_marks p t)) (word k.BraceOpen (codes "{") ∷ blank ∷ []) in
    rests.Transition (leaf k.Name t.name named) (parameter_names t.params (past named (name t.name ∷ blank ∷ [])))
    (Some (body_tree [] (guard_marks p t) (guard_tree p t) guarded)) (in_row (update_marks p t.params) (update_tree p t.params) t.updates updates)

abbrev pub goal_tree : Protocol → Goal → Spot → RestNode
goal_tree p g s =
    rests.Unsafe (named_body_tree g.width (conjunction_marks p g.width g.lits) (conjunction_tree p g.width g.lits) (past s (word k.UnsafeWord (codes "unsafe") ∷ blank ∷ [])))

abbrev pub init_tree : Protocol → Spot → BodyNode
init_tree p s = named_body_tree 1 (formula_marks p 1 p.start) (formula_tree p 1 p.start) (past s (word k.InitWord (codes "init") ∷ blank ∷ []))

-- declarations
abbrev pub sort_tree : Protocol → Sort → Spot → Leaf
sort_tree p (sorts.Fin j) s =
    if j == 0 then leaf k.BoolWord (codes "bool") s else leaf k.Name (option_map_or (λ d. d.name) (slice_get p.sorts j) []) s
sort_tree p sorts.Proc s = leaf k.ProcWord (codes "proc") s
sort_tree p sorts.Int s = leaf k.IntWord (codes "int") s

-- constructors with `|` between them
abbrev pub constructors_tree : List (List ℕ) → Spot → List Leaf
constructors_tree [] s = []
constructors_tree (c ∷ cs) s =
    leaf k.Name c s ∷ in_row (λ d. bar_marks ++ name d ∷ []) (λ d r. leaf k.Name d (past r bar_marks)) cs (past s (name c ∷ []))

abbrev pub type_tree : SortDecl → Spot → DeclNode
type_tree d s =
    let named = past s (word k.TypeWord (codes "type") ∷ blank ∷ []) in
    decls.Enumeration (leaf k.Name d.name named) (constructors_tree d.cons (past named (name d.name ∷ blank ∷ word k.Equal (codes "=") ∷ blank ∷ [])))

abbrev pub global_tree : Protocol → Decl → Spot → DeclNode
global_tree p d s =
    let named = past s (word k.VarWord (codes "var") ∷ blank ∷ []) in
    decls.Var (leaf k.Name d.name named) (sort_tree p d.sort (past named (name d.name ∷ blank ∷ word k.Colon (codes ":") ∷ blank ∷ [])))

abbrev pub array_tree : Protocol → Decl → Spot → DeclNode
array_tree p d s =
    let named = past s (word k.ArrayWord (codes "array") ∷ blank ∷ []) in
    let before = name d.name ∷ word k.BracketOpen (codes "[") ∷ word k.ProcWord (codes "proc") ∷ word k.BracketClose (codes "]") ∷ blank ∷ word k.Colon (codes ":") ∷ blank ∷ [] in
    decls.Array (leaf k.Name d.name named) (sort_tree p d.sort (past named before))

-- the tree of the text: declarations, the start, goals and transitions, each behind those before
abbrev pub tree_of : Protocol → Syntax
tree_of p =
    let globals = past first (flat_map type_marks (drop 1 p.sorts)) in
    let arrays = past globals (flat_map (global_marks p) p.globals) in
    let init = past arrays (flat_map (array_marks p) p.arrays) in
    let goals = past init (init_marks p) in
    let transitions = past goals (flat_map (goal_marks p) p.goals) in
    record {
      decls = in_row type_marks type_tree (drop 1 p.sorts) first
          ++ (in_row (global_marks p) (global_tree p) p.globals globals ++ in_row (array_marks p) (array_tree p) p.arrays arrays);
      init = init_tree p init;
      rests = in_row (goal_marks p) (goal_tree p) p.goals goals ++ in_row (transition_marks p) (transition_tree p) p.transitions transitions;
    }
