-- When literals, values, transitions and goals are of the signature, as tests. The type of protocols keeps them.
use Rattle.std.specs.Prelude.{ℕ, ◌+◌, ◌^◌, Bool, true, false, ◌&&◌, ◌||◌, not, nat_lt, nat_le, unsigned_abs, List, [], ◌∷◌, ◌++◌, length, map, Option, Some, None, count_by, flat_map, bytes_eq, codes}
use Rattle.std.specs.List.{list_all, list_any}
use Rattle.cub_base.specs.Name.{is_declarable}
use Rattle.cub_proto.specs.declared.literal.Sort.{Sort}
use Rattle.cub_proto.specs.declared.literal.Term.{Term}
use Rattle.cub_proto.specs.declared.literal.PSide.{PSide}
use Rattle.cub_proto.specs.declared.literal.ISide.{ISide}
use Rattle.cub_proto.specs.declared.literal.ISide.TheVariants.{Zero, At}
use Rattle.cub_proto.specs.declared.literal.Lit.{Lit}
use Rattle.cub_proto.specs.declared.literal.Lit.TheVariants.{FinIn, FinEq, FinNe, ProcEq, ProcNe, Diff}
use Rattle.cub_proto.specs.declared.literal.Value.{Value}
use Rattle.cub_proto.specs.declared.transition.Target.{Target}
use Rattle.cub_proto.specs.declared.transition.Branch.{Branch}
use Rattle.cub_proto.specs.declared.transition.Update.{Update}
use Rattle.cub_proto.specs.declared.transition.Transition.{Transition}
use Rattle.cub_proto.specs.declared.protocol.SortDecl.{SortDecl}
use Rattle.cub_proto.specs.declared.protocol.Decl.{Decl}
use Rattle.cub_proto.specs.declared.protocol.Goal.{Goal}
use Rattle.cub_proto.specs.Signature.{Signature, sort_of, declared_sort, target_sort, constructors_of, constructors_at, same_sort, is_sort, same_finite}

-- the term is there, with its place below the width, and has the sort
abbrev pub place_fits : ℕ → Term → Bool
place_fits width (Term.Global g) = true
place_fits width (Term.Cell a p) = nat_lt p width

abbrev pub term_fits : Signature → ℕ → Sort → Term → Bool
term_fits sig width sort t = is_sort (sort_of sig t) sort && place_fits width t

abbrev pub process_side_fits : Signature → ℕ → PSide → Bool
process_side_fits sig width (PSide.Global g) = is_sort (declared_sort sig.globals g) Sort.Proc
process_side_fits sig width (PSide.Place p) = nat_lt p width

abbrev pub integer_side_fits : Signature → ℕ → ISide → Bool
integer_side_fits sig width Zero = true
integer_side_fits sig width (At t) = term_fits sig width Sort.Int t

abbrev pub is_finite : Option Sort → Bool
is_finite (Some (Sort.Fin k)) = true
is_finite (Some Sort.Proc) = false
is_finite (Some Sort.Int) = false
is_finite None = false

-- the literal's terms are there, with places below the width, and of the sorts that it asks for,
-- and its mask has no bit beyond the constructors of its term's sort
abbrev pub literal_fits : Signature → ℕ → Lit → Bool
literal_fits sig width (FinIn t mask) = is_finite (sort_of sig t) && place_fits width t && nat_lt mask (2 ^ constructors_at sig t)
literal_fits sig width (FinEq a b) = same_finite (sort_of sig a) (sort_of sig b) && place_fits width a && place_fits width b
literal_fits sig width (FinNe a b) = same_finite (sort_of sig a) (sort_of sig b) && place_fits width a && place_fits width b
literal_fits sig width (ProcEq a b) = process_side_fits sig width a && process_side_fits sig width b
literal_fits sig width (ProcNe a b) = process_side_fits sig width a && process_side_fits sig width b
literal_fits sig width (Diff a b bound) = integer_side_fits sig width a && integer_side_fits sig width b

-- the size of the literal's bound is at most the limit
abbrev pub is_bounded : ℕ → Lit → Bool
is_bounded limit (FinIn t mask) = true
is_bounded limit (FinEq a b) = true
is_bounded limit (FinNe a b) = true
is_bounded limit (ProcEq a b) = true
is_bounded limit (ProcNe a b) = true
is_bounded limit (Diff a b bound) = nat_le (unsigned_abs bound) limit

-- the greatest bound of a literal of a protocol
abbrev pub greatest_bound : ℕ
greatest_bound = 2000000001

-- the greatest constant of a value of a protocol
abbrev pub greatest_constant : ℕ
greatest_constant = 1000000000

-- a conjunction of a protocol: at most 64 literals that fit
abbrev pub conjunction_fits : Signature → ℕ → List Lit → Bool
conjunction_fits sig width lits =
    nat_le (length lits) 64 && list_all (literal_fits sig width) lits && list_all (is_bounded greatest_bound) lits

-- a normal form of a protocol: at most 64 conjunctions
abbrev pub formula_fits : Signature → ℕ → List (List Lit) → Bool
formula_fits sig width conjs = nat_le (length conjs) 64 && list_all (conjunction_fits sig width) conjs

-- the value is of the sort, over places below the width
abbrev pub value_fits : Signature → ℕ → Sort → Value → Bool
value_fits sig width (Sort.Fin k) (Value.Con c) = nat_lt c (constructors_of sig (Sort.Fin k))
value_fits sig width (Sort.Fin k) (Value.Read t) = term_fits sig width (Sort.Fin k) t
value_fits sig width (Sort.Fin k) (Value.Proc side) = false
value_fits sig width (Sort.Fin k) (Value.Sum base add) = false
value_fits sig width (Sort.Fin k) Value.Any = true
value_fits sig width Sort.Proc (Value.Con c) = false
value_fits sig width Sort.Proc (Value.Read t) = false
value_fits sig width Sort.Proc (Value.Proc side) = process_side_fits sig width side
value_fits sig width Sort.Proc (Value.Sum base add) = false
value_fits sig width Sort.Proc Value.Any = true
value_fits sig width Sort.Int (Value.Con c) = false
value_fits sig width Sort.Int (Value.Read t) = false
value_fits sig width Sort.Int (Value.Proc side) = false
value_fits sig width Sort.Int (Value.Sum base add) = integer_side_fits sig width base && nat_le (unsigned_abs add) greatest_constant
value_fits sig width Sort.Int Value.Any = false

abbrev pub branch_fits : Signature → ℕ → Sort → Branch → Bool
branch_fits sig width sort b = conjunction_fits sig width b.cond && value_fits sig width sort b.value

-- the places that an update's literals may use: the parameters, and for an array the process whose cell is written
abbrev pub update_width : ℕ → Target → ℕ
update_width params (Target.Global g) = params
update_width params (Target.Array a) = params + 1

abbrev pub update_fits_sort : Signature → ℕ → Option Sort → Update → Bool
update_fits_sort sig width None u = false
update_fits_sort sig width (Some sort) u =
    nat_le (length u.branches) 64 && list_all (branch_fits sig width sort) u.branches && value_fits sig width sort u.last

abbrev pub update_fits : Signature → ℕ → Update → Bool
update_fits sig params u = update_fits_sort sig (update_width params u.target) (target_sort sig u.target) u

-- globals come before arrays, each group by number
abbrev pub target_before : Target → Target → Bool
target_before (Target.Global g) (Target.Global h) = nat_lt g h
target_before (Target.Global g) (Target.Array a) = true
target_before (Target.Array a) (Target.Global g) = false
target_before (Target.Array a) (Target.Array b) = nat_lt a b

-- the targets rise strictly, so each has at most one update
abbrev pub targets_rise : List Update → Bool
targets_rise [] = true
targets_rise (u ∷ us) = list_all (λ v. target_before u.target v.target) us && targets_rise us

abbrev pub is_any : Value → Bool
is_any (Value.Con c) = false
is_any (Value.Read t) = false
is_any (Value.Proc side) = false
is_any (Value.Sum base add) = false
is_any Value.Any = true

-- the update can give any value
abbrev pub takes_any : Update → Bool
takes_any u = is_any u.last || list_any (λ b. is_any b.value) u.branches

-- the update can give any process to a global
abbrev pub picks_process : Signature → Update → Bool
picks_process sig u = is_sort (target_sort sig u.target) Sort.Proc && takes_any u

-- a transition: at most 3 parameters, and at most 3 together with the process globals that take any value
abbrev pub transition_fits : Signature → Transition → Bool
transition_fits sig t =
    is_declarable t.name && nat_le (t.params + count_by (picks_process sig) t.updates) 3
    && formula_fits sig t.params t.guard && formula_fits sig (t.params + 1) t.others
    && list_all (update_fits sig t.params) t.updates && targets_rise t.updates

-- an unsafe conjunction: at most 4 places
abbrev pub goal_fits : Signature → Goal → Bool
goal_fits sig g = nat_le g.width 4 && conjunction_fits sig g.width g.lits

-- both sides are globals, or both are places
abbrev pub sides_alike : PSide → PSide → Bool
sides_alike (PSide.Global g) (PSide.Global h) = true
sides_alike (PSide.Global g) (PSide.Place p) = false
sides_alike (PSide.Place p) (PSide.Global g) = false
sides_alike (PSide.Place p) (PSide.Place q) = true

-- a process global is not compared with a place
abbrev pub compares_no_place : Lit → Bool
compares_no_place (FinIn t mask) = true
compares_no_place (FinEq a b) = true
compares_no_place (FinNe a b) = true
compares_no_place (ProcEq a b) = sides_alike a b
compares_no_place (ProcNe a b) = sides_alike a b
compares_no_place (Diff a b bound) = true

-- the start formula: at most one conjunction, over the one place of each process
abbrev pub start_fits : Signature → List (List Lit) → Bool
start_fits sig conjs =
    nat_le (length conjs) 1 && list_all (conjunction_fits sig 1) conjs && list_all (list_all compares_no_place) conjs

-- a declared sort: a name and 1 to 64 constructors
abbrev pub sort_decl_fits : SortDecl → Bool
sort_decl_fits d = is_declarable d.name && nat_lt 0 (length d.cons) && nat_le (length d.cons) 64 && list_all is_declarable d.cons

abbrev pub constructors_are_false_true : List (List ℕ) → Bool
constructors_are_false_true [] = false
constructors_are_false_true (c ∷ []) = false
constructors_are_false_true (c ∷ d ∷ []) = bytes_eq c (codes "False") && bytes_eq d (codes "True")
constructors_are_false_true (c ∷ d ∷ e ∷ ds) = false

-- sort 0 is bool with False and True
abbrev pub is_bool : SortDecl → Bool
is_bool d = bytes_eq d.name (codes "bool") && constructors_are_false_true d.cons

abbrev pub sorts_fit : List SortDecl → Bool
sorts_fit [] = false
sorts_fit (d ∷ ds) = is_bool d && list_all sort_decl_fits ds

-- the sort is there
abbrev pub sort_is_there : List SortDecl → Sort → Bool
sort_is_there sorts (Sort.Fin k) = nat_lt k (length sorts)
sort_is_there sorts Sort.Proc = true
sort_is_there sorts Sort.Int = true

abbrev pub global_fits : List SortDecl → Decl → Bool
global_fits sorts d = is_declarable d.name && sort_is_there sorts d.sort

-- an array holds no processes
abbrev pub array_fits : List SortDecl → Decl → Bool
array_fits sorts d = is_declarable d.name && sort_is_there sorts d.sort && not (same_sort d.sort Sort.Proc)

-- none of the names is among those seen, and none stands twice
abbrev pub are_new : List (List ℕ) → List (List ℕ) → Bool
are_new seen [] = true
are_new seen (x ∷ xs) = not (list_any (bytes_eq x) seen) && are_new (seen ++ x ∷ []) xs

-- no name stands twice
abbrev pub are_distinct : List (List ℕ) → Bool
are_distinct names = are_new [] names

-- the names of constructors, globals and arrays, which share one space
abbrev pub value_names : List SortDecl → List Decl → List Decl → List (List ℕ)
value_names sorts globals arrays = flat_map (λ d. d.cons) sorts ++ map (λ d. d.name) globals ++ map (λ d. d.name) arrays

-- the names of each space are distinct
abbrev pub names_are_distinct : List SortDecl → List Decl → List Decl → List Transition → Bool
names_are_distinct sorts globals arrays transitions =
    are_distinct (map (λ d. d.name) sorts) && are_distinct (value_names sorts globals arrays)
    && are_distinct (map (λ t. t.name) transitions)

abbrev pub integers_in : List Decl → ℕ
integers_in decls = count_by (λ d. same_sort d.sort Sort.Int) decls

-- how many of each there may be
abbrev pub counts_fit : List SortDecl → List Decl → List Decl → List Goal → List Transition → Bool
counts_fit sorts globals arrays goals transitions =
    nat_le (length sorts) 257 && nat_le (length globals) 64 && nat_le (integers_in globals) 16 && nat_le (length arrays) 32
    && nat_le (integers_in arrays) 8 && nat_le (length goals) 4096 && nat_le (length transitions) 256
