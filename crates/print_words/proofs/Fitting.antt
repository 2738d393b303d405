-- The words of a printed protocol fit one another, by their kinds.
use Rattle.std.proofs.Common.{ℕ, zero, suc, Bool, true, false, List, [], ◌∷◌, ◌++◌, drop, ℤ, pos, negsuc, ◌-ℤ◌, refl}
use Rattle.std.specs.Prelude.{◌==◌, codes, int_lt, count_ones, slice_get, if◌then◌else◌, flat_map}
use Rattle.std.specs.List.{range_with_len}
use Rattle.std.specs.Option.{option_map_or}
use Rattle.std.specs.Int.{w64, trailing_zeros, trailing_ones}
use Rattle.cub_lexer.specs.declared.token.TokenKind.{TokenKind}
use Rattle.cub_lexer.specs.declared.token.TokenKind.TheVariants as k
use Rattle.cub_proto.specs.declared.literal.Sort.{Sort}
use Rattle.cub_proto.specs.declared.literal.Sort.TheVariants as sorts
use Rattle.cub_proto.specs.declared.literal.Term.{Term}
use Rattle.cub_proto.specs.declared.literal.Term.TheVariants as terms
use Rattle.cub_proto.specs.declared.literal.PSide.{PSide}
use Rattle.cub_proto.specs.declared.literal.PSide.TheVariants as sides
use Rattle.cub_proto.specs.declared.literal.ISide.{ISide}
use Rattle.cub_proto.specs.declared.literal.ISide.TheVariants.{Zero, At}
use Rattle.cub_proto.specs.declared.literal.Lit.{Lit}
use Rattle.cub_proto.specs.declared.literal.Lit.TheVariants.{FinIn, FinEq, FinNe, ProcEq, ProcNe, Diff}
use Rattle.cub_proto.specs.declared.literal.Value.{Value}
use Rattle.cub_proto.specs.declared.literal.Value.TheVariants as values
use Rattle.cub_proto.specs.declared.transition.Target.{Target}
use Rattle.cub_proto.specs.declared.transition.Target.TheVariants as targets
use Rattle.cub_proto.specs.declared.transition.Branch.{Branch}
use Rattle.cub_proto.specs.declared.transition.Update.{Update}
use Rattle.cub_proto.specs.declared.transition.Transition.{Transition}
use Rattle.cub_proto.specs.declared.protocol.SortDecl.{SortDecl}
use Rattle.cub_proto.specs.declared.protocol.Decl.{Decl}
use Rattle.cub_proto.specs.declared.protocol.Goal.{Goal}
use Rattle.cub_proto.specs.declared.protocol.Protocol.{Protocol}
use Rattle.cub_print.specs.Mark.{Mark, blank, line_feed, name, joined}
use Rattle.cub_print.specs.Mark.Mark.{word}
use Rattle.cub_print.specs.Terms.{place_name, term_marks, process_marks, constant_marks, added_marks, integer_marks, compared_marks, literal_marks, constructor_name, difference_marks, mask_marks}
use Rattle.cub_print.specs.Printed.{and_marks, or_marks, conjunction_marks, formula_marks, value_marks, target_marks, branch_marks, assigned_marks, update_marks, parameter_marks, grouped_marks, braced_marks, is_trivial, universal_marks, guard_marks, heading_marks, requires_marks, effect_marks, transition_marks, goal_marks, init_marks, sort_mark, bar_marks, type_marks, global_marks, array_marks, protocol_marks}
use Rattle.print_words.proofs.Seams.{free, held, Goes, goes_on, goes_each}

-- a part of a line: what stands between two blanks or signs
abbrev IsPart : List Mark → Type 0
IsPart ms = Goes free ms held

-- whole lines, or parts with a blank at their end
abbrev AreLines : List Mark → Type 0
AreLines ms = Goes free ms free

chosen : (P : List Mark → Type 0) (b : Bool) (x y : List Mark) → P x → P y → P (if b then x else y)
chosen P true x y h g = h
chosen P false x y h g = g

-- parts behind separators
joined_part : {A : Type 0} (separator : List Mark) (marks : A → List Mark) (x : A) (xs : List A) → Goes held separator free → ((y : A) → IsPart (marks y)) → IsPart (joined separator marks (x ∷ xs))
joined_part separator marks x xs s h = goes_on free held held (marks x) (flat_map (λ y. separator ++ marks y) xs) (h x)
    (goes_each held (λ y. separator ++ marks y) xs (λ y. goes_on held free held separator (marks y) s (h y)))

-- terms and literals
term_part : (p : Protocol) (params : ℕ) (t : Term) → IsPart (term_marks p params t)
term_part p params (terms.Global g) = refl
term_part p params (terms.Cell a place) = refl

process_part : (p : Protocol) (params : ℕ) (side : PSide) → IsPart (process_marks p params side)
process_part p params (sides.Global g) = refl
process_part p params (sides.Place place) = refl

constant_part : (z : ℤ) → IsPart (constant_marks z)
constant_part (pos n) = refl
constant_part (negsuc n) = refl

added_goes : (z : ℤ) → Goes held (added_marks z) held
added_goes (pos zero) = refl
added_goes (pos (suc n)) = refl
added_goes (negsuc n) = refl

integer_part : (p : Protocol) (params : ℕ) (side : ISide) (add : ℤ) → IsPart (integer_marks p params side add)
integer_part p params Zero add = constant_part add
integer_part p params (At t) add = goes_on free held held (term_marks p params t) (added_marks add) (term_part p params t) (added_goes add)

compared_part : (a : List Mark) (kind : TokenKind) (sign : List ℕ) (b : List Mark) → IsPart a → Goes held (blank ∷ word kind sign ∷ blank ∷ []) free → IsPart b → IsPart (compared_marks a kind sign b)
compared_part a kind sign b h s g = goes_on free held held a ((blank ∷ word kind sign ∷ blank ∷ []) ++ b) h (goes_on held free held (blank ∷ word kind sign ∷ blank ∷ []) b s g)

difference_part : (p : Protocol) (params : ℕ) (a b : ISide) (bound : ℤ) → IsPart (difference_marks p params a b bound)
difference_part p params a b bound =
    let first = compared_marks (integer_marks p params a (pos 1000000000 -ℤ bound)) k.LessOrEqual (codes "<=") (integer_marks p params b (pos 1000000000)) in
    let second = compared_marks (integer_marks p params a (negsuc 1000000000 -ℤ bound)) k.Less (codes "<") (integer_marks p params b (negsuc 999999999)) in
    let third = compared_marks (integer_marks p params a (pos 0)) k.LessOrEqual (codes "<=") (integer_marks p params b bound) in
    chosen IsPart (int_lt (pos 1000000000) bound) first (if int_lt bound (negsuc 999999999) then second else third) (sums (pos 1000000000 -ℤ bound) k.LessOrEqual (codes "<=") (pos 1000000000) refl)
    (chosen IsPart (int_lt bound (negsuc 999999999)) second third (sums (negsuc 1000000000 -ℤ bound) k.Less (codes "<") (negsuc 999999999) refl) (sums (pos 0) k.LessOrEqual (codes "<=") bound refl))
  where
    sums : (x : ℤ) (kind : TokenKind) (sign : List ℕ) (y : ℤ) → Goes held (blank ∷ word kind sign ∷ blank ∷ []) free → IsPart (compared_marks (integer_marks p params a x) kind sign (integer_marks p params b y))
    sums x kind sign y s = compared_part (integer_marks p params a x) kind sign (integer_marks p params b y) (integer_part p params a x) s (integer_part p params b y)

mask_part : (p : Protocol) (params : ℕ) (t : Term) (mask : ℕ) → IsPart (mask_marks p params t mask)
mask_part p params t mask = chosen IsPart (count_ones mask == 1)
    (compared_marks (term_marks p params t) k.Equal (codes "=") (name (constructor_name p t (trailing_zeros w64 mask)) ∷ []))
    (compared_marks (term_marks p params t) k.NotEqual (codes "<>") (name (constructor_name p t (trailing_ones w64 mask)) ∷ []))
    (compared_part (term_marks p params t) k.Equal (codes "=") (name (constructor_name p t (trailing_zeros w64 mask)) ∷ []) (term_part p params t) refl refl)
    (compared_part (term_marks p params t) k.NotEqual (codes "<>") (name (constructor_name p t (trailing_ones w64 mask)) ∷ []) (term_part p params t) refl refl)

literal_part : (p : Protocol) (params : ℕ) (l : Lit) → IsPart (literal_marks p params l)
literal_part p params (FinIn t mask) = mask_part p params t mask
literal_part p params (FinEq a b) = compared_part (term_marks p params a) k.Equal (codes "=") (term_marks p params b) (term_part p params a) refl (term_part p params b)
literal_part p params (FinNe a b) = compared_part (term_marks p params a) k.NotEqual (codes "<>") (term_marks p params b) (term_part p params a) refl (term_part p params b)
literal_part p params (ProcEq a b) = compared_part (process_marks p params a) k.Equal (codes "=") (process_marks p params b) (process_part p params a) refl (process_part p params b)
literal_part p params (ProcNe a b) = compared_part (process_marks p params a) k.NotEqual (codes "<>") (process_marks p params b) (process_part p params a) refl (process_part p params b)
literal_part p params (Diff a b bound) = difference_part p params a b bound

conjunction_part : (p : Protocol) (params : ℕ) (lits : List Lit) → IsPart (conjunction_marks p params lits)
conjunction_part p params [] = refl
conjunction_part p params (l ∷ ls) = joined_part and_marks (literal_marks p params) l ls refl (literal_part p params)

formula_part : (p : Protocol) (params : ℕ) (conjs : List (List Lit)) → IsPart (formula_marks p params conjs)
formula_part p params [] = refl
formula_part p params (c ∷ cs) = joined_part or_marks (conjunction_marks p params) c cs refl (conjunction_part p params)

-- updates
value_part : (p : Protocol) (params : ℕ) (target : Target) (v : Value) → IsPart (value_marks p params target v)
value_part p params target (values.Con c) = refl
value_part p params target (values.Read t) = term_part p params t
value_part p params target (values.Proc side) = process_part p params side
value_part p params target (values.Sum base add) = integer_part p params base add
value_part p params target values.Any = refl

target_part : (p : Protocol) (params : ℕ) (target : Target) → IsPart (target_marks p params target)
target_part p params (targets.Global g) = refl
target_part p params (targets.Array a) = refl

branch_lines : (p : Protocol) (params : ℕ) (target : Target) (b : Branch) → AreLines (branch_marks p params target b)
branch_lines p params target b =
    let cond = conjunction_marks p params b.cond in
    let value = value_marks p params target b.value in
    let coloned = blank ∷ word k.Colon (codes ":") ∷ blank ∷ value in
    goes_on free held free (cond ++ coloned) (blank ∷ []) (goes_on free held held cond coloned (conjunction_part p params b.cond) (value_part p params target b.value)) refl

assigned_part : (p : Protocol) (params : ℕ) (u : Update) (bs : List Branch) → IsPart (assigned_marks p params u bs)
assigned_part p params u [] = value_part p params u.target u.last
assigned_part p params u (b ∷ bs) =
    let value = value_marks p params u.target u.last in
    goes_on free free held (flat_map (branch_marks p params u.target) (b ∷ bs))
    (word k.Bar (codes "|") ∷ blank ∷ word k.Underscore (codes "_") ∷ blank ∷ word k.Colon (codes ":") ∷ blank ∷ value)
    (goes_each free (branch_marks p params u.target) (b ∷ bs) (branch_lines p params u.target)) (value_part p params u.target u.last)

update_lines : (p : Protocol) (params : ℕ) (u : Update) → AreLines (update_marks p params u)
update_lines p params u =
    let assigned = assigned_marks p params u u.branches in
    let target = target_marks p params u.target in
    let set = blank ∷ word k.Assign (codes ":=") ∷ blank ∷ assigned in
    goes_on free held free (target ++ set) (word k.Semicolon (codes ";") ∷ blank ∷ [])
    (goes_on free held held target set (target_part p params u.target) (assigned_part p params u u.branches)) refl

-- transitions
parameters_of : (params : ℕ) (places : List ℕ) → Goes free (joined (blank ∷ []) (λ place. name (place_name params place) ∷ []) places ++ word k.ParenClose (codes ")") ∷ []) held
parameters_of params [] = refl
parameters_of params (place ∷ places) =
    goes_on free held held (joined (blank ∷ []) (λ q. name (place_name params q) ∷ []) (place ∷ places)) (word k.ParenClose (codes ")") ∷ [])
    (joined_part (blank ∷ []) (λ q. name (place_name params q) ∷ []) place places refl (λ q. refl)) refl

parameters_part : (params : ℕ) → IsPart (parameter_marks params)
parameters_part params = parameters_of params (range_with_len 0 params)

grouped_part : (ms : List Mark) → IsPart ms → IsPart (grouped_marks ms)
grouped_part ms h = goes_on free held held ms (word k.ParenClose (codes ")") ∷ []) h refl

braced_part : (ms : List Mark) → IsPart ms → IsPart (braced_marks ms)
braced_part ms h = goes_on free held held ms (blank ∷ word k.BraceClose (codes "}") ∷ []) h refl

universal_part : (p : Protocol) (t : Transition) → IsPart (universal_marks p t)
unfolding universal_marks
universal_part p t = grouped_part (formula_marks p t.params t.others) (formula_part p t.params t.others)

guard_part : (p : Protocol) (t : Transition) → IsPart (guard_marks p t)
guard_part p t =
    let own = formula_marks p t.params t.guard in
    chosen IsPart (is_trivial t.others) own (grouped_marks own ++ and_marks ++ universal_marks p t) (formula_part p t.params t.guard)
    (goes_on free free held (grouped_marks own ++ and_marks) (universal_marks p t)
    (goes_on free held free (grouped_marks own) and_marks (grouped_part own (formula_part p t.params t.guard)) refl) (universal_part p t))

heading_lines : (t : Transition) → AreLines (heading_marks t)
unfolding heading_marks
heading_lines t = goes_on free held free (parameter_marks t.params) (blank ∷ []) (parameters_part t.params) refl

requires_lines : (p : Protocol) (t : Transition) → AreLines (requires_marks p t)
unfolding requires_marks
requires_lines p t = goes_on free held free (braced_marks (guard_marks p t)) (blank ∷ []) (braced_part (guard_marks p t) (guard_part p t)) refl

effect_lines : (p : Protocol) (t : Transition) → AreLines (effect_marks p t)
unfolding effect_marks
effect_lines p t = goes_on free free free (flat_map (update_marks p t.params) t.updates) (word k.BraceClose (codes "}") ∷ line_feed ∷ [])
    (goes_each free (update_marks p t.params) t.updates (update_lines p t.params)) refl

transition_lines : (p : Protocol) (t : Transition) → AreLines (transition_marks p t)
transition_lines p t = goes_on free free free (heading_marks t ++ requires_marks p t) (effect_marks p t)
    (goes_on free free free (heading_marks t) (requires_marks p t) (heading_lines t) (requires_lines p t)) (effect_lines p t)

-- goals, the start, declarations
body_lines : (params : ℕ) (ms : List Mark) → IsPart ms → AreLines (parameter_marks params ++ blank ∷ braced_marks ms ++ line_feed ∷ [])
body_lines params ms h = goes_on free held free (parameter_marks params ++ blank ∷ braced_marks ms) (line_feed ∷ [])
    (goes_on free held held (parameter_marks params) (blank ∷ braced_marks ms) (parameters_part params) (braced_part ms h)) refl

goal_lines : (p : Protocol) (g : Goal) → AreLines (goal_marks p g)
goal_lines p g = body_lines g.width (conjunction_marks p g.width g.lits) (conjunction_part p g.width g.lits)

init_lines : (p : Protocol) → AreLines (init_marks p)
init_lines p = body_lines 1 (formula_marks p 1 p.start) (formula_part p 1 p.start)

sort_goes : (p : Protocol) (sort : Sort) → Goes free (sort_mark p sort ∷ line_feed ∷ []) free
sort_goes p (sorts.Fin j) = split (j == 0)
  where
    split : (bool : Bool) → Goes free ((if bool then word k.BoolWord (codes "bool") else name (option_map_or (λ d. d.name) (slice_get p.sorts j) [])) ∷ line_feed ∷ []) free
    split true = refl
    split false = refl
sort_goes p sorts.Proc = refl
sort_goes p sorts.Int = refl

constructors_go : (cs : List (List ℕ)) → AreLines (joined bar_marks (λ c. name c ∷ []) cs ++ line_feed ∷ [])
constructors_go [] = refl
constructors_go (c ∷ cs) = goes_on free held free (joined bar_marks (λ n. name n ∷ []) (c ∷ cs)) (line_feed ∷ []) (joined_part bar_marks (λ n. name n ∷ []) c cs refl (λ n. refl)) refl

type_lines : (d : SortDecl) → AreLines (type_marks d)
type_lines d = constructors_go d.cons

global_lines : (p : Protocol) (d : Decl) → AreLines (global_marks p d)
global_lines p d = sort_goes p d.sort

array_lines : (p : Protocol) (d : Decl) → AreLines (array_marks p d)
array_lines p d = sort_goes p d.sort

pub protocol_lines : (p : Protocol) → AreLines (protocol_marks p)
protocol_lines p =
    let types = flat_map type_marks (drop 1 p.sorts) in
    let globals = flat_map (global_marks p) p.globals in
    let arrays = flat_map (array_marks p) p.arrays in
    let goals = flat_map (goal_marks p) p.goals in
    let transitions = flat_map (transition_marks p) p.transitions in
    goes_on free free free (types ++ globals ++ arrays ++ init_marks p ++ goals) transitions
    (goes_on free free free (types ++ globals ++ arrays ++ init_marks p) goals
    (goes_on free free free (types ++ globals ++ arrays) (init_marks p)
    (goes_on free free free (types ++ globals) arrays
    (goes_on free free free types globals (goes_each free type_marks (drop 1 p.sorts) type_lines) (goes_each free (global_marks p) p.globals (global_lines p)))
    (goes_each free (array_marks p) p.arrays (array_lines p))) (init_lines p)) (goes_each free (goal_marks p) p.goals (goal_lines p)))
    (goes_each free (transition_marks p) p.transitions (transition_lines p))
