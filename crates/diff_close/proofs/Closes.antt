-- What a call of `close` has once the terms of both lists are numbered.
use Rattle.std.proofs.Common.{◌≡◌, ℕ, ◌<◌, ◌≤◌, ◌+◌, ℤ, pos, ◌-ℤ◌, ◌≤ℤ◌, ◌<ℤ◌, List, [], ◌∷◌, ◌++◌, length, get_or, map, refl, arith, ap, subst, sym, ◌∙◌, Contains, All, Result, Ok, Err, OnOk, OnErr, length-append}
use Rattle.std.proofs.Math.ListN.{get_or-append}
use Rattle.std.proofs.lemmas.List.{get_or-append-add}
use Rattle.std.proofs.lemmas.List.Elements.{All-append}
use Rattle.std.proofs.lemmas.Int.{ints}
use Rattle.std.specs.List.{IsDistinct}
use Rattle.cub_proto.specs.declared.literal.Term.{Term}
use Rattle.cub_proto.specs.declared.literal.Term.TheVariants.{Global, Cell}
use Rattle.cub_proto.specs.declared.literal.Lit.{Lit}
use Rattle.cub_proto.specs.declared.literal.Lit.TheVariants.{FinIn, FinEq, FinNe, ProcEq, ProcNe, Diff}
use Rattle.diff_core.specs.declared.constraint.Constraint.{Constraint}
use Rattle.diff_core.specs.Constraints as core
use Rattle.diff_close.specs.Literals.{HasSolution, MentionsOnly, MentionAtMost, HasSmallBound}
use Rattle.diff_close.specs.Names.{term_eq, node_of, constraint_of}
use Rattle.diff_close.specs.AreNames.{AreNames}
use Rattle.diff_core.specs.Table.{far, cell}
use Rattle.diff_core.proofs.Exact.{closure_solved}
use Rattle.diff_close.specs.Scratch.{Scratch, IsClosureOf}
use Rattle.diff_close.proofs.Terms.{node_in, few_names, none_named, mentions_more}
use Rattle.diff_close.proofs.Translate.{constraint_is, length_is, node_value, solves_down, solution_up}

pub all_left : {X : Type 0} (P : X → Type 0) (xs ys : List X) → All P (xs ++ ys) → All P xs
all_left P xs ys all k d k_in = subst P (get_or-append xs ys d k k_in) (all k d (omega (arith, k_in, length-append xs ys)))

pub all_right : {X : Type 0} (P : X → Type 0) (xs ys : List X) → All P (xs ++ ys) → All P ys
all_right P xs ys all k d k_in = subst P (get_or-append-add xs ys k d) (all (length xs + k) d (omega (arith, k_in, length-append xs ys)))

pub on_ok : {T E : Type 0} (r : Result T E) (P Q : Type 0) → (P → Q) → OnOk r P → OnOk r Q
on_ok (Ok x) P Q f p = f p
on_ok (Err e) P Q f p = p

pub on_err : {T E : Type 0} (r : Result T E) (P Q R : Type 0) → (P → Q → R) → OnErr r P → OnErr r Q → OnErr r R
on_err (Ok x) P Q R f p q = p
on_err (Err e) P Q R f p q = f p q

-- the terms of both lists have numbers, and there is room for them
pub record Numbered (room : ℕ) (lits : List Lit) (names : List Term) : Type 0 where
  pub named : All (MentionsOnly names) lits
  pub distinct : IsDistinct term_eq names
  pub few : length names ≤ room

pub numbered : (room : ℕ) (lits more : List Lit) (empty first second : List Term) → empty ≡ [] → MentionAtMost room (lits ++ more) →
    ((all : List Term) → AreNames all empty → All (MentionsOnly all) lits → AreNames all first) → ((all : List Term) → AreNames all first → All (MentionsOnly all) more → AreNames all second) →
    All (MentionsOnly first) lits → All (MentionsOnly second) more → ((t : Term) → Contains first t → Contains second t) → Numbered room (lits ++ more) second
numbered room lits more empty first second none (all, few, only) kept_first kept_second in_first in_second grows =
    let are_empty : AreNames all empty = subst (λ (m : List Term). AreNames all m) (sym none) (none_named all) in
    let are : AreNames all second = kept_second all (kept_first all are_empty (all_left (MentionsOnly all) lits more only)) (all_right (MentionsOnly all) lits more only) in
    record {
      named = All-append (MentionsOnly second) lits more (λ k d k_in. mentions_more first second grows (get_or lits k d) (in_first k d k_in)) in_second;
      distinct = are.distinct;
      few = omega (arith, few, few_names all second are);
    }

in_range : (names : List Term) (l : Lit) → MentionsOnly names l → HasSmallBound l → core.IsInRange (length names + 1) (constraint_of names l)
in_range names (FinIn t mask) only small = record { left_in = omega arith; right_in = omega arith; at_least = omega (arith, ints); at_most = omega (arith, ints) }
in_range names (FinEq a b) only small = record { left_in = omega arith; right_in = omega arith; at_least = omega (arith, ints); at_most = omega (arith, ints) }
in_range names (FinNe a b) only small = record { left_in = omega arith; right_in = omega arith; at_least = omega (arith, ints); at_most = omega (arith, ints) }
in_range names (ProcEq a b) only small = record { left_in = omega arith; right_in = omega arith; at_least = omega (arith, ints); at_most = omega (arith, ints) }
in_range names (ProcNe a b) only small = record { left_in = omega arith; right_in = omega arith; at_least = omega (arith, ints); at_most = omega (arith, ints) }
in_range names (Diff a b bound) only small = record { left_in = node_in names a only.0; right_in = node_in names b only.1; at_least = omega (arith, ints, small.0); at_most = omega (arith, ints, small.1) }

pub range_of : (names : List Term) (lits : List Lit) → All (MentionsOnly names) lits → All HasSmallBound lits → core.AreInRange (length names + 1) (map (constraint_of names) lits)
range_of names lits only small k k_in =
    let d : Lit = FinIn (Global 0) 0 in
    let low : k < length lits = omega (arith, k_in, length_is names lits) in
    subst (λ (c : Constraint). core.IsInRange (length names + 1) c) (sym (constraint_is names lits k d low)) (in_range names (get_or lits k d) (only k d low) (small k d low))

pub refuted_up : (names : List Term) (lits : List Lit) → All (MentionsOnly names) lits → (core.HasSolution (map (constraint_of names) lits) → ⊥) → HasSolution lits → ⊥
refuted_up names lits only none (v, solves) = none (node_value names v, solves_down names lits only v solves)

-- literals that are closed have a solution
pub closure_has : (lits : List Lit) (s : Scratch) → IsClosureOf lits s → HasSolution lits
closure_has lits s is = solution_up s.names lits is.named (closure_solved (map (constraint_of s.names) lits) s.closing.table.nodes far (cell s.closing.table.entries) is.table)
