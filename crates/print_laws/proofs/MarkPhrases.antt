-- The words of updates, transitions and declarations are phrases of the grammar, and those of a protocol a sentence.
use Rattle.std.proofs.Common.{◌≡◌, ℕ, suc, ◌<◌, Bool, true, false, List, [], ◌∷◌, ◌++◌, length, Option, Some, None, refl, subst, append-nil, arith, inl, inr}
use Rattle.std.specs.Prelude.{◌==◌, codes, if◌then◌else◌, flat_map, slice_get}
use Rattle.std.specs.List.{range_with_len}
use Rattle.std.specs.Option.{option_map_or}
use Rattle.cub_lexer.specs.declared.token.TokenKind.TheVariants as k
use Rattle.cub_parse.specs.declared.tree.Leaf.{Leaf}
use Rattle.cub_parse.specs.declared.tree.DeclNode.TheVariants as decls
use Rattle.cub_parse.specs.declared.tree.RightNode.TheVariants as rights
use Rattle.cub_parse.specs.declared.tree.FormNode.{FormNode}
use Rattle.cub_parse.specs.declared.tree.FormNode.TheVariants as n
use Rattle.cub_parse.specs.declared.tree.SumNode.{SumNode}
use Rattle.cub_parse.specs.Phrase.{Phrase, OneOf, Word, Is, ◌>>=◌, Either, Maybe, Until, Each, is_in, heads}
use Rattle.cub_parse.specs.Grammar.{update as update_of, sorts, joins, Index, Sum, Joined, Formula, Unit_in, Names, NamesIfAny, Body, NamedBody, Right, Case, Cases, Single, Update, NextUpdate, Updates, UpdatesIfAny, Guard, Transition, Rest, Decl}
use Rattle.cub_proto.specs.declared.literal.Sort as own_sort
use Rattle.cub_proto.specs.declared.literal.Sort.TheVariants as own_sorts
use Rattle.cub_proto.specs.declared.literal.Value as own_value
use Rattle.cub_proto.specs.declared.literal.Value.TheVariants as values
use Rattle.cub_proto.specs.declared.transition.Target.{Target}
use Rattle.cub_proto.specs.declared.transition.Target.TheVariants as targets
use Rattle.cub_proto.specs.declared.transition.Branch.{Branch}
use Rattle.cub_proto.specs.declared.transition.Update as own_update
use Rattle.cub_proto.specs.declared.transition.Transition as own_transition
use Rattle.cub_proto.specs.declared.protocol.SortDecl.{SortDecl}
use Rattle.cub_proto.specs.declared.protocol.Decl as own_decl
use Rattle.cub_proto.specs.declared.protocol.Goal.{Goal}
use Rattle.cub_proto.specs.declared.protocol.Protocol.{Protocol}
use Rattle.cub_proto.specs.Signature.{target_sort}
use Rattle.cub_proto.specs.StateOf.{signature_of}
use Rattle.cub_print.specs.Mark.{Mark, gap, blank, line_feed, name, joined}
use Rattle.cub_print.specs.Mark.Mark.{word}
use Rattle.cub_print.specs.Terms.{decl_name, constructor_in, place_name, term_marks, process_marks, integer_marks}
use Rattle.cub_print.specs.Printed.{and_marks, conjunction_marks, formula_marks, value_marks, target_marks, branch_marks, assigned_marks, update_marks, parameter_marks, grouped_marks, braced_marks, is_trivial, universal_marks, guard_marks, heading_marks, requires_marks, effect_marks, transition_marks, goal_marks, sort_mark, bar_marks, type_marks, global_marks, array_marks}
use Rattle.print_laws.specs.Spot.{Spot, past, leaf, leaves, in_row}
use Rattle.print_laws.specs.TermTree.{name_tree, index_tree, alone, term_tree, process_tree, integer_tree, conjunction_tree, formula_tree}
use Rattle.print_laws.specs.Tree.{value_tree, target_tree, target_index, branch_tree, assigned_tree, update_tree, parameter_names, body_tree, named_body_tree, grouped_tree, universal_tree, guard_tree, transition_tree, goal_tree, sort_tree, constructors_tree, type_tree, global_tree, array_tree}
use Rattle.print_laws.proofs.Phrases.{Spells, at_front, front_spells, regrouped, row, rows_alone, given, ended, Any, any}
use Rattle.print_laws.proofs.TermPhrases.{name_sum, term_sum, process_sum, integer_sum, alone_joined, conjunction_phrase, formula_phrase}

-- values
of_sum : (ms : List Mark) (sum : Spot → SumNode) → Spells Sum ms sum → Spells Right ms (λ s. rights.Sum (sum s))
of_sum ms sum h s rest = inr (sum s, rest, h s rest, (refl, refl))

value_right : (p : Protocol) (params : ℕ) (target : Target) (v : own_value.Value) → Spells Right (value_marks p params target v) (value_tree p params target v)
value_right p params target (values.Con c) s rest =
    let bytes = option_map_or (λ sort. constructor_in p.sorts sort c) (target_sort (signature_of p) target) [] in
    of_sum (name bytes ∷ []) (λ r. alone (name_tree bytes r)) (name_sum bytes) s rest
value_right p params target (values.Read t) s rest = of_sum (term_marks p params t) (λ r. alone (term_tree p params t r)) (term_sum p params t) s rest
value_right p params target (values.Proc side) s rest = of_sum (process_marks p params side) (λ r. alone (process_tree p params side r)) (process_sum p params side) s rest
value_right p params target (values.Sum base add) s rest = of_sum (integer_marks p params base add) (integer_tree p params base add) (integer_sum p params base add) s rest
value_right p params target values.Any s rest = inl (leaf k.Question (codes "?") s, rest, (refl, refl), (refl, refl))

-- the names of parameters
AreNames : List Mark → Type 0
AreNames [] = Unit {0}
AreNames (gap b ∷ ms) = AreNames ms
AreNames (word kind bytes ∷ ms) = (is_in kind (k.Name ∷ []) ≡ true) × AreNames ms

all_names : (ms : List Mark) → AreNames ms → Spells (Each (Word k.Name)) ms (λ s. leaves s ms)
unfolding AreNames
all_names [] h s rest = ended (Word k.Name) rest
all_names (gap b ∷ ms) h s rest = all_names ms h (past s (gap b ∷ [])) rest
all_names (word kind bytes ∷ ms) h s rest =
    let behind = leaves (past s (word kind bytes ∷ [])) ms ++ rest in
    (behind, given (Word k.Name) (leaf kind bytes s ∷ behind) (leaf kind bytes s) behind (refl, h.0), all_names ms h.1 (past s (word kind bytes ∷ [])) rest)

further_names : (params : ℕ) (places : List ℕ) → AreNames (flat_map (λ place. blank ∷ name (place_name params place) ∷ []) places)
unfolding AreNames
further_names params [] = tt
further_names params (place ∷ places) = (refl, further_names params places)

place_names : (params : ℕ) (places : List ℕ) → AreNames (joined (blank ∷ []) (λ place. name (place_name params place) ∷ []) places)
unfolding AreNames
place_names params [] = tt
place_names params (place ∷ places) = (refl, further_names params places)

parameters_phrase : (params : ℕ) → Spells NamesIfAny (parameter_marks params) (parameter_names params)
parameters_phrase params s rest =
    let inner = joined (blank ∷ []) (λ place. name (place_name params place) ∷ []) (range_with_len 0 params) in
    let inside = past s (word k.ParenOpen (codes "(") ∷ []) in
    let close = leaf k.ParenClose (codes ")") (past inside inner) in
    let behind = leaves inside (inner ++ word k.ParenClose (codes ")") ∷ []) ++ rest in (
      Some (parameter_names params s),
      rest,
      given Names (leaf k.ParenOpen (codes "(") s ∷ behind) (parameter_names params s) rest (
        leaf k.ParenOpen (codes "(") s,
        behind,
        (refl, refl),
        (
          leaves inside inner,
          close ∷ rest,
          front_spells (Each (Word k.Name)) inner (word k.ParenClose (codes ")") ∷ []) (λ r. leaves r inner) (all_names inner (place_names params (range_with_len 0 params))) inside rest,
          (close, rest, (refl, refl), (refl, refl)),
        ),
      ),
      (refl, refl),
    )

-- before what does not go on with `&&` or `||`
abbrev Closes : {A : Type 0} → Phrase A → List Mark → (Spot → A) → Type 0
Closes R ms tree = (s : Spot) (rest : List Leaf) → heads joins rest ≡ false → R (leaves s ms ++ rest) (tree s) rest

always : {A : Type 0} (R : Phrase A) (ms : List Mark) (tree : Spot → A) → Spells R ms tree → Closes R ms tree
always R ms tree h s rest quiet = h s rest

module _ (levels : ℕ) where
  body_phrase : (names : List Leaf) (ms : List Mark) (formula : Spot → FormNode) → Closes (Formula levels) ms formula → Spells (Body levels names) (braced_marks ms) (body_tree names ms formula)
  body_phrase names ms formula h s rest =
      let inside = past s (word k.BraceOpen (codes "{") ∷ blank ∷ []) in
      let ending = blank ∷ word k.BraceClose (codes "}") ∷ [] in
      let close = leaf k.BraceClose (codes "}") (past (past inside ms) (blank ∷ [])) in
      let behind = leaves inside (ms ++ ending) ++ rest in (
        leaf k.BraceOpen (codes "{") s,
        behind,
        (refl, refl),
        (
          Some (formula inside),
          close ∷ rest,
          given (Formula levels) behind (formula inside) (close ∷ rest) (at_front (Formula levels) ms ending (formula inside) inside rest (close ∷ rest) (h inside (close ∷ rest) refl)),
          (None, close ∷ rest, inr (refl, refl), (close, rest, (refl, refl), (refl, refl))),
        ),
      )

  named_body_phrase : (params : ℕ) (ms : List Mark) (formula : Spot → FormNode) → Spells (Formula levels) ms formula
      → Spells (NamedBody levels) (parameter_marks params ++ blank ∷ braced_marks ms ++ line_feed ∷ []) (named_body_tree params ms formula)
  named_body_phrase params ms formula h s rest =
      let behind = blank ∷ braced_marks ms ++ line_feed ∷ [] in
      let there = past (past s (parameter_marks params)) (blank ∷ []) in
      regrouped (NamedBody levels) (parameter_marks params) (blank ∷ braced_marks ms) (line_feed ∷ []) (named_body_tree params ms formula s) s rest rest (
        parameter_names params s,
        leaves (past s (parameter_marks params)) behind ++ rest,
        front_spells NamesIfAny (parameter_marks params) behind (parameter_names params) (parameters_phrase params) s rest,
        front_spells (Body levels (parameter_names params s)) (braced_marks ms) (line_feed ∷ []) (body_tree (parameter_names params s) ms formula)
            (body_phrase (parameter_names params s) ms formula (always (Formula levels) ms formula h)) there rest,
      )

  -- formulas in `(` and `)`
  group_unit : (ms : List Mark) (formula : Spot → FormNode) → Spells (Formula levels) ms formula → Spells (Unit_in (suc levels)) (grouped_marks ms) (grouped_tree formula)
  unfolding Unit_in
  group_unit ms formula h s rest =
      let inside = past s (word k.ParenOpen (codes "(") ∷ []) in
      let close = leaf k.ParenClose (codes ")") (past inside ms) in
      inr (inl (
        leaf k.ParenOpen (codes "(") s,
        leaves inside (ms ++ word k.ParenClose (codes ")") ∷ []) ++ rest,
        (refl, refl),
        (formula inside, close ∷ rest, front_spells (Formula levels) ms (word k.ParenClose (codes ")") ∷ []) formula h inside rest, (close, rest, (refl, refl), (refl, refl))),
      ))

  -- updates
  target_then : {B : Type 0} (K : Leaf → Option Leaf → Phrase B) (p : Protocol) (params : ℕ) (target : Target) (b : List Mark) (s : Spot) (rest : List Leaf) (y : B) (end : List Leaf)
      → K (target_tree p target s) (target_index p params target s) (leaves (past s (target_marks p params target)) b ++ rest) y end
      → (Word k.Name >>= λ name. Maybe Index >>= λ index. K name index) (leaves s (target_marks p params target ++ b) ++ rest) y end
  target_then K p params (targets.Global g) b s rest y end h =
      let behind = leaves (past s (name (decl_name p.globals g) ∷ [])) b ++ rest in
      (leaf k.Name (decl_name p.globals g) s, behind, (refl, refl), (None, behind, inr (refl, refl), h))
  target_then K p params (targets.Array a) b s rest y end h =
      let bytes = decl_name p.arrays a in
      let index = place_name params params in
      let begin = leaf k.BracketOpen (codes "[") (past s (name bytes ∷ [])) in
      let inner = index_tree bytes index s in
      let before = name bytes ∷ word k.BracketOpen (codes "[") ∷ name index ∷ [] in
      let close = leaf k.BracketClose (codes "]") (past s before) in
      let behind = leaves (past s (name bytes ∷ word k.BracketOpen (codes "[") ∷ name index ∷ word k.BracketClose (codes "]") ∷ [])) b ++ rest in (
        leaf k.Name bytes s,
        begin ∷ inner ∷ close ∷ behind,
        (refl, refl),
        (
          Some inner,
          behind,
          given Index (begin ∷ inner ∷ close ∷ behind) inner behind (begin, inner ∷ close ∷ behind, (refl, refl), (inner, close ∷ behind, (refl, refl), (close, behind, (refl, refl), (refl, refl)))),
          h,
        ),
      )

  module _ (p : Protocol) (params : ℕ) where
    branch_phrase : (target : Target) (b : Branch) (s : Spot) (rest : List Leaf)
        → (Word k.Bar >>= λ _. Maybe (Case levels)) (leaves s (branch_marks p params target b) ++ rest) (Some (branch_tree p params target b s)) rest
    branch_phrase target b s rest =
        let cond = past s (word k.Bar (codes "|") ∷ blank ∷ []) in
        let lits = conjunction_marks p params b.cond in
        let value = value_marks p params target b.value in
        let colon = leaf k.Colon (codes ":") (past (past cond lits) (blank ∷ [])) in
        let there = past (past cond lits) (blank ∷ word k.Colon (codes ":") ∷ blank ∷ []) in
        let behind = leaves there (value ++ blank ∷ []) ++ rest in
        let coloned = blank ∷ word k.Colon (codes ":") ∷ blank ∷ value in
        let all = leaves cond (lits ++ coloned ++ blank ∷ []) ++ rest in (
          leaf k.Bar (codes "|") s,
          all,
          (refl, refl),
          given (Case levels) all (branch_tree p params target b s) rest (
            conjunction_tree p params b.cond cond,
            colon ∷ behind,
            regrouped (Formula levels) lits coloned (blank ∷ []) (conjunction_tree p params b.cond cond) cond rest (colon ∷ behind)
                (front_spells (Formula levels) lits (coloned ++ blank ∷ []) (conjunction_tree p params b.cond) (conjunction_phrase p params levels b.cond) cond rest),
            (
              colon,
              behind,
              (refl, refl),
              (value_tree p params target b.value there, rest, front_spells Right value (blank ∷ []) (value_tree p params target b.value) (value_right p params target b.value) there rest, (refl, refl)),
            ),
          ),
        )

    assigned_phrase : (u : own_update.Update) (bs : List Branch) (at : Leaf) → Spells (Either (Cases levels) (Single at)) (assigned_marks p params u bs) (assigned_tree p params u bs at)
    assigned_phrase u [] at s rest = inr (value_tree p params u.target u.last s, rest, value_right p params u.target u.last s rest, (refl, refl))
    assigned_phrase u (b ∷ bs) at s rest =
        let start = past s (word k.CaseWord (codes "case") ∷ blank ∷ []) in
        let branches = flat_map (branch_marks p params u.target) (b ∷ bs) in
        let trees = in_row (branch_marks p params u.target) (branch_tree p params u.target) (b ∷ bs) start in
        let value = value_marks p params u.target u.last in
        let ending = word k.Bar (codes "|") ∷ blank ∷ word k.Underscore (codes "_") ∷ blank ∷ word k.Colon (codes ":") ∷ blank ∷ value in
        let behind = past start branches in
        let bar = leaf k.Bar (codes "|") behind in
        let underscore = leaf k.Underscore (codes "_") (past behind (word k.Bar (codes "|") ∷ blank ∷ [])) in
        let colon = leaf k.Colon (codes ":") (past behind (word k.Bar (codes "|") ∷ blank ∷ word k.Underscore (codes "_") ∷ blank ∷ [])) in
        let there = past behind (word k.Bar (codes "|") ∷ blank ∷ word k.Underscore (codes "_") ∷ blank ∷ word k.Colon (codes ":") ∷ blank ∷ []) in
        let right = leaves there value ++ rest in
        let R = Word k.Bar >>= λ _. Maybe (Case levels) in
        inl (
          leaf k.CaseWord (codes "case") s,
          leaves start (branches ++ ending) ++ rest,
          (refl, refl),
          (
            trees,
            underscore ∷ colon ∷ right,
            at_front (Until R) branches ending trees start rest (underscore ∷ colon ∷ right)
                (subst (λ ys. Until R (leaves start branches ++ (bar ∷ underscore ∷ colon ∷ right)) ys (underscore ∷ colon ∷ right)) (append-nil trees)
                (row Any R (branch_marks p params u.target) (branch_tree p params u.target) (λ x is. branch_phrase u.target x) (b ∷ bs) (any (b ∷ bs)) start (bar ∷ underscore ∷ colon ∷ right) []
                (underscore ∷ colon ∷ right) (bar, underscore ∷ colon ∷ right, (refl, refl), inr (refl, refl)))),
            (
              underscore,
              colon ∷ right,
              (refl, refl),
              (colon, right, (refl, refl), (value_tree p params u.target u.last there, rest, value_right p params u.target u.last there rest, (refl, refl))),
            ),
          ),
        )

    -- the `;` behind an update
    abbrev ending_of : own_update.Update → Spot → Leaf
    ending_of u s =
        leaf k.Semicolon (codes ";") (past (past (past s (target_marks p params u.target)) (blank ∷ word k.Assign (codes ":=") ∷ blank ∷ [])) (assigned_marks p params u u.branches))

    update_phrase : (u : own_update.Update) (s : Spot) (rest : List Leaf) → Update levels (leaves s (update_marks p params u) ++ rest) (update_tree p params u s) (ending_of u s ∷ rest)
    update_phrase u s rest =
        let behind = past s (target_marks p params u.target) in
        let at = leaf k.Assign (codes ":=") (past behind (blank ∷ [])) in
        let there = past behind (blank ∷ word k.Assign (codes ":=") ∷ blank ∷ []) in
        let assigned = assigned_marks p params u u.branches in
        let ending = word k.Semicolon (codes ";") ∷ blank ∷ [] in
        let set = blank ∷ word k.Assign (codes ":=") ∷ blank ∷ assigned in
        regrouped (Update levels) (target_marks p params u.target) set ending (update_tree p params u s) s rest (ending_of u s ∷ rest)
        (target_then (λ name index. Word k.Assign >>= λ at. Either (Cases levels) (Single at) >>= λ v. Is (update_of name index v)) p params u.target
        (set ++ ending) s rest (update_tree p params u s) (ending_of u s ∷ rest) (
          at,
          leaves there (assigned ++ ending) ++ rest,
          (refl, refl),
          (
            assigned_tree p params u u.branches at there,
            ending_of u s ∷ rest,
            front_spells (Either (Cases levels) (Single at)) assigned ending (assigned_tree p params u u.branches at) (assigned_phrase u u.branches at) there rest,
            (refl, refl),
          ),
        ))

    further_updates : (us : List own_update.Update) (semicolon : Leaf) → is_in semicolon.token.kind (k.Semicolon ∷ []) ≡ true → (s : Spot) (rest : List Leaf)
        → Until (NextUpdate levels) (semicolon ∷ (leaves s (flat_map (update_marks p params) us) ++ rest)) (in_row (update_marks p params) (update_tree p params) us s) rest
    further_updates [] semicolon is s rest = inl (semicolon, rest, (refl, is), inr (refl, refl))
    further_updates (u ∷ us) semicolon is s rest =
        let others = flat_map (update_marks p params) us in
        let there = past s (update_marks p params u) in
        let behind = leaves there others ++ rest in
        let all = leaves s (update_marks p params u ++ others) ++ rest in (
          ending_of u s ∷ behind,
          inl (
            semicolon,
            all,
            (refl, is),
            given (Update levels) all (update_tree p params u s) (ending_of u s ∷ behind)
                (at_front (Update levels) (update_marks p params u) others (update_tree p params u s) s rest (ending_of u s ∷ behind) (update_phrase u s behind)),
          ),
          further_updates us (ending_of u s) refl there rest,
        )

    updates_phrase : (us : List own_update.Update) → Spells (UpdatesIfAny levels) (flat_map (update_marks p params) us) (in_row (update_marks p params) (update_tree p params) us)
    updates_phrase [] s rest = (None, rest, inr (refl, refl), (refl, refl))
    updates_phrase (u ∷ us) s rest =
        let others = flat_map (update_marks p params) us in
        let there = past s (update_marks p params u) in
        let behind = leaves there others ++ rest in
        let all = leaves s (update_marks p params u ++ others) ++ rest in
        let trees = in_row (update_marks p params) (update_tree p params) us there in (
          Some (update_tree p params u s ∷ trees),
          rest,
          given (Updates levels) all (update_tree p params u s ∷ trees) rest (
            update_tree p params u s,
            ending_of u s ∷ behind,
            at_front (Update levels) (update_marks p params u) others (update_tree p params u s) s rest (ending_of u s ∷ behind) (update_phrase u s behind),
            (trees, rest, further_updates us (ending_of u s) refl there rest, (refl, refl)),
          ),
          (refl, refl),
        )

-- transitions
module _ (p : Protocol) (levels : ℕ) (t : own_transition.Transition) where
  own_formula : Spells (Formula levels) (formula_marks p t.params t.guard) (formula_tree p t.params t.guard)
  own_formula = formula_phrase p t.params levels t.guard

  grouped_formula : Spells (Formula (suc levels)) (grouped_marks (formula_marks p t.params t.others)) (grouped_tree (formula_tree p t.params t.others))
  grouped_formula s rest =
      let ts = leaves s (grouped_marks (formula_marks p t.params t.others)) ++ rest in
      let tree = grouped_tree (formula_tree p t.params t.others) s in
      alone_joined n.Or k.Or (Joined n.And k.And (Unit_in (suc levels))) ts tree rest
      (alone_joined n.And k.And (Unit_in (suc levels)) ts tree rest
      (group_unit levels (formula_marks p t.params t.others) (formula_tree p t.params t.others) (formula_phrase p t.params levels t.others) s rest))

  universal_unit : Closes (Unit_in (suc (suc levels))) (universal_marks p t) (universal_tree p t)
  unfolding Unit_in universal_marks
  universal_unit s rest quiet =
      let named = past s (word k.ForallOtherWord (codes "forall_other") ∷ blank ∷ []) in
      let dotted = past named (name (codes "_0") ∷ []) in
      let there = past named (name (codes "_0") ∷ word k.Dot (codes ".") ∷ blank ∷ []) in
      let group = leaves there (grouped_marks (formula_marks p t.params t.others)) ++ rest in
      let name_leaf = leaf k.Name (codes "_0") named in
      let dot = leaf k.Dot (codes ".") dotted in
      inr (inr (inl (
        leaf k.ForallOtherWord (codes "forall_other") s,
        name_leaf ∷ dot ∷ group,
        (refl, refl),
        (
          name_leaf,
          dot ∷ group,
          (refl, refl),
          (dot, group, (refl, refl), (grouped_tree (formula_tree p t.params t.others) there, rest, (grouped_formula there rest, quiet), (refl, refl))),
        ),
      )))

module _ (p : Protocol) (levels : ℕ) (t : own_transition.Transition) where
  both_guards : Closes (Formula (suc (suc levels))) (grouped_marks (formula_marks p t.params t.guard) ++ and_marks ++ universal_marks p t)
      (λ s. n.And (grouped_tree (formula_tree p t.params t.guard) s ∷ universal_tree p t (past (past s (grouped_marks (formula_marks p t.params t.guard))) and_marks) ∷ []))
  both_guards s rest quiet =
      let R = Unit_in (suc (suc levels)) in
      let own = grouped_marks (formula_marks p t.params t.guard) in
      let own_tree = grouped_tree (formula_tree p t.params t.guard) in
      let behind = past s own in
      let sign = leaf k.And (codes "&&") (past behind (blank ∷ [])) in
      let there = past behind and_marks in
      let last = leaves there (universal_marks p t) ++ rest in
      let other = universal_tree p t there in
      let tree = n.And (own_tree s ∷ other ∷ []) in
      let all = leaves s (own ++ and_marks ++ universal_marks p t) ++ rest in
      alone_joined n.Or k.Or (Joined n.And k.And R) all tree rest
      (regrouped (Joined n.And k.And R) own and_marks (universal_marks p t) tree s rest rest (
        own_tree s,
        sign ∷ last,
        front_spells R own (and_marks ++ universal_marks p t) own_tree
            (group_unit (suc levels) (formula_marks p t.params t.guard) (formula_tree p t.params t.guard) (own_formula p (suc levels) t)) s rest,
        (
          other ∷ [],
          rest,
          (rest, given (Word k.And >>= λ _. R) (sign ∷ last) other rest (sign, last, (refl, refl), universal_unit p levels t there rest quiet), ended (Word k.And >>= λ _. R) rest),
          (refl, refl),
        ),
      ))

  guard_formula : Closes (Formula (suc (suc levels))) (guard_marks p t) (guard_tree p t)
  guard_formula = by (is_trivial t.others)
    where
      by : (trivial : Bool) → Closes (Formula (suc (suc levels)))
          (if trivial then formula_marks p t.params t.guard else grouped_marks (formula_marks p t.params t.guard) ++ and_marks ++ universal_marks p t)
          (λ s. if trivial
          then formula_tree p t.params t.guard s
          else n.And (grouped_tree (formula_tree p t.params t.guard) s ∷ universal_tree p t (past (past s (grouped_marks (formula_marks p t.params t.guard))) and_marks) ∷ []))
      by true = λ s rest quiet. own_formula p (suc (suc levels)) t s rest
      by false = both_guards

  pub transition_rest : Spells (Transition (suc (suc levels))) (transition_marks p t) (transition_tree p t)
  unfolding heading_marks requires_marks effect_marks
  transition_rest s rest =
      let deep = suc (suc levels) in
      let heading = heading_marks t in
      let requires = requires_marks p t in
      let effect = effect_marks p t in
      let named = past s (word k.TransitionWord (codes "transition") ∷ blank ∷ []) in
      let named_leaf = leaf k.Name t.name named in
      let at_names = past named (name t.name ∷ blank ∷ []) in
      let params = parameter_marks t.params in
      let names = parameter_names t.params at_names in
      let at_requires = past s heading in
      let required = leaf k.RequiresWord (codes "requires") at_requires in
      let at_guard = past at_requires (word k.RequiresWord (codes "requires") ∷ blank ∷ []) in
      let braced = braced_marks (guard_marks p t) in
      let guard = body_tree [] (guard_marks p t) (guard_tree p t) at_guard in
      let at_effect = past at_requires requires in
      let begin = leaf k.BraceOpen (codes "{") at_effect in
      let at_updates = past at_effect (word k.BraceOpen (codes "{") ∷ blank ∷ []) in
      let updates = flat_map (update_marks p t.params) t.updates in
      let trees = in_row (update_marks p t.params) (update_tree p t.params) t.updates at_updates in
      let ending = word k.BraceClose (codes "}") ∷ line_feed ∷ [] in
      let close = leaf k.BraceClose (codes "}") (past at_updates updates) in
      let behind_names = leaves at_requires (requires ++ effect) ++ rest in
      let behind_guard = leaves at_effect effect ++ rest in
      let behind_required = leaves at_guard (braced ++ blank ∷ [] ++ effect) ++ rest in
      let front = leaves at_names (params ++ blank ∷ [] ++ (requires ++ effect)) ++ rest in
      regrouped (Transition deep) heading requires effect (transition_tree p t s) s rest rest (
        leaf k.TransitionWord (codes "transition") s,
        named_leaf ∷ front,
        (refl, refl),
        (
          named_leaf,
          front,
          (refl, refl),
          (
            names,
            behind_names,
            at_front NamesIfAny (params ++ blank ∷ []) (requires ++ effect) names at_names rest behind_names
                (front_spells NamesIfAny params (blank ∷ []) (parameter_names t.params) (parameters_phrase t.params) at_names behind_names),
            (
              Some guard,
              behind_guard,
              given (Guard deep) behind_names guard behind_guard (
                required,
                behind_required,
                (refl, refl),
                at_front (Body deep []) (braced ++ blank ∷ []) effect guard at_guard rest behind_guard
                    (front_spells (Body deep []) braced (blank ∷ []) (body_tree [] (guard_marks p t) (guard_tree p t))
                    (body_phrase deep [] (guard_marks p t) (guard_tree p t) guard_formula) at_guard behind_guard),
              ),
              (
                begin,
                leaves at_updates (updates ++ ending) ++ rest,
                (refl, refl),
                (
                  trees,
                  close ∷ rest,
                  front_spells (UpdatesIfAny deep) updates ending (in_row (update_marks p t.params) (update_tree p t.params) t.updates) (updates_phrase deep p t.params t.updates) at_updates rest,
                  (close, rest, (refl, refl), (refl, refl)),
                ),
              ),
            ),
          ),
        ),
      )

-- goals, the start, declarations
module _ (p : Protocol) where
  pub goal_rest : (levels : ℕ) (g : Goal) → Spells (Rest levels) (goal_marks p g) (goal_tree p g)
  goal_rest levels g s rest =
      let lits = conjunction_marks p g.width g.lits in
      let there = past s (word k.UnsafeWord (codes "unsafe") ∷ blank ∷ []) in
      let ts = leaves there (parameter_marks g.width ++ blank ∷ braced_marks lits ++ line_feed ∷ []) ++ rest in
      inl (
        leaf k.UnsafeWord (codes "unsafe") s,
        ts,
        (refl, refl),
        (
          named_body_tree g.width lits (conjunction_tree p g.width g.lits) there,
          rest,
          named_body_phrase levels g.width lits (conjunction_tree p g.width g.lits) (conjunction_phrase p g.width levels g.lits) there rest,
          (refl, refl),
        ),
      )

  pub init_phrase : (levels : ℕ) → Spells (NamedBody levels) (parameter_marks 1 ++ blank ∷ braced_marks (formula_marks p 1 p.start) ++ line_feed ∷ [])
      (named_body_tree 1 (formula_marks p 1 p.start) (formula_tree p 1 p.start))
  init_phrase levels = named_body_phrase levels 1 (formula_marks p 1 p.start) (formula_tree p 1 p.start) (formula_phrase p 1 levels p.start)

  sort_phrase : (sort : own_sort.Sort) → Spells (OneOf sorts) (sort_mark p sort ∷ line_feed ∷ []) (sort_tree p sort)
  sort_phrase (own_sorts.Fin j) s rest = by (j == 0)
    where
      by : (bool : Bool) → OneOf sorts
          (leaves s ((if bool then word k.BoolWord (codes "bool") else name (option_map_or (λ d. d.name) (slice_get p.sorts j) [])) ∷ line_feed ∷ []) ++ rest)
          (if bool then leaf k.BoolWord (codes "bool") s else leaf k.Name (option_map_or (λ d. d.name) (slice_get p.sorts j) []) s) rest
      by true = (refl, refl)
      by false = (refl, refl)
  sort_phrase own_sorts.Proc s rest = (refl, refl)
  sort_phrase own_sorts.Int s rest = (refl, refl)

  pub global_decl : (d : own_decl.Decl) → Spells Decl (global_marks p d) (global_tree p d)
  global_decl d s rest =
      let named = past s (word k.VarWord (codes "var") ∷ blank ∷ []) in
      let named_leaf = leaf k.Name d.name named in
      let colon = leaf k.Colon (codes ":") (past named (name d.name ∷ blank ∷ [])) in
      let there = past named (name d.name ∷ blank ∷ word k.Colon (codes ":") ∷ blank ∷ []) in
      let behind = leaves there (sort_mark p d.sort ∷ line_feed ∷ []) ++ rest in
      inr (inl (
        leaf k.VarWord (codes "var") s,
        named_leaf ∷ colon ∷ behind,
        (refl, refl),
        (named_leaf, colon ∷ behind, (refl, refl), (colon, behind, (refl, refl), (sort_tree p d.sort there, rest, sort_phrase d.sort there rest, (refl, refl)))),
      ))

  pub array_decl : (d : own_decl.Decl) → Spells Decl (array_marks p d) (array_tree p d)
  array_decl d s rest =
      let named = past s (word k.ArrayWord (codes "array") ∷ blank ∷ []) in
      let named_leaf = leaf k.Name d.name named in
      let begin = leaf k.BracketOpen (codes "[") (past named (name d.name ∷ [])) in
      let process = leaf k.ProcWord (codes "proc") (past named (name d.name ∷ word k.BracketOpen (codes "[") ∷ [])) in
      let close = leaf k.BracketClose (codes "]") (past named (name d.name ∷ word k.BracketOpen (codes "[") ∷ word k.ProcWord (codes "proc") ∷ [])) in
      let before = name d.name ∷ word k.BracketOpen (codes "[") ∷ word k.ProcWord (codes "proc") ∷ word k.BracketClose (codes "]") ∷ blank ∷ [] in
      let colon = leaf k.Colon (codes ":") (past named before) in
      let there = past named (before ++ word k.Colon (codes ":") ∷ blank ∷ []) in
      let behind = leaves there (sort_mark p d.sort ∷ line_feed ∷ []) ++ rest in
      inr (inr (
        leaf k.ArrayWord (codes "array") s,
        named_leaf ∷ begin ∷ process ∷ close ∷ colon ∷ behind,
        (refl, refl),
        (
          named_leaf,
          begin ∷ process ∷ close ∷ colon ∷ behind,
          (refl, refl),
          (
            begin,
            process ∷ close ∷ colon ∷ behind,
            (refl, refl),
            (
              process,
              close ∷ colon ∷ behind,
              (refl, refl),
              (
                close,
                colon ∷ behind,
                (refl, refl),
                (colon, behind, (refl, refl), (sort_tree p d.sort there, rest, sort_phrase d.sort there rest, (refl, refl))),
              ),
            ),
          ),
        ),
      ))

-- constructors, of which there is one at least
enumerated : (name_leaf : Leaf) (cs : List (List ℕ)) → 0 < length cs → (s : Spot) (rest : List Leaf)
    → (Maybe (Word k.Bar) >>= λ _. Word k.Name >>= λ one. Each (Word k.Bar >>= λ _. Word k.Name) >>= λ others. Is (decls.Enumeration name_leaf (one ∷ others)))
    (leaves s (joined bar_marks (λ c. name c ∷ []) cs ++ line_feed ∷ []) ++ rest) (decls.Enumeration name_leaf (constructors_tree cs s)) rest
enumerated name_leaf [] some s rest = absurd (omega arith)
enumerated name_leaf (c ∷ cs) some s rest =
    let R = Word k.Bar >>= λ _. Word k.Name in
    let marks = λ (d : List ℕ). bar_marks ++ name d ∷ [] in
    let tree = λ (d : List ℕ) (r : Spot). leaf k.Name d (past r bar_marks) in
    let there = past s (name c ∷ []) in
    let others = flat_map marks cs in
    let behind = leaves there (others ++ line_feed ∷ []) ++ rest in
    let here = leaf k.Name c s in (
      None,
      here ∷ behind,
      inr (refl, refl),
      (here, behind, (refl, refl), (in_row marks tree cs there, rest, front_spells (Each R) others (line_feed ∷ []) (in_row marks tree cs) (rows_alone R marks tree one_more cs) there rest, (refl, refl))),
    )
  where
    one_more : (d : List ℕ) → Spells (Word k.Bar >>= λ _. Word k.Name) (bar_marks ++ name d ∷ []) (λ r. leaf k.Name d (past r bar_marks))
    one_more d r ts =
        let last = leaf k.Name d (past r bar_marks) in
        (leaf k.Bar (codes "|") (past r (blank ∷ [])), last ∷ ts, (refl, refl), (refl, refl))

pub type_decl : (d : SortDecl) → 0 < length d.cons → Spells Decl (type_marks d) (type_tree d)
type_decl d some s rest =
    let named = past s (word k.TypeWord (codes "type") ∷ blank ∷ []) in
    let named_leaf = leaf k.Name d.name named in
    let equal = leaf k.Equal (codes "=") (past named (name d.name ∷ blank ∷ [])) in
    let there = past named (name d.name ∷ blank ∷ word k.Equal (codes "=") ∷ blank ∷ []) in
    let behind = leaves there (joined bar_marks (λ c. name c ∷ []) d.cons ++ line_feed ∷ []) ++ rest in
    inl (
      leaf k.TypeWord (codes "type") s,
      named_leaf ∷ equal ∷ behind,
      (refl, refl),
      (named_leaf, equal ∷ behind, (refl, refl), (equal, behind, (refl, refl), enumerated named_leaf d.cons some there rest)),
    )
