-- The names, the parameters and the guards of printed transitions are read as those of the transitions.
use Rattle.std.proofs.Common.{◌≡◌, ℕ, ◌+◌, ◌≤◌, Bool, true, false, List, [], ◌∷◌, ◌++◌, length, Some, None, refl, sym, ap, ◌∙◌, arith}
use Rattle.std.specs.Prelude.{IsTrue, ◌&&◌, codes, nat_le, count_by, if◌then◌else◌, flat_map}
use Rattle.std.specs.List.{AllZip, list_all}
use Rattle.cub_base.specs.Name.{is_declarable}
use Rattle.cub_base.proofs.Bools.{and_left, and_right, le_is}
use Rattle.cub_base.proofs.Elements.{from_all}
use Rattle.cub_lexer.specs.declared.token.TokenKind.TheVariants as k
use Rattle.cub_parse.specs.declared.tree.Leaf.{Leaf}
use Rattle.cub_parse.specs.declared.tree.FormNode.{FormNode}
use Rattle.cub_parse.specs.declared.tree.FormNode.TheVariants as n
use Rattle.cub_dnf.specs.declared.formula.Formula.{Formula}
use Rattle.cub_dnf.specs.declared.formula.Formula.TheVariants as f
use Rattle.cub_dnf.specs.Lists.{list_of}
use Rattle.cub_dnf.proofs.Parting.{list_of_all_true}
use Rattle.cub_names.specs.declared.scope.Local.{Local}
use Rattle.cub_names.specs.Checked as checked
use Rattle.cub_names.specs.Checked.{sound, both}
use Rattle.cub_names.specs.Meaning.{Frame, stands_for}
use Rattle.cub_names.specs.Scope.{place_of, locals_from}
use Rattle.cub_names.specs.Words.{word_of}
use Rattle.cub_types.specs.Bodies.{normalized}
use Rattle.cub_types.specs.Formulas.{form, form_step}
use Rattle.cub_types.specs.Guards.{nothing, beside, own_conjunct, conjunct, conjunct_of, whole, whole_of, universal, local, variable_faults}
use Rattle.cub_types.specs.Typing.{guard_of, split_lists}
use Rattle.cub_types.proofs.FormFolds.{at_group}
use Rattle.cub_types.proofs.Layers.{out_and, out_forall}
use Rattle.cub_proto.specs.declared.literal.Lit.{Lit}
use Rattle.cub_proto.specs.declared.protocol.Protocol.{Protocol}
use Rattle.cub_proto.specs.declared.transition.Transition.{Transition}
use Rattle.cub_proto.specs.Fits.{conjunction_fits, formula_fits, transition_fits, update_fits, picks_process, targets_rise}
use Rattle.cub_proto.specs.StateOf.{signature_of}
use Rattle.cub_print.specs.Mark.{Mark, blank, name}
use Rattle.cub_print.specs.Mark.Mark.{word}
use Rattle.cub_print.specs.Printed.{and_marks, formula_marks, parameter_marks, grouped_marks, braced_marks, is_trivial, universal_marks, guard_marks, heading_marks, requires_marks, effect_marks, transition_marks}
use Rattle.print_laws.specs.Spot.{Spot, past, leaf, in_row}
use Rattle.print_laws.specs.TermTree.{formula_tree}
use Rattle.print_laws.specs.Tree.{parameter_names, body_tree, grouped_tree, universal_tree, guard_tree, transition_tree}
use Rattle.print_words.specs.Writable.{is_writable_formula, is_writable_update, is_writable_transition}
use Rattle.print_words.proofs.Seams.{Every}
use Rattle.print_names.specs.Plain.{declares_plain_names}
use Rattle.print_names.proofs.Positions as positions
use Rattle.print_names.proofs.Positions.{at_left, at_right, at_regrouped, word_is}
use Rattle.print_names.proofs.Standing.{variable_stands}
use Rattle.print_names.proofs.Rows.{AreWords, row_zip}
use Rattle.print_formulas.specs.Normal.{is_normal_formula}
use Rattle.print_formulas.proofs.SidesRead.{IsScope}
use Rattle.print_formulas.proofs.FormsRead.{is_read, formula_read}
use Rattle.print_formulas.proofs.ScopeRead.{places_named, parameters_read, scope_read, locals_are, taken_are, none_variable}
use Rattle.print_formulas.proofs.BodiesRead.{formula_lits_read, narrow, normal_read}
use Rattle.print_transitions.specs.Normal.{has_normal_guard}
use Rattle.print_transitions.specs.HeadsAreRead.{IsHeadOf}
use Rattle.print_transitions.proofs.InnerScope.{outer_none, inner_name, inner_scope_read}
use Rattle.print_transitions.proofs.GuardsRead.{split_of, group_own, single_list, own_guard}

trivial_is : (conjs : List (List Lit)) → is_trivial conjs ≡ true → conjs ≡ [] ∷ []
trivial_is [] h = cc
trivial_is ([] ∷ []) h = refl
trivial_is ([] ∷ c ∷ cs) h = cc
trivial_is ((l ∷ ls) ∷ cs) h = cc

-- what `(` and `)` hold
at_grouped : (text : List ℕ) (ms : List Mark) (s : Spot) → positions.At text s (grouped_marks ms) → positions.At text (past s (word k.ParenOpen (codes "(") ∷ [])) ms
at_grouped text ms s at =
    let begin = word k.ParenOpen (codes "(") ∷ [] in
    let close = word k.ParenClose (codes ")") ∷ [] in
    at_left text (past s begin) ms close (at_right text s begin (ms ++ close) at)

module _ (p : Protocol) (plain : IsTrue (declares_plain_names p)) (text : List ℕ) (t : Transition) (ls : List Leaf) (few : t.params ≤ 3) (words : AreWords text ls (places_named t.params)) where
  abbrev its : Frame
  its = record { text = text; sig = signature_of p }

  abbrev scope : List Local
  scope = locals_from 0 ls

  is_scope : IsScope text scope t.params t.params
  is_scope = scope_read text t.params ls (omega (arith, few)) words

  -- the two lists of a guard
  record IsSplit (node : FormNode) : Type 0 where
    own : List Formula
    others : List Formula
    split : whole its t.params 64 scope node ≡ record { own = Some own; others = Some others; faults = [] }
    own_list : list_of (signature_of p) true (f.All own) ≡ t.guard
    others_list : list_of (signature_of p) true (f.All others) ≡ t.others

  module _ (own_kept : list_all (list_all (is_read p t.params false)) t.guard ≡ true) (others_kept : list_all (list_all (is_read p (t.params + 1) false)) t.others ≡ true) where
    own_split : (s : Spot) → positions.At text s (formula_marks p t.params t.guard) → is_trivial t.others ≡ true → IsSplit (formula_tree p t.params t.guard s)
    own_split s at trivial =
        let found = own_guard p plain text scope t.params t.params is_scope t.params t.guard own_kept s at in
        record { own = found.formulas; others = []; split = found.split 64; own_list = found.list; others_list = list_of_all_true (signature_of p) [] ∙ sym (trivial_is t.others trivial) }

    -- the universal guard alone
    record IsUniversal (node : FormNode) : Type 0 where
      formula : Formula
      split : conjunct its t.params 64 scope node ≡ record { own = Some []; others = Some (formula ∷ []); faults = [] }
      list : list_of (signature_of p) true (f.All (formula ∷ [])) ≡ t.others

    universal_read : (s : Spot) → positions.At text s (universal_marks p t) → IsUniversal (universal_tree p t s)
    unfolding universal_marks
    universal_read s at =
        let first = word k.ForallOtherWord (codes "forall_other") ∷ blank ∷ [] in
        let named = past s first in
        let middle = name (codes "_0") ∷ word k.Dot (codes ".") ∷ blank ∷ [] in
        let there = past named middle in
        let ms = formula_marks p t.params t.others in
        let at_name : positions.At text named (middle ++ grouped_marks ms) = at_right text s first (middle ++ grouped_marks ms) at in
        let name_leaf = leaf k.Name (codes "_0") named in
        let word_leaf = leaf k.ForallOtherWord (codes "forall_other") s in
        let own : word_of text name_leaf ≡ codes "_0" = word_is text named k.Name (codes "_0") (word k.Dot (codes ".") ∷ blank ∷ grouped_marks ms) at_name in
        let none = outer_none text t.params ls few words in
        let inner = scope ++ local name_leaf t.params ∷ [] in
        let is_inner : IsScope text inner t.params (t.params + 1) = inner_scope_read text scope t.params name_leaf few is_scope none own in
        let inside = past there (word k.ParenOpen (codes "(") ∷ []) in
        let node = formula_tree p t.params t.others inside in
        let body = grouped_tree (formula_tree p t.params t.others) there in
        let found = formula_read p plain text inner t.params (t.params + 1) is_inner false t.others others_kept inside (at_grouped text ms there (at_right text named middle (grouped_marks ms) at_name)) in
        let grouped : form false its inner body ≡ sound found.formula = at_group (form_step false its inner) node ∙ found.is in
        let body_split : whole its t.params 63 inner body ≡ split_of (found.formula ∷ []) =
        (group_own its t.params node).alone_is 63 inner ∙ (group_own its t.params node).part 63 inner ∙ ap own_conjunct grouped in
        let hidden : place_of text scope (word_of text name_leaf) ≡ None = ap (place_of text scope) (own ∙ sym (inner_name t.params few)) ∙ none in
        let stands : stands_for (signature_of p) (word_of text name_leaf) ≡ None = ap (stands_for (signature_of p)) own ∙ variable_stands p plain (codes "_0") refl in
        let faultless : variable_faults its t.params scope name_leaf ≡ [] = rw (stands, hidden) refl in
        record {
          formula = found.formula;
          split = ap (conjunct_of its t.params (conjunct its t.params 63) scope (n.Forall word_leaf name_leaf body)) (out_forall word_leaf name_leaf body)
              ∙ ap (λ fs. universal fs (whole its t.params 63 inner body)) faultless ∙ ap (universal []) body_split;
          list = single_list p plain text inner t.params (t.params + 1) is_inner t.params node t.others found;
        }

    both_split : (s : Spot) → positions.At text s (grouped_marks (formula_marks p t.params t.guard) ++ and_marks ++ universal_marks p t)
        → IsSplit (n.And (grouped_tree (formula_tree p t.params t.guard) s ∷ universal_tree p t (past (past s (grouped_marks (formula_marks p t.params t.guard))) and_marks) ∷ []))
    both_split s at =
        let ms = formula_marks p t.params t.guard in
        let own = grouped_marks ms in
        let behind = past s own in
        let there = past behind and_marks in
        let at_all = at_regrouped text s own and_marks (universal_marks p t) at in
        let inside = past s (word k.ParenOpen (codes "(") ∷ []) in
        let node = formula_tree p t.params t.guard inside in
        let group = grouped_tree (formula_tree p t.params t.guard) s in
        let other = universal_tree p t there in
        let found = formula_read p plain text scope t.params t.params is_scope false t.guard own_kept inside (at_grouped text ms s (at_left text s own (and_marks ++ universal_marks p t) at_all)) in
        let universal_ = universal_read there (at_right text behind and_marks (universal_marks p t) (at_right text s own (and_marks ++ universal_marks p t) at_all)) in
        let grouped : form false its scope group ≡ sound found.formula = at_group (form_step false its scope) node ∙ found.is in
        let group_split : conjunct its t.params 64 scope group ≡ split_of (found.formula ∷ []) = (group_own its t.params node).part 64 scope ∙ ap own_conjunct grouped in
        record {
          own = found.formula ∷ [];
          others = universal_.formula ∷ [];
          split = ap (whole_of its t.params (conjunct its t.params 64) scope (n.And (group ∷ other ∷ []))) (out_and (group ∷ other ∷ []))
              ∙ ap (λ a. beside a (beside (conjunct its t.params 64 scope other) nothing)) group_split
              ∙ ap (λ b. beside (split_of (found.formula ∷ [])) (beside b nothing)) universal_.split;
          own_list = single_list p plain text scope t.params t.params is_scope t.params node t.guard found;
          others_list = universal_.list;
        }

    guard_split : (s : Spot) → positions.At text s (guard_marks p t) → IsSplit (guard_tree p t s)
    guard_split s = by (is_trivial t.others) refl
      where
        by : (trivial : Bool) → is_trivial t.others ≡ trivial
            → positions.At text s (if trivial then formula_marks p t.params t.guard else grouped_marks (formula_marks p t.params t.guard) ++ and_marks ++ universal_marks p t)
            → IsSplit (if trivial
            then formula_tree p t.params t.guard s
            else n.And (grouped_tree (formula_tree p t.params t.guard) s ∷ universal_tree p t (past (past s (grouped_marks (formula_marks p t.params t.guard))) and_marks) ∷ []))
        by true e at = own_split s at e
        by false e at = both_split s at

    guard_read : (few_own : length t.guard ≤ 64) (few_others : length t.others ≤ 64) (own_fit : list_all (conjunction_fits (signature_of p) t.params) t.guard ≡ true)
        (others_fit : list_all (conjunction_fits (signature_of p) (t.params + 1)) t.others ≡ true) (s : Spot)
        → positions.At text (past s (word k.BraceOpen (codes "{") ∷ blank ∷ [])) (guard_marks p t)
        → guard_of its t.params scope (Some (body_tree [] (guard_marks p t) (guard_tree p t) s)) ≡ sound (t.guard, t.others)
    guard_read few_own few_others own_fit others_fit s at =
        let found = guard_split (past s (word k.BraceOpen (codes "{") ∷ blank ∷ [])) at in
        let sig = signature_of p in
        let token = (body_tree [] (guard_marks p t) (guard_tree p t) s).close.number in
        ap (split_lists sig token) found.split
        ∙ ap (λ c. checked.beside [] (both c (normalized sig token (f.All found.others)))) (normal_read p token (f.All found.own) t.guard found.own_list few_own (narrow p t.params t.guard own_fit))
        ∙ ap (λ c. checked.beside [] (both (sound t.guard) c)) (normal_read p token (f.All found.others) t.others found.others_list few_others (narrow p (t.params + 1) t.others others_fit))

-- ---- transitions
module _ (p : Protocol) (plain : IsTrue (declares_plain_names p)) (text : List ℕ) where
  abbrev IsKept : Transition → Type 0
  IsKept t = IsTrue (transition_fits (signature_of p) t) × IsTrue (is_writable_transition p t) × IsTrue (has_normal_guard p t)

  head_read : (t : Transition) (s : Spot) → IsKept t → positions.At text s (transition_marks p t) → IsHeadOf (record { text = text; sig = signature_of p }) (transition_tree p t s) t
  unfolding heading_marks requires_marks
  head_read t s kept at =
      let named_ = is_declarable t.name in
      let few_ = nat_le (t.params + count_by (picks_process (signature_of p)) t.updates) 3 in
      let guard_ = formula_fits (signature_of p) t.params t.guard in
      let others_ = formula_fits (signature_of p) (t.params + 1) t.others in
      let updates_ = list_all (update_fits (signature_of p) t.params) t.updates in
      let formulas_fit : IsTrue (named_ && few_ && guard_ && others_) =
      and_left (named_ && few_ && guard_ && others_) updates_ (and_left (named_ && few_ && guard_ && others_ && updates_) (targets_rise t.updates) kept.0) in
      let guard_fits : IsTrue (named_ && few_ && guard_) = and_left (named_ && few_ && guard_) others_ formulas_fit in
      let few : t.params ≤ 3 = omega (arith, le_is (t.params + count_by (picks_process (signature_of p)) t.updates) 3 (and_right named_ few_ (and_left (named_ && few_) guard_ guard_fits))) in
      let own_all = list_all (conjunction_fits (signature_of p) t.params) t.guard in
      let others_all = list_all (conjunction_fits (signature_of p) (t.params + 1)) t.others in
      let own_short = nat_le (length t.guard) 64 in
      let others_short = nat_le (length t.others) 64 in
      let own_fit = and_right own_short own_all (and_right (named_ && few_) guard_ guard_fits) in
      let others_fit = and_right others_short others_all (and_right (named_ && few_ && guard_) others_ formulas_fit) in
      let few_own = le_is (length t.guard) 64 (and_left own_short own_all (and_right (named_ && few_) guard_ guard_fits)) in
      let few_others = le_is (length t.others) 64 (and_left others_short others_all (and_right (named_ && few_ && guard_) others_ formulas_fit)) in
      let own_writable = is_writable_formula p t.guard in
      let others_writable = is_writable_formula p t.others in
      let writable : IsTrue (own_writable && others_writable) = and_left (own_writable && others_writable) (list_all (is_writable_update p) t.updates) kept.1 in
      let own_normal = is_normal_formula p t.guard in
      let others_normal = is_normal_formula p t.others in
      let own_kept = formula_lits_read p t.params t.guard own_fit (and_left own_writable others_writable writable) (and_left own_normal others_normal kept.2) in
      let others_kept = formula_lits_read p (t.params + 1) t.others others_fit (and_right own_writable others_writable writable) (and_right own_normal others_normal kept.2) in
      let first = word k.TransitionWord (codes "transition") ∷ blank ∷ [] in
      let named = past s first in
      let second = name t.name ∷ blank ∷ [] in
      let at_names = past named second in
      let params = parameter_marks t.params in
      let front = at_left text s (heading_marks t ++ requires_marks p t) (effect_marks p t) at in
      let at_heading : positions.At text named (second ++ (params ++ blank ∷ [])) = at_right text s first (second ++ (params ++ blank ∷ [])) (at_left text s (heading_marks t) (requires_marks p t) front) in
      let own = word_is text named k.Name t.name (blank ∷ (params ++ blank ∷ [])) at_heading in
      let words = parameters_read text t.params at_names (at_left text at_names params (blank ∷ []) (at_right text named second (params ++ blank ∷ []) at_heading)) in
      let names = parameter_names t.params at_names in
      let at_requires = past s (heading_marks t) in
      let third = word k.RequiresWord (codes "requires") ∷ blank ∷ [] in
      let braced = braced_marks (guard_marks p t) in
      let at_guard = past at_requires third in
      let at_body : positions.At text at_guard braced =
      at_left text at_guard braced (blank ∷ []) (at_right text at_requires third (braced ++ blank ∷ []) (at_right text s (heading_marks t) (requires_marks p t) front)) in
      let brace = word k.BraceOpen (codes "{") ∷ blank ∷ [] in
      let ending = blank ∷ word k.BraceClose (codes "}") ∷ [] in
      let inside = at_left text (past at_guard brace) (guard_marks p t) ending (at_right text at_guard brace (guard_marks p t ++ ending) at_body) in (
        own,
        taken_are text 3 t.params names few words,
        none_variable p plain text 3 t.params names few (omega (arith, few)) words,
        ap (λ ls. guard_of (record { text = text; sig = signature_of p }) t.params ls (Some (body_tree [] (guard_marks p t) (guard_tree p t) at_guard))) (locals_are text 3 t.params names few words)
            ∙ guard_read p plain text t names few words own_kept others_kept few_own few_others own_fit others_fit at_guard inside,
      )

  every_kept : (ts : List Transition) → list_all (transition_fits (signature_of p)) ts ≡ true → list_all (is_writable_transition p) ts ≡ true → list_all (has_normal_guard p) ts ≡ true → Every IsKept ts
  every_kept [] a b c = tt
  every_kept (x ∷ xs) a b c =
      let fit = transition_fits (signature_of p) x in
      let write = is_writable_transition p x in
      let normal = has_normal_guard p x in (
        (and_left fit (list_all (transition_fits (signature_of p)) xs) a, and_left write (list_all (is_writable_transition p) xs) b, and_left normal (list_all (has_normal_guard p) xs) c),
        every_kept xs (and_right fit (list_all (transition_fits (signature_of p)) xs) a) (and_right write (list_all (is_writable_transition p) xs) b) (and_right normal (list_all (has_normal_guard p) xs) c),
      )

  pub heads_read : list_all (is_writable_transition p) p.transitions ≡ true → list_all (has_normal_guard p) p.transitions ≡ true → (s : Spot) → positions.At text s (flat_map (transition_marks p) p.transitions)
      → AllZip (IsHeadOf (record { text = text; sig = signature_of p })) (in_row (transition_marks p) (transition_tree p) p.transitions s) p.transitions
  heads_read writable normal s at =
      row_zip text IsKept (IsHeadOf (record { text = text; sig = signature_of p })) (transition_marks p) (transition_tree p) head_read p.transitions
      (every_kept p.transitions (from_all (transition_fits (signature_of p)) p.transitions p.transitions_fit) writable normal) s at
