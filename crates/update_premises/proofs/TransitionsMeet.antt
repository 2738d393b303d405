-- Transitions of texts have literals of texts alone, and names that may be declared.
use Rattle.std.proofs.Common.{◌≡◌, ℕ, Bool, true, false, List, [], ◌∷◌, length, take, Option, Some, None, refl, sym, ap, ◌∙◌, subst}
use Rattle.std.specs.Prelude.{if◌then◌else◌, ◌&&◌, not, flat_map}
use Rattle.std.specs.List.{list_all}
use Rattle.std.proofs.lemmas.List.Folds.{list_all-append}
use Rattle.cub_base.specs.Name.{is_declarable}
use Rattle.cub_base.proofs.Bools.{and_left, and_right, and_both}
use Rattle.cub_base.proofs.Conjunctions.{list_all_front, list_all_back}
use Rattle.cub_parse.specs.declared.tree.Leaf.{Leaf}
use Rattle.cub_parse.specs.declared.tree.BodyNode.{BodyNode}
use Rattle.cub_parse.specs.declared.tree.FormNode.{FormNode}
use Rattle.cub_parse.specs.declared.tree.UpdateNode.{UpdateNode}
use Rattle.cub_parse.specs.declared.tree.RestNode.{RestNode}
use Rattle.cub_parse.specs.declared.tree.RestNode.TheVariants as rests
use Rattle.cub_proto.specs.declared.literal.Lit.{Lit}
use Rattle.cub_proto.specs.declared.transition.Transition.{Transition}
use Rattle.cub_proto.specs.declared.protocol.Protocol.{Protocol}
use Rattle.cub_proto.specs.StateOf.{signature_of}
use Rattle.cub_dnf.specs.declared.formula.Formula.{Formula}
use Rattle.cub_dnf.specs.declared.formula.Formula.TheVariants as f
use Rattle.cub_names.specs.declared.scope.Local.{Local}
use Rattle.cub_names.specs.Checked.{paired, in_front}
use Rattle.cub_names.specs.Words.{word_of, may_declare, begins_with_underscore}
use Rattle.cub_names.specs.Scope.{locals}
use Rattle.cub_types.specs.declared.updating.Updating.{Updating}
use Rattle.cub_types.specs.Joined as j
use Rattle.cub_types.specs.Typing as ty
use Rattle.cub_types.proofs.FormFolds.{Each}
use Rattle.cub_types.proofs.GuardsFit.{locals_fit}
use Rattle.cub_types.proofs.BodiesFit.{joined_some}
use Rattle.print_names.specs.Plain.{is_plain}
use Rattle.print_premises.proofs.Literals.{are_textual, ready_all}
use Rattle.print_premises.proofs.FormulasMeet.{frame}
use Rattle.print_premises.proofs.GuardsMeet.{AreReady, SplitReady, whole_ready}
use Rattle.print_premises.proofs.BodiesMeet.{normal_textual}
use Rattle.update_premises.proofs.UpdatesMeet.{is_textual_update, WroteTextual, kept_textual, updates_textual}

abbrev Lists : Type 0
Lists = List (List Lit) × List (List Lit)

pair_parts : {A B : Type 0} (v : Option A) (w : Option B) (s : A × B) → paired v w ≡ Some s → (v ≡ Some s.0) × (w ≡ Some s.1)
pair_parts None w s h = cc
pair_parts (Some a) None s h = cc
pair_parts (Some a) (Some b) s h = let same : s ≡ (a, b) = cc in (ap (λ (q : _). Some q.0) (sym same), ap (λ (q : _). Some q.1) (sym same))

one_listed : (found : Option Transition) (ts : List Transition) → in_front found (Some []) ≡ Some ts → (tr : Transition) × (found ≡ Some tr) × (ts ≡ tr ∷ [])
one_listed None ts h = cc
one_listed (Some tr) ts h = (tr, refl, cc)

module _ (p : Protocol) where
  abbrev pub is_textual_transition : Transition → Bool
  is_textual_transition tr = list_all (are_textual p) tr.guard && list_all (are_textual p) tr.others && list_all (is_textual_update p) tr.updates

  -- and its name may be declared
  abbrev pub is_met : Transition → Bool
  is_met tr = is_textual_transition tr && is_plain tr.name

  record GuardTextual (found : Lists) : Type 0 where
    own : list_all (are_textual p) found.0 ≡ true
    others : list_all (are_textual p) found.1 ≡ true

  conjoined_textual : (token : ℕ) (parts : Option (List Formula)) (conjs : List (List Lit)) → AreReady p parts → (ty.conjoined (signature_of p) token parts).value ≡ Some conjs
      → list_all (are_textual p) conjs ≡ true
  conjoined_textual token None conjs ready h = cc
  conjoined_textual token (Some formulas) conjs ready h = normal_textual p token (f.All formulas) conjs (ready_all p formulas ∙ ready) h

  module _ (text : List ℕ) where
    split_ready : (params : ℕ) (scope : List Local) (formula : Option FormNode) → SplitReady p (ty.split_guard (frame p text) params scope formula)
    split_ready params scope None = record { own = refl; others = refl }
    split_ready params scope (Some node) = whole_ready p text params 64 scope node

    guard_textual : (params : ℕ) (scope : List Local) (guard : Option BodyNode) (found : Lists) → (ty.guard_of (frame p text) params scope guard).value ≡ Some found → GuardTextual found
    guard_textual params scope None found h = let same : found ≡ ty.no_guard = cc in subst GuardTextual (sym same) (record { own = refl; others = refl })
    guard_textual params scope (Some body) found h =
        let s = ty.split_guard (frame p text) params scope body.formula in
        let token = body.close.number in
        let parts = pair_parts (ty.conjoined (signature_of p) token s.own).value (ty.conjoined (signature_of p) token s.others).value found h in
        let ready = split_ready params scope body.formula in
        record { own = conjoined_textual token s.own found.0 ready.own parts.0; others = conjoined_textual token s.others found.1 ready.others parts.1 }

    abbrev may : Leaf → Bool
    may l = may_declare (word_of text l)

    plain_of : (l : Leaf) → may l ≡ true → is_plain (word_of text l) ≡ true
    plain_of l h = and_right (is_declarable (word_of text l)) (not (begins_with_underscore (word_of text l))) h

    -- the transition of such parts
    abbrev built : ℕ → Leaf → Updating → Lists → Transition
    built params name u guard = record { name = word_of text name; params = params; guard = guard.0; others = guard.1; updates = j.updates_of (signature_of p) params u.kept }

    built_met : (params : ℕ) (name : Leaf) (u : Updating) (guard : Lists) → may name ≡ true → GuardTextual guard → Each (WroteTextual p params) u.kept → is_met (built params name u guard) ≡ true
    built_met params name u guard named fit kept =
        let tr = built params name u guard in
        let own = list_all (are_textual p) guard.0 in
        let others = list_all (are_textual p) guard.1 in
        and_both (is_textual_transition tr) (is_plain (word_of text name))
        (and_both (own && others) (list_all (is_textual_update p) tr.updates) (and_both own others fit.own fit.others) (updates_textual p params u.kept kept (j.targets (signature_of p))))
        (plain_of name named)

    built_by : (params : ℕ) (name : Leaf) (u : Updating) (guard : Lists) (tr : Transition) (b : Bool) → (if b then Some (built params name u guard) else None) ≡ Some tr → tr ≡ built params name u guard
    built_by params name u guard tr true h = cc
    built_by params name u guard tr false h = cc

    from_guard : (params : ℕ) (name : Leaf) (u : Updating) (found : Option Lists) (tr : Transition) → ((guard : Lists) → found ≡ Some guard → GuardTextual guard)
        → may name ≡ true → Each (WroteTextual p params) u.kept → ty.transition_from (frame p text) params name u found ≡ Some tr → is_met tr ≡ true
    from_guard params name u None tr fit named kept h = cc
    from_guard params name u (Some guard) tr fit named kept h =
        subst (λ x. is_met x ≡ true) (sym (built_by params name u guard tr u.whole h)) (built_met params name u guard named (fit guard refl) kept)

    one_met : (name : Leaf) (names : List Leaf) (guard : Option BodyNode) (updates : List UpdateNode) (tr : Transition) → may name ≡ true
        → (ty.transition (frame p text) name names guard updates).value ≡ Some tr → is_met tr ≡ true
    one_met name names guard updates tr named h =
        let params = length (take 3 names) in
        from_guard params name (j.updating (frame p text) (locals 3 names) params j.no_updates updates) (ty.guard_of (frame p text) params (locals 3 names) guard).value tr
        (λ found is. guard_textual params (locals 3 names) guard found is) named (kept_textual p text params (locals 3 names) (locals_fit 3 names) j.no_updates updates tt) h

    at_met : (r : RestNode) (ts : List Transition) → list_all may (ty.transition_name r) ≡ true → (ty.transition_at (frame p text) r).value ≡ Some ts → list_all is_met ts ≡ true
    at_met (rests.Unsafe body) ts named h = let is : ts ≡ [] = cc in ap (list_all is_met) is
    at_met (rests.Invariant word body) ts named h = let is : ts ≡ [] = cc in ap (list_all is_met) is
    at_met (rests.Transition name names guard updates) ts named h =
        let one = one_listed (ty.transition (frame p text) name names guard updates).value ts h in
        ap (list_all is_met) one.2 ∙ and_both (is_met one.0) true (one_met name names guard updates one.0 (and_left (may name) true named) one.1) refl

    -- all transitions
    pub transitions_met : (rs : List RestNode) (ts : List Transition) → list_all may (flat_map ty.transition_name rs) ≡ true → (ty.transitions_of (frame p text) rs).value ≡ Some ts
        → list_all is_met ts ≡ true
    transitions_met [] ts named h = let is : ts ≡ [] = cc in ap (list_all is_met) is
    transitions_met (r ∷ rs) ts named h =
        let parts = joined_some (ty.transition_at (frame p text) r).value (ty.transitions_of (frame p text) rs).value ts h in
        let later = flat_map ty.transition_name rs in
        ap (list_all is_met) parts.4 ∙ list_all-append is_met parts.0 parts.1
        ∙ and_both (list_all is_met parts.0) (list_all is_met parts.1) (at_met r parts.0 (list_all_front may (ty.transition_name r) later named) parts.2)
        (transitions_met rs parts.1 (list_all_back may (ty.transition_name r) later named) parts.3)
