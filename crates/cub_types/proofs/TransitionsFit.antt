-- Guards and transitions without faults are those of a protocol.
use Rattle.std.proofs.Common.{◌≡◌, ℕ, ◌+◌, Bool, true, false, List, [], ◌∷◌, ◌++◌, length, map, take, Option, Some, None, refl, sym, ap, ◌∙◌, subst, arith, nat_le}
use Rattle.std.specs.Prelude.{if◌then◌else◌, IfSome, ◌&&◌, flat_map, count_by, not}
use Rattle.std.specs.List.{list_all}
use Rattle.std.proofs.lemmas.List.Folds.{list_all-append, list_all-map}
use Rattle.cub_base.specs.Name.{is_declarable}
use Rattle.cub_base.proofs.Bools.{and_left, and_right, and_both, is_le}
use Rattle.cub_base.proofs.Conjunctions.{list_all_weaker, list_all_front, list_all_back}
use Rattle.cub_parse.specs.declared.tree.Leaf.{Leaf}
use Rattle.cub_parse.specs.declared.tree.BodyNode.{BodyNode}
use Rattle.cub_parse.specs.declared.tree.FormNode.{FormNode}
use Rattle.cub_parse.specs.declared.tree.UpdateNode.{UpdateNode}
use Rattle.cub_parse.specs.declared.tree.RestNode.{RestNode}
use Rattle.cub_parse.specs.declared.tree.RestNode.TheVariants as rests
use Rattle.cub_proto.specs.declared.literal.Sort.{Sort}
use Rattle.cub_proto.specs.declared.literal.Lit.{Lit}
use Rattle.cub_proto.specs.declared.transition.Transition.{Transition}
use Rattle.cub_proto.specs.Signature.{Signature, declared_sort, is_sort}
use Rattle.cub_proto.specs.Fits.{formula_fits, picks_process, update_fits, targets_rise, transition_fits}
use Rattle.cub_dnf.specs.declared.formula.Formula.{Formula}
use Rattle.cub_dnf.specs.declared.formula.Formula.TheVariants as f
use Rattle.cub_dnf.specs.Fits.{fits, has_text_bounds, text_bounds_step}
use Rattle.cub_dnf.proofs.Folding.{at_all}
use Rattle.cub_dnf.proofs.Parting.{fits_all}
use Rattle.cub_names.specs.declared.scope.Local.{Local}
use Rattle.cub_names.specs.Checked.{paired, in_front}
use Rattle.cub_names.specs.Words.{word_of, may_declare, begins_with_underscore}
use Rattle.cub_names.specs.Meaning.{Frame}
use Rattle.cub_names.specs.Scope.{scope_fits, locals, variable_faults}
use Rattle.cub_names.proofs.Empty.{nil_left, nil_right}
use Rattle.cub_types.specs.declared.updating.Updating.{Updating}
use Rattle.cub_types.specs.Joined as j
use Rattle.cub_types.specs.Typing as ty
use Rattle.cub_types.specs.Typed.{has_truths, is_typed}
use Rattle.cub_types.proofs.GuardsFit.{SplitTyped, whole_typed, locals_fit}
use Rattle.cub_types.proofs.BodiesFit.{normal_fits, few_variables, joined_some}
use Rattle.cub_types.proofs.JoinedFit.{Ready, updating_ready, updates_fit, found_fits}
use Rattle.cub_types.proofs.TargetsFit.{rising, few_picks}

-- conjuncts that are typed are typed together
pub all_typed : (sig : Signature) (width : ℕ) (formulas : List Formula) → list_all (is_typed sig width) formulas ≡ true → is_typed sig width (f.All formulas) ≡ true
all_typed sig width formulas h =
    and_both (fits sig width (f.All formulas)) (has_text_bounds (f.All formulas))
    (fits_all sig width formulas ∙ list_all_weaker (is_typed sig width) (fits sig width) (λ formula typed. and_left (fits sig width formula) (has_text_bounds formula) typed) formulas h)
    (at_all text_bounds_step formulas ∙ list_all-map (λ b. b) has_text_bounds formulas
    ∙ list_all_weaker (is_typed sig width) has_text_bounds (λ formula typed. and_right (fits sig width formula) (has_text_bounds formula) typed) formulas h)

conjoined_fits : (sig : Signature) (width token : ℕ) (parts : Option (List Formula)) (conjs : List (List Lit)) → IfSome parts (λ formulas. list_all (is_typed sig width) formulas ≡ true)
    → (ty.conjoined sig token parts).value ≡ Some conjs → formula_fits sig width conjs ≡ true
conjoined_fits sig width token None conjs typed h = cc
conjoined_fits sig width token (Some formulas) conjs typed h = normal_fits sig width token (f.All formulas) conjs (all_typed sig width formulas typed) h

abbrev Lists : Type 0
Lists = List (List Lit) × List (List Lit)

-- both lists of a guard
pub record GuardFits (sig : Signature) (params : ℕ) (found : Lists) : Type 0 where
  pub own : formula_fits sig params found.0 ≡ true
  pub others : formula_fits sig (params + 1) found.1 ≡ true

pair_parts : {A B : Type 0} (v : Option A) (w : Option B) (p : A × B) → paired v w ≡ Some p → (v ≡ Some p.0) × (w ≡ Some p.1)
pair_parts None w p h = cc
pair_parts (Some a) None p h = cc
pair_parts (Some a) (Some b) p h = let same : p ≡ (a, b) = cc in (ap (λ (q : _). Some q.0) (sym same), ap (λ (q : _). Some q.1) (sym same))

module _ (frame : Frame) (params : ℕ) (scope : List Local) (within : scope_fits params scope ≡ true) (truths : has_truths frame.sig ≡ true) where
  pub split_typed : (formula : Option FormNode) → SplitTyped frame params truths params (ty.split_guard frame params scope formula)
  split_typed None = record { own = refl; others = refl }
  split_typed (Some node) = whole_typed frame params truths 64 scope node within

  pub guard_fits : (guard : Option BodyNode) (found : Lists) → (ty.guard_of frame params scope guard).value ≡ Some found → GuardFits frame.sig params found
  guard_fits None found h = let same : found ≡ ty.no_guard = cc in subst (GuardFits frame.sig params) (sym same) (record { own = refl; others = refl })
  guard_fits (Some body) found h =
      let s = ty.split_guard frame params scope body.formula in
      let token = body.close.number in
      let parts = pair_parts (ty.conjoined frame.sig token s.own).value (ty.conjoined frame.sig token s.others).value found h in
      let typed = split_typed body.formula in
      record { own = conjoined_fits frame.sig params token s.own found.0 typed.own parts.0; others = conjoined_fits frame.sig (params + 1) token s.others found.1 typed.others parts.1 }

module _ (frame : Frame) (truths : has_truths frame.sig ≡ true) (no_arrays : (a : ℕ) → is_sort (declared_sort frame.sig.arrays a) Sort.Proc ≡ false) where
  made_fits : (params : ℕ) (name : Leaf) (u : Updating) (guard : Lists) → is_declarable (word_of frame.text name) ≡ true → GuardFits frame.sig params guard → Ready frame.sig params u
      → j.long_faults params u.kept (j.targets frame.sig) ≡ []
      → transition_fits frame.sig (record { name = word_of frame.text name; params = params; guard = guard.0; others = guard.1; updates = j.updates_of frame.sig params u.kept }) ≡ true
  made_fits params name u guard named fit ready none =
      let sig = frame.sig in
      let us = j.updates_of sig params u.kept in
      let named_is = is_declarable (word_of frame.text name) in
      let few = nat_le (params + count_by (picks_process sig) us) 3 in
      let own = formula_fits sig params guard.0 in
      let others = formula_fits sig (params + 1) guard.1 in
      let all = list_all (update_fits sig params) us in
      let picks = few_picks sig params u.taken u.kept ready.kept (λ target. found_fits sig params u.taken target u.kept ready.kept) no_arrays in
      and_both (named_is && few && own && others && all) (targets_rise us)
      (and_both (named_is && few && own && others) all
      (and_both (named_is && few && own) others
      (and_both (named_is && few) own
      (and_both named_is few named (is_le (params + count_by (picks_process sig) us) 3 (omega (arith, picks, ready.few)))) fit.own) fit.others)
      (updates_fit sig params u.taken u.kept ready.kept (j.targets sig) none)) (rising params u.kept sig)

  -- the updates are all whole, so there is the transition of the parts
  whole_by : (params : ℕ) (name : Leaf) (u : Updating) (guard : Lists) (tr : Transition) (b : Bool) → u.whole ≡ b
      → (if b then Some (record { name = word_of frame.text name; params = params; guard = guard.0; others = guard.1; updates = j.updates_of frame.sig params u.kept }) else None) ≡ Some tr
      → (u.whole ≡ true) × (tr ≡ record { name = word_of frame.text name; params = params; guard = guard.0; others = guard.1; updates = j.updates_of frame.sig params u.kept })
  whole_by params name u guard tr true is h = (is, cc)
  whole_by params name u guard tr false is h = cc

  module _ (name : Leaf) (names : List Leaf) (updates : List UpdateNode) (named : is_declarable (word_of frame.text name) ≡ true) where
    abbrev params : ℕ
    params = length (take 3 names)

    abbrev all_updates : Updating
    all_updates = j.updating frame (locals 3 names) params j.no_updates updates

    ready : all_updates.whole ≡ true → j.updating_faults frame (locals 3 names) params j.no_updates updates ≡ [] → Ready frame.sig params all_updates
    ready whole none =
        updating_ready frame truths params (locals 3 names) (locals_fit 3 names) j.no_updates updates (record { kept = tt; few = omega (arith, few_variables 3 names) }) whole none

    from_guard : (found : Option Lists) (tr : Transition) → ((guard : Lists) → found ≡ Some guard → GuardFits frame.sig params guard) → ty.transition_from frame params name all_updates found ≡ Some tr
        → j.updating_faults frame (locals 3 names) params j.no_updates updates ≡ [] → j.long_faults params all_updates.kept (j.targets frame.sig) ≡ []
        → (transition_fits frame.sig tr ≡ true) × (tr.name ≡ word_of frame.text name)
    from_guard None tr fit h none long = cc
    from_guard (Some guard) tr fit h none long =
        let made = whole_by params name all_updates guard tr all_updates.whole refl h in (
          subst (λ x. transition_fits frame.sig x ≡ true) (sym made.1) (made_fits params name all_updates guard named (fit guard refl) (ready made.0 none) long),
          ap (λ (x : Transition). x.name) made.1,
        )

    transition_is_fit : (guard : Option BodyNode) (tr : Transition) → (ty.transition frame name names guard updates).value ≡ Some tr → (ty.transition frame name names guard updates).faults ≡ []
        → (transition_fits frame.sig tr ≡ true) × (tr.name ≡ word_of frame.text name)
    transition_is_fit guard tr h none =
        let found = ty.guard_of frame params (locals 3 names) guard in
        let vs = variable_faults frame 3 names in
        let us = j.updating_faults frame (locals 3 names) params j.no_updates updates in
        let ls = j.long_faults params all_updates.kept (j.targets frame.sig) in
        from_guard found.value tr (λ guard_is is. guard_fits frame params (locals 3 names) (locals_fit 3 names) truths guard guard_is is) h
        (nil_right (vs ++ found.faults) us (nil_left (vs ++ found.faults ++ us) ls none)) (nil_right (vs ++ found.faults ++ us) ls none)

  -- transitions that fit, with these names
  record Fit (names : List Leaf) (ts : List Transition) : Type 0 where
    fit : list_all (transition_fits frame.sig) ts ≡ true
    named : map (λ (x : Transition). x.name) ts ≡ map (word_of frame.text) names

  abbrev may : Leaf → Bool
  may l = may_declare (word_of frame.text l)

  one_listed : (found : Option Transition) (ts : List Transition) → in_front found (Some []) ≡ Some ts → (tr : Transition) × (found ≡ Some tr) × (ts ≡ tr ∷ [])
  one_listed None ts h = cc
  one_listed (Some tr) ts h = (tr, refl, cc)

  at_fit : (r : RestNode) (ts : List Transition) → list_all may (ty.transition_name r) ≡ true → (ty.transition_at frame r).value ≡ Some ts → (ty.transition_at frame r).faults ≡ [] → Fit (ty.transition_name r) ts
  at_fit (rests.Unsafe body) ts named h none = let is : ts ≡ [] = cc in subst (Fit []) (sym is) (record { fit = refl; named = refl })
  at_fit (rests.Invariant word body) ts named h none = let is : ts ≡ [] = cc in subst (Fit []) (sym is) (record { fit = refl; named = refl })
  at_fit (rests.Transition name names guard updates) ts named h none =
      let word = word_of frame.text name in
      let one = one_listed (ty.transition frame name names guard updates).value ts h in
      let own = transition_is_fit name names updates (and_left (is_declarable word) (not (begins_with_underscore word)) (and_left (may name) true named)) guard one.0 one.1 none in
      subst (Fit (name ∷ [])) (sym one.2) (record { fit = and_both (transition_fits frame.sig one.0) true own.0 refl; named = ap (λ n. n ∷ []) own.1 })

  map_join : {A B : Type 0} (make : A → B) (xs ys : List A) → map make (xs ++ ys) ≡ map make xs ++ map make ys
  map_join make [] ys = refl
  map_join make (x ∷ xs) ys = ap (λ zs. make x ∷ zs) (map_join make xs ys)

  fit_join : (ms ns : List Leaf) (ts us : List Transition) → Fit ms ts → Fit ns us → Fit (ms ++ ns) (ts ++ us)
  fit_join ms ns ts us h k = record {
    fit = list_all-append (transition_fits frame.sig) ts us ∙ and_both (list_all (transition_fits frame.sig) ts) (list_all (transition_fits frame.sig) us) h.fit k.fit;
    named = map_join (λ (x : Transition). x.name) ts us ∙ ap (λ ws. ws ++ map (λ (x : Transition). x.name) us) h.named ∙ ap (λ ws. map (word_of frame.text) ms ++ ws) k.named ∙ sym (map_join (word_of frame.text) ms ns);
  }

  all_fit : (rs : List RestNode) (ts : List Transition) → list_all may (flat_map ty.transition_name rs) ≡ true → (ty.transitions_of frame rs).value ≡ Some ts → (ty.transitions_of frame rs).faults ≡ []
      → Fit (flat_map ty.transition_name rs) ts
  all_fit [] ts named h none = let is : ts ≡ [] = cc in subst (Fit []) (sym is) (record { fit = refl; named = refl })
  all_fit (r ∷ rs) ts named h none =
      let here = ty.transition_at frame r in
      let next = ty.transitions_of frame rs in
      let parts = joined_some here.value next.value ts h in
      subst (Fit (ty.transition_name r ++ flat_map ty.transition_name rs)) (sym parts.4)
      (fit_join (ty.transition_name r) (flat_map ty.transition_name rs) parts.0 parts.1
      (at_fit r parts.0 (list_all_front may (ty.transition_name r) (flat_map ty.transition_name rs) named) parts.2 (nil_left here.faults next.faults none))
      (all_fit rs parts.1 (list_all_back may (ty.transition_name r) (flat_map ty.transition_name rs) named) parts.3 (nil_right here.faults next.faults none)))

  -- all transitions
  pub transitions_fit : (rs : List RestNode) (ts : List Transition) → list_all may (flat_map ty.transition_name rs) ≡ true → (ty.transitions_of frame rs).value ≡ Some ts → (ty.transitions_of frame rs).faults ≡ []
      → (list_all (transition_fits frame.sig) ts ≡ true) × (map (λ (x : Transition). x.name) ts ≡ map (word_of frame.text) (flat_map ty.transition_name rs))
  transitions_fit rs ts named h none = let all = all_fit rs ts named h none in (all.fit, all.named)
