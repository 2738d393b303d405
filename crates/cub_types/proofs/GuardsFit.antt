-- The conjuncts of a guard are typed over its parameters, those of its universal guard over one place more.
use Rattle.std.proofs.Common.{◌≡◌, ℕ, zero, suc, ◌+◌, ◌≤◌, true, false, List, [], ◌∷◌, ◌++◌, length, map, take, Option, Some, None, refl, ◌∙◌, subst, arith, nat_lt}
use Rattle.std.specs.Prelude.{IfSome, ◌&&◌}
use Rattle.std.specs.List.{list_all}
use Rattle.std.proofs.lemmas.List.Folds.{list_all-append}
use Rattle.cub_base.proofs.Bools.{and_both, less_is, is_less}
use Rattle.cub_base.proofs.Conjunctions.{list_all_weaker}
use Rattle.cub_parse.specs.declared.tree.Leaf.{Leaf}
use Rattle.cub_parse.specs.declared.tree.FormNode.{FormNode}
use Rattle.cub_parse.specs.declared.tree.FormNode.TheOpen.{FormNode-F}
use Rattle.cub_parse.specs.declared.tree.FormNode.TheViews.{out-FormNode}
use Rattle.cub_dnf.specs.declared.formula.Formula.{Formula}
use Rattle.cub_names.specs.declared.fault.Fault.{Fault}
use Rattle.cub_names.specs.declared.scope.Local.{Local}
use Rattle.cub_names.specs.Checked.{in_front, appended}
use Rattle.cub_names.specs.Meaning.{Frame}
use Rattle.cub_names.specs.Scope.{scope_fits, locals, locals_from}
use Rattle.cub_types.specs.Formulas.{form}
use Rattle.cub_types.specs.Guards as g
use Rattle.cub_types.specs.Typed.{has_truths, is_typed}
use Rattle.cub_types.proofs.FormulasFit.{form_typed}

-- a scope fits a greater width
pub wider_scope : (w v : ℕ) (scope : List Local) → w ≤ v → scope_fits w scope ≡ true → scope_fits v scope ≡ true
wider_scope w v scope below h = list_all_weaker (λ l. nat_lt l.place w) (λ l. nat_lt l.place v) (λ l inside. is_less l.place v (omega (arith, less_is l.place w inside))) scope h

-- one variable more, at the next place
pub scope_more : (place w : ℕ) (scope : List Local) (l : Local) → l.place ≡ place → w ≤ place + 1 → scope_fits w scope ≡ true → scope_fits (place + 1) (scope ++ l ∷ []) ≡ true
scope_more place w scope l at below h =
    list_all-append (λ m. nat_lt m.place (place + 1)) scope (l ∷ [])
    ∙ and_both (scope_fits (place + 1) scope) (nat_lt l.place (place + 1) && true) (wider_scope w (place + 1) scope below h)
    (and_both (nat_lt l.place (place + 1)) true (is_less l.place (place + 1) (omega (arith, at))) refl)

locals_within : (k : ℕ) (names : List Leaf) → scope_fits (k + length names) (locals_from k names) ≡ true
locals_within k [] = refl
locals_within k (l ∷ ls) =
    and_both (nat_lt k (k + suc (length ls))) (scope_fits (k + suc (length ls)) (locals_from (k + 1) ls)) (is_less k (k + suc (length ls)) (omega arith))
    (subst (λ n. scope_fits n (locals_from (k + 1) ls) ≡ true) (let e : k + 1 + length ls ≡ k + suc (length ls) = omega arith in e) (locals_within (k + 1) ls))

-- the variables of a declaration fit their number
pub locals_fit : (limit : ℕ) (names : List Leaf) → scope_fits (length (take limit names)) (locals limit names) ≡ true
locals_fit limit names = subst (λ n. scope_fits n (locals limit names) ≡ true) (let e : 0 + length (take limit names) ≡ length (take limit names) = omega arith in e) (locals_within 0 (take limit names))

module _ (frame : Frame) (place : ℕ) (truths : has_truths frame.sig ≡ true) where
  abbrev Typed : ℕ → Option (List Formula) → Type 0
  Typed width parts = IfSome parts (λ formulas. list_all (is_typed frame.sig width) formulas ≡ true)

  pub record SplitTyped (width : ℕ) (s : g.Split) : Type 0 where
    pub own : Typed width s.own
    pub others : Typed (place + 1) s.others

  appended_typed : (width : ℕ) (v u : Option (List Formula)) → Typed width v → Typed width u → Typed width (appended v u)
  appended_typed width None u h k = tt
  appended_typed width (Some a) None h k = tt
  appended_typed width (Some a) (Some b) h k =
      list_all-append (is_typed frame.sig width) a b ∙ and_both (list_all (is_typed frame.sig width) a) (list_all (is_typed frame.sig width) b) h k

  one_typed : (width : ℕ) (v : Option Formula) → IfSome v (λ formula. is_typed frame.sig width formula ≡ true) → Typed width (in_front v (Some []))
  one_typed width None h = tt
  one_typed width (Some a) h = and_both (is_typed frame.sig width a) true h refl

  own_typed : (width : ℕ) (scope : List Local) (node : FormNode) → scope_fits width scope ≡ true → SplitTyped width (g.own_conjunct (form false frame scope node))
  own_typed width scope node within = record { own = one_typed width (form false frame scope node).value (form_typed false frame scope width within truths node); others = refl }

  beside_typed : (width : ℕ) (a c : g.Split) → SplitTyped width a → SplitTyped width c → SplitTyped width (g.beside a c)
  beside_typed width a c h k = record { own = appended_typed width a.own c.own h.own k.own; others = appended_typed (place + 1) a.others c.others h.others k.others }

  universal_typed : (width : ℕ) (faults : List Fault) (s : g.Split) → SplitTyped (place + 1) s → SplitTyped width (g.universal faults s)
  universal_typed width faults s h = record { own = refl; others = appended_typed (place + 1) s.own s.others h.own h.others }

  abbrev Below : Type 0
  Below = List Local → FormNode → g.Split

  abbrev Types : Below → Type 0
  Types below = (width : ℕ) (scope : List Local) (node : FormNode) → width ≤ place + 1 → scope_fits width scope ≡ true → SplitTyped width (below scope node)

  all_split : (below : Below) → Types below → (width : ℕ) (scope : List Local) (nodes : List FormNode) → width ≤ place + 1 → scope_fits width scope ≡ true
      → SplitTyped width (g.all_beside (map (below scope) nodes))
  all_split below typed width scope [] few within = record { own = refl; others = refl }
  all_split below typed width scope (x ∷ xs) few within =
      beside_typed width (below scope x) (g.all_beside (map (below scope) xs)) (typed width scope x few within) (all_split below typed width scope xs few within)

  whole_split : (below : Below) → Types below → (width : ℕ) (scope : List Local) (node : FormNode) (layer : FormNode-F FormNode) → width ≤ place + 1 → scope_fits width scope ≡ true
      → SplitTyped width (g.whole_of frame place below scope node layer)
  whole_split below typed width scope node (FormNode-F.And nodes) few within = all_split below typed width scope nodes few within
  whole_split below typed width scope node (FormNode-F.Or nodes) few within = typed width scope node few within
  whole_split below typed width scope node (FormNode-F.Not part) few within = typed width scope node few within
  whole_split below typed width scope node (FormNode-F.Group part) few within = typed width scope node few within
  whole_split below typed width scope node (FormNode-F.Forall word name body) few within = typed width scope node few within
  whole_split below typed width scope node (FormNode-F.Side sum) few within = typed width scope node few within
  whole_split below typed width scope node (FormNode-F.Rel a sign c) few within = typed width scope node few within

  conjunct_split : (below : Below) → Types below → (width : ℕ) (scope : List Local) (node : FormNode) (layer : FormNode-F FormNode) → width ≤ place + 1 → scope_fits width scope ≡ true
      → SplitTyped width (g.conjunct_of frame place below scope node layer)
  conjunct_split below typed width scope node (FormNode-F.Forall word name body) few within =
      universal_typed width _ _
      (whole_split below typed (place + 1) (scope ++ g.local name place ∷ []) body (out-FormNode body) (omega arith) (scope_more place width scope (g.local name place) refl few within))
  conjunct_split below typed width scope node (FormNode-F.And nodes) few within = own_typed width scope node within
  conjunct_split below typed width scope node (FormNode-F.Or nodes) few within = own_typed width scope node within
  conjunct_split below typed width scope node (FormNode-F.Not part) few within = own_typed width scope node within
  conjunct_split below typed width scope node (FormNode-F.Group part) few within = own_typed width scope node within
  conjunct_split below typed width scope node (FormNode-F.Side sum) few within = own_typed width scope node within
  conjunct_split below typed width scope node (FormNode-F.Rel a sign c) few within = own_typed width scope node within

  conjunct_typed : (levels : ℕ) → Types (g.conjunct frame place levels)
  conjunct_typed zero = λ width scope node few within. own_typed width scope node within
  conjunct_typed (suc levels) = λ width scope node few within. conjunct_split (g.conjunct frame place levels) (conjunct_typed levels) width scope node (out-FormNode node) few within

  -- the conjuncts of a guard over so many parameters
  pub whole_typed : (levels : ℕ) (scope : List Local) (node : FormNode) → scope_fits place scope ≡ true → SplitTyped place (g.whole frame place levels scope node)
  whole_typed levels scope node within = whole_split (g.conjunct frame place levels) (conjunct_typed levels) place scope node (out-FormNode node) (omega arith) within
