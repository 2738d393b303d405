-- The conjuncts of a guard and of its universal guard have literals of texts alone.
use Rattle.std.proofs.Common.{◌≡◌, ℕ, zero, suc, true, false, List, [], ◌∷◌, ◌++◌, map, Option, Some, None, refl, ◌∙◌}
use Rattle.std.specs.Prelude.{IfSome}
use Rattle.std.specs.List.{list_all}
use Rattle.std.proofs.lemmas.List.Folds.{list_all-append}
use Rattle.cub_base.proofs.Bools.{and_both}
use Rattle.cub_parse.specs.declared.tree.FormNode.{FormNode}
use Rattle.cub_parse.specs.declared.tree.FormNode.TheOpen.{FormNode-F}
use Rattle.cub_parse.specs.declared.tree.FormNode.TheViews.{out-FormNode}
use Rattle.cub_dnf.specs.declared.formula.Formula.{Formula}
use Rattle.cub_names.specs.declared.fault.Fault.{Fault}
use Rattle.cub_names.specs.declared.scope.Local.{Local}
use Rattle.cub_names.specs.Checked.{in_front, appended}
use Rattle.cub_proto.specs.declared.protocol.Protocol.{Protocol}
use Rattle.cub_types.specs.Formulas.{form}
use Rattle.cub_types.specs.Guards as g
use Rattle.print_premises.proofs.Literals.{is_ready}
use Rattle.print_premises.proofs.FormulasMeet.{frame, form_ready}

module _ (p : Protocol) where
  abbrev pub AreReady : Option (List Formula) → Type 0
  AreReady parts = IfSome parts (λ formulas. list_all (is_ready p) formulas ≡ true)

  pub record SplitReady (s : g.Split) : Type 0 where
    pub own : AreReady s.own
    pub others : AreReady s.others

  appended_ready : (v u : Option (List Formula)) → AreReady v → AreReady u → AreReady (appended v u)
  appended_ready None u h k = tt
  appended_ready (Some a) None h k = tt
  appended_ready (Some a) (Some b) h k = list_all-append (is_ready p) a b ∙ and_both (list_all (is_ready p) a) (list_all (is_ready p) b) h k

  single_ready : (v : Option Formula) → IfSome v (λ formula. is_ready p formula ≡ true) → AreReady (in_front v (Some []))
  single_ready None h = tt
  single_ready (Some a) h = and_both (is_ready p a) true h refl

  beside_ready : (a c : g.Split) → SplitReady a → SplitReady c → SplitReady (g.beside a c)
  beside_ready a c h k = record { own = appended_ready a.own c.own h.own k.own; others = appended_ready a.others c.others h.others k.others }

  universal_ready : (faults : List Fault) (s : g.Split) → SplitReady s → SplitReady (g.universal faults s)
  universal_ready faults s h = record { own = refl; others = appended_ready s.own s.others h.own h.others }

  abbrev Below : Type 0
  Below = List Local → FormNode → g.Split

  abbrev Readies : Below → Type 0
  Readies below = (scope : List Local) (node : FormNode) → SplitReady (below scope node)

  module _ (text : List ℕ) (place : ℕ) where
    own_ready : (scope : List Local) (node : FormNode) → SplitReady (g.own_conjunct (form false (frame p text) scope node))
    own_ready scope node = record { own = single_ready (form false (frame p text) scope node).value (form_ready p text false scope node); others = refl }

    all_split : (below : Below) → Readies below → (scope : List Local) (nodes : List FormNode) → SplitReady (g.all_beside (map (below scope) nodes))
    all_split below ready scope [] = record { own = refl; others = refl }
    all_split below ready scope (x ∷ xs) = beside_ready (below scope x) (g.all_beside (map (below scope) xs)) (ready scope x) (all_split below ready scope xs)

    whole_split : (below : Below) → Readies below → (scope : List Local) (node : FormNode) (layer : FormNode-F FormNode) → SplitReady (g.whole_of (frame p text) place below scope node layer)
    whole_split below ready scope node (FormNode-F.And nodes) = all_split below ready scope nodes
    whole_split below ready scope node (FormNode-F.Or nodes) = ready scope node
    whole_split below ready scope node (FormNode-F.Not part) = ready scope node
    whole_split below ready scope node (FormNode-F.Group part) = ready scope node
    whole_split below ready scope node (FormNode-F.Forall word name body) = ready scope node
    whole_split below ready scope node (FormNode-F.Side sum) = ready scope node
    whole_split below ready scope node (FormNode-F.Rel a sign c) = ready scope node

    conjunct_split : (below : Below) → Readies below → (scope : List Local) (node : FormNode) (layer : FormNode-F FormNode) → SplitReady (g.conjunct_of (frame p text) place below scope node layer)
    conjunct_split below ready scope node (FormNode-F.Forall word name body) =
        universal_ready _ _ (whole_split below ready (scope ++ g.local name place ∷ []) body (out-FormNode body))
    conjunct_split below ready scope node (FormNode-F.And nodes) = own_ready scope node
    conjunct_split below ready scope node (FormNode-F.Or nodes) = own_ready scope node
    conjunct_split below ready scope node (FormNode-F.Not part) = own_ready scope node
    conjunct_split below ready scope node (FormNode-F.Group part) = own_ready scope node
    conjunct_split below ready scope node (FormNode-F.Side sum) = own_ready scope node
    conjunct_split below ready scope node (FormNode-F.Rel a sign c) = own_ready scope node

    conjunct_ready : (levels : ℕ) → Readies (g.conjunct (frame p text) place levels)
    conjunct_ready zero = own_ready
    conjunct_ready (suc levels) = λ scope node. conjunct_split (g.conjunct (frame p text) place levels) (conjunct_ready levels) scope node (out-FormNode node)

    pub whole_ready : (levels : ℕ) (scope : List Local) (node : FormNode) → SplitReady (g.whole (frame p text) place levels scope node)
    whole_ready levels scope node = whole_split (g.conjunct (frame p text) place levels) (conjunct_ready levels) scope node (out-FormNode node)
