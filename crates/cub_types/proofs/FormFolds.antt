-- What a fold gives of each form of node, and induction over nodes.
use Rattle.std.proofs.Common.{◌≡◌, List, [], ◌∷◌, map, sym, ap, ◌∙◌, subst}
use Rattle.cub_parse.specs.declared.tree.Leaf.{Leaf}
use Rattle.cub_parse.specs.declared.tree.SumNode.{SumNode}
use Rattle.cub_parse.specs.declared.tree.FormNode.{FormNode}
use Rattle.cub_parse.specs.declared.tree.FormNode.TheOpen.{FormNode-F}
use Rattle.cub_parse.specs.declared.tree.FormNode.TheViews.{roll-FormNode}
use Rattle.cub_parse.specs.declared.tree.FormNode.TheVariants as n
use Rattle.cub_parse.specs.declared.tree.FormNode.TheVariants.{rolls-Or, rolls-And, rolls-Not, rolls-Group, rolls-Forall, rolls-Side, rolls-Rel}
use Rattle.cub_parse.specs.declared.tree.FormNode.TheFolds.{fold-FormNode, fold-roll-FormNode, ind-FormNode, map-FormNode}

module _ {A : Type 0} (step : FormNode-F A → A) where
  abbrev of : FormNode → A
  of = fold-FormNode A step

  pub at_or : (nodes : List FormNode) → fold-FormNode A step (n.Or nodes) ≡ step (FormNode-F.Or (map (fold-FormNode A step) nodes))
  at_or nodes = ap of (sym (rolls-Or nodes)) ∙ fold-roll-FormNode A step (FormNode-F.Or nodes)

  pub at_and : (nodes : List FormNode) → fold-FormNode A step (n.And nodes) ≡ step (FormNode-F.And (map (fold-FormNode A step) nodes))
  at_and nodes = ap of (sym (rolls-And nodes)) ∙ fold-roll-FormNode A step (FormNode-F.And nodes)

  pub at_not : (node : FormNode) → fold-FormNode A step (n.Not node) ≡ step (FormNode-F.Not (fold-FormNode A step node))
  at_not node = ap of (sym (rolls-Not node)) ∙ fold-roll-FormNode A step (FormNode-F.Not node)

  pub at_group : (node : FormNode) → fold-FormNode A step (n.Group node) ≡ step (FormNode-F.Group (fold-FormNode A step node))
  at_group node = ap of (sym (rolls-Group node)) ∙ fold-roll-FormNode A step (FormNode-F.Group node)

  pub at_forall : (word name : Leaf) (body : FormNode) → fold-FormNode A step (n.Forall word name body) ≡ step (FormNode-F.Forall word name (fold-FormNode A step body))
  at_forall word name body = ap of (sym (rolls-Forall word name body)) ∙ fold-roll-FormNode A step (FormNode-F.Forall word name body)

  pub at_side : (sum : SumNode) → fold-FormNode A step (n.Side sum) ≡ step (FormNode-F.Side sum)
  at_side sum = ap of (sym (rolls-Side sum)) ∙ fold-roll-FormNode A step (FormNode-F.Side sum)

  pub at_rel : (a : SumNode) (sign : Leaf) (b : SumNode) → fold-FormNode A step (n.Rel a sign b) ≡ step (FormNode-F.Rel a sign b)
  at_rel a sign b = ap of (sym (rolls-Rel a sign b)) ∙ fold-roll-FormNode A step (FormNode-F.Rel a sign b)

-- each of them has the property
abbrev pub Each : {A : Type 0} → (A → Type 0) → List A → Type 0
Each P [] = Unit {0}
Each P (x ∷ xs) = P x × Each P xs

module _ (P : FormNode → Type 0)
    (or : (nodes : List FormNode) → Each P nodes → P (n.Or nodes)) (and : (nodes : List FormNode) → Each P nodes → P (n.And nodes))
    (negated : (node : FormNode) → P node → P (n.Not node)) (group : (node : FormNode) → P node → P (n.Group node))
    (forall : (word name : Leaf) (body : FormNode) → P body → P (n.Forall word name body))
    (side : (sum : SumNode) → P (n.Side sum)) (rel : (a : SumNode) (sign : Leaf) (b : SumNode) → P (n.Rel a sign b)) where
  abbrev Known : Type 0
  Known = (node : FormNode) × P node

  all_known : (ys : List Known) → Each P (map (λ (e : Known). e.0) ys)
  all_known [] = tt
  all_known (y ∷ ys) = (y.1, all_known ys)

  step_known : (y : FormNode-F Known) → P (roll-FormNode (map-FormNode Known FormNode (λ e. e.0) y))
  step_known (FormNode-F.Or ys) = subst P (sym (rolls-Or (map (λ (e : Known). e.0) ys))) (or (map (λ (e : Known). e.0) ys) (all_known ys))
  step_known (FormNode-F.And ys) = subst P (sym (rolls-And (map (λ (e : Known). e.0) ys))) (and (map (λ (e : Known). e.0) ys) (all_known ys))
  step_known (FormNode-F.Not y) = subst P (sym (rolls-Not y.0)) (negated y.0 y.1)
  step_known (FormNode-F.Group y) = subst P (sym (rolls-Group y.0)) (group y.0 y.1)
  step_known (FormNode-F.Forall word name y) = subst P (sym (rolls-Forall word name y.0)) (forall word name y.0 y.1)
  step_known (FormNode-F.Side sum) = subst P (sym (rolls-Side sum)) (side sum)
  step_known (FormNode-F.Rel a sign b) = subst P (sym (rolls-Rel a sign b)) (rel a sign b)

  pub induct : (node : FormNode) → P node
  induct node = ind-FormNode P (λ x y h. subst (λ (z : FormNode-F FormNode). P (roll-FormNode z)) h (step_known y)) node
