-- The outer layer of each form of node.
use Rattle.std.proofs.Common.{◌≡◌, List, sym, ap, ◌∙◌}
use Rattle.cub_parse.specs.declared.tree.Leaf.{Leaf}
use Rattle.cub_parse.specs.declared.tree.SumNode.{SumNode}
use Rattle.cub_parse.specs.declared.tree.FormNode.{FormNode}
use Rattle.cub_parse.specs.declared.tree.FormNode.TheOpen.{FormNode-F}
use Rattle.cub_parse.specs.declared.tree.FormNode.TheViews.{out-FormNode, out-roll-FormNode}
use Rattle.cub_parse.specs.declared.tree.FormNode.TheVariants as n
use Rattle.cub_parse.specs.declared.tree.FormNode.TheVariants.{rolls-Or, rolls-And, rolls-Not, rolls-Group, rolls-Forall, rolls-Side, rolls-Rel}

pub out_or : (nodes : List FormNode) → out-FormNode (n.Or nodes) ≡ FormNode-F.Or nodes
out_or nodes = ap out-FormNode (sym (rolls-Or nodes)) ∙ out-roll-FormNode (FormNode-F.Or nodes)

pub out_and : (nodes : List FormNode) → out-FormNode (n.And nodes) ≡ FormNode-F.And nodes
out_and nodes = ap out-FormNode (sym (rolls-And nodes)) ∙ out-roll-FormNode (FormNode-F.And nodes)

pub out_not : (node : FormNode) → out-FormNode (n.Not node) ≡ FormNode-F.Not node
out_not node = ap out-FormNode (sym (rolls-Not node)) ∙ out-roll-FormNode (FormNode-F.Not node)

pub out_group : (node : FormNode) → out-FormNode (n.Group node) ≡ FormNode-F.Group node
out_group node = ap out-FormNode (sym (rolls-Group node)) ∙ out-roll-FormNode (FormNode-F.Group node)

pub out_forall : (word name : Leaf) (body : FormNode) → out-FormNode (n.Forall word name body) ≡ FormNode-F.Forall word name body
out_forall word name body = ap out-FormNode (sym (rolls-Forall word name body)) ∙ out-roll-FormNode (FormNode-F.Forall word name body)

pub out_side : (sum : SumNode) → out-FormNode (n.Side sum) ≡ FormNode-F.Side sum
out_side sum = ap out-FormNode (sym (rolls-Side sum)) ∙ out-roll-FormNode (FormNode-F.Side sum)

pub out_rel : (a : SumNode) (sign : Leaf) (b : SumNode) → out-FormNode (n.Rel a sign b) ≡ FormNode-F.Rel a sign b
out_rel a sign b = ap out-FormNode (sym (rolls-Rel a sign b)) ∙ out-roll-FormNode (FormNode-F.Rel a sign b)

pub ruleset layers = (out_or, out_and, out_not, out_group, out_forall, out_side, out_rel)
