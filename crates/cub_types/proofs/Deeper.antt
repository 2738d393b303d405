-- A conjunct where there are levels left.
use Rattle.std.proofs.Common.{◌≡◌, ℕ, zero, suc, ◌-◌, ◌<◌, List, [], ◌∷◌, ◌++◌, refl, sym, ap, ◌∙◌, arith}
use Rattle.cub_parse.specs.declared.tree.Leaf.{Leaf}
use Rattle.cub_parse.specs.declared.tree.FormNode.TheVariants as n
use Rattle.cub_parse.specs.declared.tree.FormNode.{FormNode}
use Rattle.cub_names.specs.declared.scope.Local.{Local}
use Rattle.cub_names.specs.Meaning.{Frame}
use Rattle.cub_types.specs.Guards.{conjunct, conjunct_of, split_below, whole, universal, variable_faults, local}
use Rattle.cub_types.proofs.Layers.{out_forall}

pub conjunct_step : (frame : Frame) (place levels : ℕ) (scope : List Local) (node : FormNode) → 0 < levels
    → conjunct frame place levels scope node ≡ split_below frame place (levels - 1) scope node
conjunct_step frame place zero scope node some = absurd (omega arith)
conjunct_step frame place (suc k) scope node some = ap (λ n. split_below frame place n scope node) (let e : k ≡ suc k - 1 = omega arith in e)

-- a conjunct that is a `forall_other`
pub split_forall : (frame : Frame) (place below : ℕ) (scope : List Local) (node : FormNode) (word name : Leaf) (body : FormNode) → node ≡ n.Forall word name body
    → split_below frame place below scope node ≡ universal (variable_faults frame place scope name) (whole frame place below (scope ++ local name place ∷ []) body)
split_forall frame place below scope node word name body is =
    ap (λ x. split_below frame place below scope x) is
    ∙ ap (λ layer. conjunct_of frame place (conjunct frame place below) scope (n.Forall word name body) layer) (out_forall word name body)
