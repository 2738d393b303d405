-- A formula is there, or a fault says why not.
use Rattle.std.proofs.Common.{◌≡◌, ℕ, Bool, true, false, List, [], ◌∷◌, map, sym, subst, refl}
use Rattle.std.specs.Prelude.{if◌then◌else◌, not, ◌&&◌}
use Rattle.cub_lexer.specs.declared.token.TokenKind.{TokenKind}
use Rattle.cub_parse.specs.declared.tree.Leaf.{Leaf}
use Rattle.cub_parse.specs.declared.tree.SumNode.{SumNode}
use Rattle.cub_parse.specs.declared.tree.FormNode.{FormNode}
use Rattle.cub_parse.specs.declared.tree.FormNode.TheVariants as n
use Rattle.cub_proto.specs.declared.literal.Sort.{Sort}
use Rattle.cub_proto.specs.Signature.{same_sort}
use Rattle.cub_dnf.specs.declared.formula.Formula.{Formula}
use Rattle.cub_dnf.specs.declared.formula.Formula.TheVariants as f
use Rattle.cub_names.specs.declared.fault.TypeKind.TheVariants as t
use Rattle.cub_names.specs.declared.scope.Local.{Local}
use Rattle.cub_names.specs.declared.sides.Side.{Side}
use Rattle.cub_names.specs.Checked.{Checked, IsTold, sound, refuse, both, each}
use Rattle.cub_names.specs.Meaning.{Frame}
use Rattle.cub_names.specs.Sides.{side, sort_of_side}
use Rattle.cub_types.proofs.Told.{AllTold, told_then, told_both, told_each, told_made, told_if}
use Rattle.cub_types.proofs.SidesTold.{side_told}
use Rattle.cub_types.specs.Formulas.{form, form_step, compared, alone, equal, equated, ordered, is_order, mixes, first_token}
use Rattle.cub_types.proofs.FormFolds.{Each, induct, at_or, at_and, at_not, at_group, at_forall, at_side, at_rel}

alone_told : (token : ℕ) (a : Side) → IsTold (alone token a)
alone_told token a = told_if (same_sort (sort_of_side a) (Sort.Fin 0)) (sound (equal a (Side.Con 0 1))) (refuse token t.T11) refl refl

compared_told : (init : Bool) (token : ℕ) (sign : TokenKind) (a b : Side) → IsTold (compared init token sign a b)
compared_told init token sign a b =
    told_if (not (same_sort (sort_of_side a) (sort_of_side b))) (refuse token t.T03) _ refl
    (told_if (is_order sign) _ _
    (told_if (same_sort (sort_of_side a) Sort.Int) (sound (ordered sign a b)) (refuse token t.T07) refl refl)
    (told_if (init && mixes a b) (refuse token t.T08) (sound (equated sign a b)) refl refl))

module _ (init : Bool) (frame : Frame) (scope : List Local) where
  abbrev P : FormNode → Type 0
  P node = IsTold (form init frame scope node)

  all_told : (nodes : List FormNode) → Each P nodes → AllTold (map (form init frame scope) nodes)
  all_told [] h = tt
  all_told (x ∷ xs) h = (h.0, all_told xs h.1)

  pub form_told : (node : FormNode) → IsTold (form init frame scope node)
  form_told node = induct P
      (λ nodes h. subst IsTold (sym (at_or (form_step init frame scope) nodes)) (told_made f.Any (each (map (form init frame scope) nodes)) (told_each (map (form init frame scope) nodes) (all_told nodes h))))
      (λ nodes h. subst IsTold (sym (at_and (form_step init frame scope) nodes)) (told_made f.All (each (map (form init frame scope) nodes)) (told_each (map (form init frame scope) nodes) (all_told nodes h))))
      (λ node h. subst IsTold (sym (at_not (form_step init frame scope) node)) (told_made f.Not (form init frame scope node) h))
      (λ node h. subst IsTold (sym (at_group (form_step init frame scope) node)) h)
      (λ word name body h. subst IsTold (sym (at_forall (form_step init frame scope) word name body)) refl)
      (λ sum. subst IsTold (sym (at_side (form_step init frame scope) sum)) (told_then (side frame scope sum) (λ a. alone (first_token sum) a) (side_told frame scope sum) (λ a. alone_told (first_token sum) a)))
      (λ a sign b. subst IsTold (sym (at_rel (form_step init frame scope) a sign b))
      (told_then (both (side frame scope a) (side frame scope b)) (λ (p : Side × Side). compared init sign.number sign.token.kind p.0 p.1)
      (told_both (side frame scope a) (side frame scope b) (side_told frame scope a) (side_told frame scope b))
      (λ (p : Side × Side). compared_told init sign.number sign.token.kind p.0 p.1)))
      node
