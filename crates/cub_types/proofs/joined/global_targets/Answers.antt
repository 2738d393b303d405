use Rattle.std.proofs.Common.{◌≡◌, ◌∷◌, [], ◌++◌, ap, sym, ◌∙◌, arith, refl}
use Rattle.std.proofs.lemmas.List.FromFn.{map-range_with_len_more}
use Rattle.cub_proto.specs.declared.transition.Target.{Target}
use Rattle.cub_types.proofs.joined.global_targets.Goals as goal

pub loop-number-preserved : goal.loop-number-preserved
loop-number-preserved c =
    c.in_ok-push.ensures.items
    ∙ ap (λ xs. xs ++ Target.Global c.loop-number.number ∷ []) c.loop-number.invariant
    ∙ sym (map-range_with_len_more (λ x. Target.Global x) 0 c.loop-number.number c.loop-number.number (omega arith))
