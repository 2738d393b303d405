use Rattle.std.proofs.Common.{◌≡◌, ◌<◌, ◌+◌, suc, ◌++◌, ◌∷◌, [], List, ℕ, length, get_or, sym, ap, ◌∙◌, arith}
use Rattle.std.specs.List.{range_with_len}
use Rattle.std.proofs.lemmas.List.{take_more}
use Rattle.cube_form.proofs.Renaming.{range_more}
use Rattle.cube_form.proofs.naming.stay.Goals as goal

pub loop-at-preserved : goal.loop-at-preserved
loop-at-preserved c =
    let inside : c.loop-at.at < length c.args.places.now = omega arith in
    let one : suc c.loop-at.at ≡ c.loop-at.at + 1 = omega arith in
    let number : c.loop-at.at ≡ 0 + c.loop-at.at = omega arith in
    take_more c.args.places.now c.loop-at.at 0 inside
    ∙ ap (λ (xs : List ℕ). xs ++ get_or c.args.places.now c.loop-at.at 0 ∷ []) c.loop-at.invariant
    ∙ ap (λ (n : ℕ). range_with_len 0 c.loop-at.at ++ n ∷ []) (c.if-places-at.false ∙ number)
    ∙ sym (range_more 0 c.loop-at.at) ∙ ap (range_with_len 0) one
