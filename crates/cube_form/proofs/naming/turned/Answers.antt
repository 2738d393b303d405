use Rattle.std.proofs.Common.{◌≡◌, ℕ, ◌+◌, List, ◌++◌, ◌∷◌, [], length, map, sym, ap, ◌∙◌, arith}
use Rattle.std.specs.List.{range_with_len}
use Rattle.std.proofs.lemmas.List.FromFn.{map-range_with_len_more, length-map-range_with_len}
use Rattle.cube_form.specs.Name.{number_in}
use Rattle.cube_form.proofs.naming.turned.Goals as goal

pub push-requires : goal.push-requires
push-requires c =
    let size : length c.loop-place.back ≡ c.loop-place.place = ap length c.loop-place.invariant ∙ length-map-range_with_len (number_in c.args.places.now) 0 c.loop-place.place in
    let few = c.len-place-end.ensures.few in
    omega (arith, size, few)

pub loop-place-preserved : goal.loop-place-preserved
loop-place-preserved c =
    let number : 0 + c.loop-place.place ≡ c.loop-place.place = omega arith in
    c.push.ensures
    ∙ ap (λ (xs : List ℕ). xs ++ c.number_in.result ∷ []) c.loop-place.invariant
    ∙ ap (λ (n : ℕ). map (number_in c.args.places.now) (range_with_len 0 c.loop-place.place) ++ n ∷ []) (c.number_in.ensures ∙ ap (λ (xs : List ℕ). number_in xs c.loop-place.place) c.as_slice.ensures.value)
    ∙ sym (map-range_with_len_more (number_in c.args.places.now) 0 c.loop-place.place c.loop-place.place number)
