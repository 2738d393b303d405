use Rattle.std.proofs.Common.{◌≡◌, ◌++◌, ◌∷◌, [], ◌-◌, ◌∙◌, ap, arith}
use Rattle.std.specs.Prelude.{flat_map}
use Rattle.std.specs.List.{range_with_len}
use Rattle.cub_print.specs.Mark.{spelled, blank, name}
use Rattle.cub_print.specs.Terms.{place_name}
use Rattle.cub_print.proofs.Spelling.{spelled_at}
use Rattle.cub_print.proofs.updates.put_further_parameters.Goals as goal

pub loop-place-preserved : goal.loop-place-preserved
loop-place-preserved c =
    spelled_at c.args.out.now (λ place. blank ∷ name (place_name c.args.params place) ∷ []) c.loop-place.place c.loop-place.invariant
    c.in_ok-put_next_parameter.ensures (omega arith)

pub returns : goal.returns
returns c =
    let all : c.loop-place.place - 1 ≡ c.args.params - 1 = omega arith in
    c.loop-place.invariant
    ∙ ap (λ n. c.args.out.now ++ spelled (flat_map (λ place. blank ∷ name (place_name c.args.params place) ∷ []) (range_with_len 1 n))) all
