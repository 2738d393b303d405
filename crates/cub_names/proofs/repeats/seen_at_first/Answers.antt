use Rattle.std.proofs.Common.{map, take, ap, ◌∙◌, bytes_eq, arith}
use Rattle.std.specs.List.{list_any}
use Rattle.cub_names.proofs.RepeatSteps.{seen_next, map_more}
use Rattle.cub_names.proofs.repeats.seen_at_first.Goals as goal

pub loop-name-preserved : goal.loop-name-preserved
loop-name-preserved c = λ q.
    c.in_ok-insert_name.ensures.after q
    ∙ seen_next (map (λ name. name.now) (take c.loop-name.name-index c.args.taken.now)) _ q _ (c.loop-name.invariant q)
    ∙ ap (list_any (bytes_eq q)) (map_more (λ name. name.now) c.args.taken.now c.loop-name.name-index _ (omega arith))
