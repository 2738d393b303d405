use Rattle.std.proofs.Common.{◌≡◌, ◌+◌, arith, sym, ◌∙◌}
use Rattle.std.proofs.lemmas.List.FromFn.{map-range_with_len_more}
use Rattle.sample_gen.specs.Sample.{level_name}
use Rattle.sample_gen.proofs.levels.level_names.Goals as goal

pub loop-level-preserved : goal.loop-level-preserved
loop-level-preserved c =
    c.in_ok-push.ensures.ok
    ∙ rw (c.loop-level.invariant, c.in_ok-numbered.ensures) (sym (map-range_with_len_more level_name 0 c.loop-level.level c.loop-level.level (omega arith)))
