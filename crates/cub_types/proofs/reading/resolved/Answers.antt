use Rattle.cub_types.proofs.WholeFits.{parts_of_base}
use Rattle.cub_types.proofs.reading.resolved.Goals as goal

pub built-requires : goal.built-requires
built-requires c =
    parts_of_base c.into_base.result c.args.names c.into_base.ensures c.args.tree.now.init c.as_slice.result.now c.in-Ok.rest c.in-Ok.ensures.0 c.in-Ok.ensures.1
