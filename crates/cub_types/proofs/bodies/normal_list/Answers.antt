use Rattle.cub_types.proofs.AllTyped.{typed_fits}
use Rattle.cub_types.proofs.bodies.normal_list.Goals as goal

pub normal-requires : goal.normal-requires
normal-requires c = typed_fits c.base.result.now c.args.names.now.sig c.args.width c.args.formula.now c.base.ensures c.requires
