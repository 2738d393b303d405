use Rattle.std.proofs.Common.{sym}
use Rattle.cub_proto.specs.declared.transition.Target.TheVariants as Target
use Rattle.replay.proofs.Reading.{reads_found}
use Rattle.replay.proofs.fault_at.is_free_global.Goals as goal

pub counting-requires : goal.counting-requires
counting-requires c =
    (reads_found c.args.state.now c.args.params.now c.args.updates.now c.requires (Target.Global c.args.global) c.in-Some.update.now (sym c.in-Some.ensures)).conditions
