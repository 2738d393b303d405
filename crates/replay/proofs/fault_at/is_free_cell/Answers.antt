use Rattle.std.proofs.Common.{sym, ◌∙◌, subst}
use Rattle.cub_proto.specs.declared.transition.Target.TheVariants as Target
use Rattle.replay.specs.Reads.{ReadsConditions}
use Rattle.replay.proofs.Reading.{reads_found}
use Rattle.cub_proto.proofs.StateValues.{alive_within}
use Rattle.replay.proofs.fault_at.is_free_cell.Goals as goal

pub counting-requires : goal.counting-requires
counting-requires c =
    let s = c.args.state.now in
    let within = alive_within s c.args.process (sym c.if-not-is_alive.ensures) in
    let reads = reads_found s c.args.params.now c.args.updates.now c.requires.reads (Target.Array c.args.array) c.in-Some.update.now (sym c.in-Some.ensures) c.args.process within in
    subst (λ places. ReadsConditions s places c.in-Some.update.now) (sym (c.as_slice.ensures.value ∙ c.widened.ensures)) reads.conditions
