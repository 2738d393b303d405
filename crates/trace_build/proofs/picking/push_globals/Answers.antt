use Rattle.cub_proto.specs.declared.state.Slot.{Slot}
use Rattle.trace_build.proofs.PickLemmas.{grown, picks_next}
use Rattle.trace_build.proofs.picking.push_globals.Goals as goal

pub loop-global-preserved : goal.loop-global-preserved
loop-global-preserved c =
    grown c.args.picks.now c.loop-global.picks c.push_pick.new.picks _ _ _ c.in_ok-push_pick.ensures c.loop-global.invariant
    (picks_next c.args.choices.now c.args.processes.now (λ g. Slot.Global g) c.loop-global.global)
