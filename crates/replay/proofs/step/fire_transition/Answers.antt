use Rattle.std.proofs.Common.{◌≤◌, ◌^◌, ◌+◌, All, IsTrue, sym, subst, arith}
use Rattle.cub_proto.specs.StateOf.{signature_of}
use Rattle.cub_proto.specs.Fits.{targets_rise, greatest_constant}
use Rattle.replay.specs.Fault.{is_allowed}
use Rattle.replay.specs.Reads.{ReadsUpdates}
use Rattle.replay.proofs.Parts.{transition_parts}
use Rattle.replay.proofs.Reading.{reads_firing}
use Rattle.replay.proofs.LegalFault.{no_fault}
use Rattle.replay.proofs.step.fire_transition.Goals as goal

pub firing_fault-requires-clause-few : goal.firing_fault-requires-clause-few
firing_fault-requires-clause-few c =
    let parts = transition_parts (signature_of c.args.protocol.now) c.args.transition.now c.requires.firing.fits in
    omega (arith, parts.few, c.requires.firing.one_each)

pub firing_fault-requires-clause-reads : goal.firing_fault-requires-clause-reads
firing_fault-requires-clause-reads c =
    let room : 2 ^ 61 + greatest_constant ≤ 2 ^ 62 = omega arith in
    reads_firing c.args.protocol.now c.args.state.now c.args.transition.now c.args.params.now (2 ^ 61) c.requires.firing c.requires.within room

pub fire-requires-clause-few : goal.fire-requires-clause-few
fire-requires-clause-few c =
    let parts = transition_parts (signature_of c.args.protocol.now) c.args.transition.now c.requires.firing.fits in
    omega (arith, parts.few, c.requires.firing.one_each)

pub fire-requires-clause-reads : goal.fire-requires-clause-reads
fire-requires-clause-reads c =
    let room : 2 ^ 61 + greatest_constant ≤ 2 ^ 62 = omega arith in
    subst (ReadsUpdates c.args.state.now c.args.params.now) (sym c.as_slice.ensures)
    (reads_firing c.args.protocol.now c.args.state.now c.args.transition.now c.args.params.now (2 ^ 61) c.requires.firing c.requires.within room)

pub fire-requires-clause-targets : goal.fire-requires-clause-targets
fire-requires-clause-targets c =
    subst (λ us. IsTrue (targets_rise us)) (sym c.as_slice.ensures)
    (transition_parts (signature_of c.args.protocol.now) c.args.transition.now c.requires.firing.fits).rising

pub fire-requires-clause-allowed : goal.fire-requires-clause-allowed
fire-requires-clause-allowed c =
    let s = c.args.state.now in
    let t = c.args.transition.now in
    let params = c.args.params.now in
    let picks = c.args.picks.now in
    subst (λ us. All (λ d. IsTrue (is_allowed s us params d)) picks) (sym c.as_slice.ensures)
    (no_fault c.args.protocol.now s t params picks (sym c.in-None.ensures)).allowed
