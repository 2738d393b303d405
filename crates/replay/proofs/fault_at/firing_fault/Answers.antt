use Rattle.std.proofs.Common.{sym, subst, All}
use Rattle.cub_proto.specs.StateOf.{signature_of}
use Rattle.cub_proto.specs.Truth.{HasLiterals}
use Rattle.replay.proofs.Parts.{transition_parts}
use Rattle.cub_proto.proofs.Readable.{Fills, has_formula}
use Rattle.replay.proofs.fault_at.firing_fault.Goals as goal

pub any_holds-requires : goal.any_holds-requires
any_holds-requires c =
    let firing = c.requires.firing in
    let t = c.args.transition.now in
    let s = c.args.state.now in
    let params = c.args.params.now in
    let parts = transition_parts (signature_of c.args.protocol.now) t firing.fits in
    let fills : Fills s params t.params = record { one_each = firing.one_each; processes = firing.processes } in
    subst (λ conjs. All (λ lits. HasLiterals s params lits) conjs) (sym c.as_slice.ensures)
    (has_formula c.args.protocol.now s firing.state_of t.params params fills t.guard parts.guard)
