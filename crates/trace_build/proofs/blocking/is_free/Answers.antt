use Rattle.std.proofs.Common.{◌+◌, arith}
use Rattle.cub_proto.specs.StateOf.{signature_of}
use Rattle.replay.proofs.Parts.{transition_parts}
use Rattle.cub_proto.proofs.Readable.{Fills, has_formula, fills_more}
use Rattle.trace_build.proofs.blocking.is_free.Goals as goal

pub widened-requires : goal.widened-requires
widened-requires c =
    let parts = transition_parts (signature_of c.args.protocol.now) c.args.transition.now c.requires.firing.fits in
    let same = c.requires.firing.one_each in
    let few = parts.few in
    omega arith

pub any_holds-requires : goal.any_holds-requires
any_holds-requires c =
    let firing = c.requires.firing in
    let t = c.args.transition.now in
    let parts = transition_parts (signature_of c.args.protocol.now) t firing.fits in
    let fills : Fills c.args.state.now c.args.params.now t.params = record { one_each = firing.one_each; processes = firing.processes } in
    let more = fills_more c.args.state.now c.args.params.now t.params c.args.process fills c.requires.process in
    let has = has_formula c.args.protocol.now c.args.state.now firing.state_of (t.params + 1) _ more t.others parts.others in
    rw (c.as_slice.ensures, c.as_slice-2.ensures.value, c.widened.ensures) has
