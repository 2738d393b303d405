use Rattle.std.proofs.Common.{◌<◌, ◌+◌, length, refl, subst}
use Rattle.std.specs.Prelude.{if◌then◌else◌}
use Rattle.cub_proto.specs.StateOf.{signature_of}
use Rattle.pieces.specs.Options.{options}
use Rattle.pieces.specs.Jobs.{as_step, IsReady}
use Rattle.pieces.proofs.Readiness.{alternative_within}
use Rattle.pieces.proofs.options.take.Goals as goal

pub take_other-requires-clause-within : goal.take_other-requires-clause-within
take_other-requires-clause-within c asked =
    let ready = subst (λ s. IsReady c.args.protocol.now c.args.transition.now (as_step s) c.args.work.now) c.in-Other.is c.requires.ready in
    let below = subst (λ s. c.args.k < options (signature_of c.args.protocol.now) c.args.transition.now c.args.width (as_step s) c.args.work.now) c.in-Other.is c.requires.inside in
    let inside = subst (λ b. c.args.k < (if b then length c.args.transition.now.others else 1)) asked below in
    alternative_within (length c.args.work.now.params + 1) c.args.work.now.params c.in-Other.q c.args.transition.now.others c.args.k refl ready.2 inside

pub take_late-requires-clause-within : goal.take_late-requires-clause-within
take_late-requires-clause-within c asked =
    let ready = subst (λ s. IsReady c.args.protocol.now c.args.transition.now (as_step s) c.args.work.now) c.in-Late.is c.requires.ready in
    let below = subst (λ s. c.args.k < options (signature_of c.args.protocol.now) c.args.transition.now c.args.width (as_step s) c.args.work.now) c.in-Late.is c.requires.inside in
    let inside = subst (λ b. c.args.k < (if b then length c.args.transition.now.others else 1)) asked below in
    alternative_within (length c.args.work.now.params + 1) c.args.work.now.params (c.args.work.now.inner + c.in-Late.j) c.args.transition.now.others c.args.k refl ready.2 inside
