use Rattle.std.proofs.Common.{ap, ◌∙◌}
use Rattle.cub_proto.specs.StateOf.{signature_of}
use Rattle.updates.specs.Through.{through_answer, updates_of}
use Rattle.updates.proofs.step.through.Goals as goal

pub returns : goal.returns
returns c =
    let sig = signature_of c.args.protocol.now in
    let updates = updates_of c.args.protocol.now c.args.transition in
    c.in_ok-answer.ensures
    ∙ ap (λ us. through_answer sig us c.as_slice-params.result.now c.as_slice-choices.result.now c.args.lit.now) c.updates_at-updates.ensures.value
    ∙ ap (λ ps. through_answer sig updates ps c.as_slice-choices.result.now c.args.lit.now) c.as_slice-params.ensures.value
    ∙ ap (λ ds. through_answer sig updates c.args.places.now ds c.args.lit.now) c.as_slice-choices.ensures
