use Rattle.std.proofs.Common.{sym, ◌∙◌}
use Rattle.cub_proto.specs.Signature.{signature}
use Rattle.cub_proto.specs.Fits.{transition_fits}
use Rattle.cub_base.proofs.Elements.{all_from, from_all}
use Rattle.cub_proto.proofs.protocol.transitions_fit.Goals as goal

pub returns : goal.returns
returns c =
    let fits = transition_fits (signature c.args.sorts.now c.args.globals.now c.args.arrays.now) in
    (λ yes. all_from fits c.args.transitions.now (sym c.all_transitions_fit.ensures ∙ yes), λ each. c.all_transitions_fit.ensures ∙ from_all fits c.args.transitions.now each)
