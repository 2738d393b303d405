use Rattle.std.proofs.Common.{◌≡◌, length, Some, sym, ap, ◌∙◌}
use Rattle.cub_proto.specs.StateOf.{signature_of}
use Rattle.cub_proto.specs.Effect.{update_of}
use Rattle.cub_cube.specs.Step.{target_of}
use Rattle.updates.specs.Chosen.{reading_places}
use Rattle.updates.proofs.Fitting.{term_update, conditions_from}
use Rattle.updates.proofs.chosen.push_choice.Goals as goal

pub push_lits_by-requires-clause-fits : goal.push_lits_by-requires-clause-fits
push_lits_by-requires-clause-fits c =
    let p = c.args.protocol.now in
    let term = c.args.choice.now.term in
    let update = c.in-Some.update.now in
    let width = length (reading_places c.args.params.now term) in
    let is : update_of c.args.updates.now (target_of term) ≡ Some update = ap (update_of c.args.updates.now) (sym c.target_of.ensures) ∙ sym c.in-Some.ensures in
    let fits = term_update (signature_of p) c.args.params.now c.args.updates.now term update c.requires.fit is in
    conditions_from p width fits.sort update.branches fits.branches
