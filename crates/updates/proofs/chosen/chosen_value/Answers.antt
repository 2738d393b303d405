use Rattle.std.proofs.Common.{◌≡◌, length, Some, sym, ap, ◌∙◌}
use Rattle.cub_proto.specs.StateOf.{signature_of}
use Rattle.cub_proto.specs.Effect.{update_of}
use Rattle.cub_cube.specs.Step.{target_of}
use Rattle.updates.specs.Ways.{way_value}
use Rattle.updates.specs.Chosen.{reading_places}
use Rattle.updates.proofs.Fitting.{term_update, way_value_fits, fits_value_within}
use Rattle.updates.proofs.chosen.chosen_value.Goals as goal

pub value_by-requires-clause-within : goal.value_by-requires-clause-within
value_by-requires-clause-within c =
    let sig = signature_of c.args.protocol.now in
    let term = c.args.choice.now.term in
    let update = c.in-Some.update.now in
    let width = length (reading_places c.args.params.now term) in
    let is : update_of c.args.updates.now (target_of term) ≡ Some update = ap (update_of c.args.updates.now) (sym c.target_of.ensures) ∙ sym c.in-Some.ensures in
    let fits = term_update sig c.args.params.now c.args.updates.now term update c.requires.fit is in
    fits_value_within sig width fits.sort (way_value update c.args.choice.now.branch) (way_value_fits sig width term update c.args.choice.now.branch fits)
