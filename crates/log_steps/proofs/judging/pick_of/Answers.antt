use Rattle.log_form.specs.Pieces.{widest, greatest_asked}
use Rattle.log_form.proofs.FormFits.{form_fit}
use Rattle.log_steps.proofs.judging.pick_of.Goals as goal

pub meets_start-starts-requires-clause-fit : goal.meets_start-starts-requires-clause-fit
meets_start-starts-requires-clause-fit g c =
    form_fit c.args.protocol.now widest greatest_asked c.args.piece.cube c.in_ok-cube.places c.in_ok-cube.cube c.in_ok-cube.ensures.value c.requires.fit

pub links-requires-clause-fit : goal.links-requires-clause-fit
links-requires-clause-fit g c =
    form_fit c.args.protocol.now widest greatest_asked c.args.piece.cube c.in_ok-cube.places c.in_ok-cube.cube c.in_ok-cube.ensures.value c.requires.fit

pub returns-clause-fit : goal.returns-clause-fit
returns-clause-fit g c =
    form_fit c.args.protocol.now widest greatest_asked c.args.piece.cube c.in_ok-cube.places c.in_ok-cube.cube c.in_ok-cube.ensures.value c.requires.fit
