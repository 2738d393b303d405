use Rattle.std.proofs.Common.{◌∙◌, ap}
use Rattle.cub_cube.specs.Replace.{finite_side}
use Rattle.updates.specs.Chosen.{value_in}
use Rattle.updates.proofs.Replacing.{both_small}
use Rattle.updates.proofs.values.equal_terms.Goals as goal

pub sides_equal-requires-clause-first : goal.sides_equal-requires-clause-first
sides_equal-requires-clause-first c =
    (both_small c.args.protocol.now c.args.width (value_in c.args.terms.now c.args.values.now) c.args.a c.args.b c.finite_side-first.result c.finite_side-second.result c.requires.fits c.requires.can
    (c.finite_side-first.ensures ∙ ap finite_side c.value_in.ensures) (c.finite_side-second.ensures ∙ ap finite_side c.value_in-2.ensures)).first

pub sides_equal-requires-clause-second : goal.sides_equal-requires-clause-second
sides_equal-requires-clause-second c =
    (both_small c.args.protocol.now c.args.width (value_in c.args.terms.now c.args.values.now) c.args.a c.args.b c.finite_side-first.result c.finite_side-second.result c.requires.fits c.requires.can
    (c.finite_side-first.ensures ∙ ap finite_side c.value_in.ensures) (c.finite_side-second.ensures ∙ ap finite_side c.value_in-2.ensures)).second
