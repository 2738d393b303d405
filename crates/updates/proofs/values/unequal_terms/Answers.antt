use Rattle.std.proofs.Common.{IsTrue, sym, subst, arith}
use Rattle.cub_proto.specs.declared.literal.Lit.TheVariants.{FinEq}
use Rattle.cub_proto.specs.StateOf.{signature_of}
use Rattle.cub_proto.specs.Fits.{literal_fits}
use Rattle.cub_cube.proofs.Replaced.{replaced_fits_wide}
use Rattle.updates.specs.Chosen.{value_in}
use Rattle.updates.proofs.values.unequal_terms.Goals as goal

pub negated-requires : goal.negated-requires
negated-requires c =
    subst (λ l. IsTrue (literal_fits (signature_of c.args.protocol.now) c.args.width l)) (sym c.equal_terms-equal.ensures)
    (replaced_fits_wide c.args.protocol.now c.args.width c.args.width (value_in c.args.terms.now c.args.values.now) (FinEq c.args.a c.args.b) (omega arith) c.requires.fits c.requires.can)
