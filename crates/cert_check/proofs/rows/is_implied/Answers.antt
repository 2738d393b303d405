use Rattle.std.proofs.Common.{length, sym, subst}
use Rattle.std.specs.Prelude.{IsTrue}
use Rattle.cub_proto.specs.declared.literal.Lit.{Lit}
use Rattle.cub_proto.specs.StateOf.{signature_of}
use Rattle.cub_proto.specs.Fits.{literal_fits}
use Rattle.cub_cube.proofs.RenamedFits.{renamed_fits, fits_within}
use Rattle.cert_check.proofs.rows.is_implied.Goals as goal

pub renamed-placed-requires : goal.renamed-placed-requires
renamed-placed-requires c = fits_within (signature_of c.args.protocol.now) (length c.args.places.now) c.args.lit.now c.requires.fits

pub follows-requires-clause-fits : goal.follows-requires-clause-fits
follows-requires-clause-fits c =
    subst (λ (l : Lit). IsTrue (literal_fits (signature_of c.args.protocol.now) c.args.width l)) (sym c.renamed-placed.ensures)
    (renamed_fits (signature_of c.args.protocol.now) c.args.width c.args.places.now c.requires.within c.args.lit.now c.requires.fits)
