use Rattle.std.proofs.Common.{ℕ, length, sym, subst}
use Rattle.std.specs.Prelude.{IsTrue}
use Rattle.std.specs.List.{list_all}
use Rattle.cub_proto.specs.StateOf.{signature_of}
use Rattle.cub_proto.specs.Fits.{literal_fits}
use Rattle.cub_cube.specs.Rename.{is_within}
use Rattle.cub_cube.proofs.RenamedFits.{all_fits_within}
use Rattle.cube_form.proofs.Simplifying.{drops_all}
use Rattle.cube_form.proofs.Given.{given_is_admitted}
use Rattle.cube_form.proofs.forms.form.Goals as goal

pub normal_name-requires-clause-within : goal.normal_name-requires-clause-within
normal_name-requires-clause-within c =
    subst (λ (n : ℕ). IsTrue (list_all (is_within n) c.simplify-simple.result.lits)) (sym c.simplify-simple.ensures.exact.width)
    (all_fits_within (signature_of c.args.protocol.now) c.args.cube.width c.simplify-simple.result.lits
    (drops_all (literal_fits (signature_of c.args.protocol.now) c.args.cube.width) c.args.protocol.now c.args.cube.width (length c.args.cube.lits) c.args.cube.lits c.simplify-simple.result.lits c.simplify-simple.ensures.exact.lits c.requires.fit.fits))

pub returns-in-Ok-clause-admitted : goal.returns-in-Ok-clause-admitted
returns-in-Ok-clause-admitted c =
    given_is_admitted c.args.protocol.now c.args.cube c.simplify-simple.result c.in-Ok.named c.in-Ok.places c.requires.fit.fits c.requires.fit.normal c.simplify-simple.ensures.exact (c.in-Ok.ensures.named)
