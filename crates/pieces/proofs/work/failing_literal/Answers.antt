use Rattle.std.proofs.Common.{length, get_or, IsTrue, sym, subst}
use Rattle.cub_proto.specs.declared.literal.Lit.{Lit}
use Rattle.cub_proto.specs.declared.literal.Lit.TheVariants.{FinIn}
use Rattle.cub_proto.specs.declared.literal.Term.TheVariants as Term
use Rattle.cub_proto.specs.StateOf.{signature_of}
use Rattle.cub_proto.specs.Fits.{literal_fits}
use Rattle.cub_proto.specs.Negation.{negated}
use Rattle.cub_cube.specs.Rename.{is_within}
use Rattle.cub_cube.proofs.Negations.{negated_fits}
use Rattle.cub_cube.proofs.RenamedFits.{fits_within}
use Rattle.updates.proofs.WayLemmas.{all_at}
use Rattle.pieces.proofs.work.failing_literal.Goals as goal

pub negated-opposite-requires : goal.negated-opposite-requires
negated-opposite-requires c = all_at (literal_fits (signature_of c.args.protocol.now) (length c.args.places.now)) c.args.cond.now c.args.f (FinIn (Term.Global 0) 0) c.requires.fits c.requires.inside

pub renamed-requires : goal.renamed-requires
renamed-requires c =
    let sig = signature_of c.args.protocol.now in
    let width = length c.args.places.now in
    let l : Lit = get_or c.args.cond.now c.args.f (FinIn (Term.Global 0) 0) in
    let fits = all_at (literal_fits sig width) c.args.cond.now c.args.f (FinIn (Term.Global 0) 0) c.requires.fits c.requires.inside in
    subst (λ m. IsTrue (is_within width m)) (sym c.negated-opposite.ensures) (fits_within sig width (negated sig l) (negated_fits sig width l fits))
