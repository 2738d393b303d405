use Rattle.std.proofs.Common.{length, get_or, IsTrue, sym, ap, subst, ◌∙◌}
use Rattle.cub_proto.specs.declared.literal.Lit.{Lit}
use Rattle.cub_proto.specs.declared.literal.Lit.TheVariants.{FinIn}
use Rattle.cub_proto.specs.declared.literal.Term.TheVariants as Term
use Rattle.cub_proto.specs.StateOf.{signature_of}
use Rattle.cub_proto.specs.Fits.{literal_fits}
use Rattle.cub_proto.specs.Negation.{negated}
use Rattle.cub_cube.specs.Rename.{is_within}
use Rattle.cub_cube.proofs.Negations.{negated_fits}
use Rattle.cub_cube.proofs.RenamedFits.{fits_within}
use Rattle.updates.proofs.WayLemmas.{all_at}
use Rattle.updates.proofs.ways.failing_literal.Goals as goal

pub negated-requires : goal.negated-requires
negated-requires c =
    subst (λ xs. IsTrue (literal_fits (signature_of c.args.protocol.now) (length c.args.places.now) (get_or xs c.args.fail (FinIn (Term.Global 0) 0)))) (sym c.as_slice.ensures)
    (all_at (literal_fits (signature_of c.args.protocol.now) (length c.args.places.now)) c.args.branch.now.cond c.args.fail (FinIn (Term.Global 0) 0) c.requires.fits c.requires.within)

pub renamed-requires : goal.renamed-requires
renamed-requires c =
    let sig = signature_of c.args.protocol.now in
    let width = length c.args.places.now in
    let l : Lit = get_or c.args.branch.now.cond c.args.fail (FinIn (Term.Global 0) 0) in
    let fits = all_at (literal_fits sig width) c.args.branch.now.cond c.args.fail (FinIn (Term.Global 0) 0) c.requires.fits c.requires.within in
    subst (λ m. IsTrue (is_within width m)) (sym (c.negated.ensures ∙ ap (λ xs. negated sig (get_or xs c.args.fail (FinIn (Term.Global 0) 0))) c.as_slice.ensures))
    (fits_within sig width (negated sig l) (negated_fits sig width l fits))
