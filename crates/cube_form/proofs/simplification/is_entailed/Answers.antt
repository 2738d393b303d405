use Rattle.std.proofs.Common.{◌↔◌, [], ◌∷◌, ◌++◌, sym, subst, IsTrue}
use Rattle.cub_base.proofs.Conjunctions.{list_all_one}
use Rattle.cub_proto.specs.declared.literal.Lit.{Lit}
use Rattle.cub_proto.specs.StateOf.{signature_of}
use Rattle.cub_proto.specs.Fits.{literal_fits, is_bounded}
use Rattle.cub_proto.specs.Negation.{negated}
use Rattle.cub_cube.specs.Meaning.{IsConsistent}
use Rattle.cub_cube.proofs.Negations.{negated_fits}
use Rattle.theory_laws.specs.Fitting.{AreFitting, greatest_size}
use Rattle.theory_laws.specs.Entailed.{Entails}
use Rattle.theory_laws.proofs.Meeting.{entailed_is}
use Rattle.cube_form.proofs.Simplifying.{by_negation}
use Rattle.cube_form.proofs.simplification.is_entailed.Goals as goal

pub stay_consistent-requires-clause-more_fitting : goal.stay_consistent-requires-clause-more_fitting
stay_consistent-requires-clause-more_fitting c =
    subst (λ (l : Lit). AreFitting c.args.protocol.now c.args.width (l ∷ [])) (sym c.negated.ensures)
    (record {
      narrow = c.requires.fitting.narrow;
      fit = list_all_one (literal_fits (signature_of c.args.protocol.now) c.args.width) (negated (signature_of c.args.protocol.now) c.args.lit.now) (negated_fits (signature_of c.args.protocol.now) c.args.width c.args.lit.now c.requires.fits);
      bounded = list_all_one (is_bounded greatest_size) (negated (signature_of c.args.protocol.now) c.args.lit.now) (c.can_be_negated.ensures c.if-not-can_be_negated.false c.requires.bounded (signature_of c.args.protocol.now));
    })

pub returns-clause-exact : goal.returns-clause-exact
returns-clause-exact c =
    by_negation c.stay_consistent.result (IsConsistent c.args.protocol.now c.args.width (c.args.others.now ++ negated (signature_of c.args.protocol.now) c.args.lit.now ∷ []))
    (Entails c.args.protocol.now c.args.width c.args.others.now c.args.lit.now)
    (subst (λ (l : Lit). IsTrue c.stay_consistent.result ↔ IsConsistent c.args.protocol.now c.args.width (c.args.others.now ++ l ∷ [])) c.negated.ensures c.stay_consistent.ensures.exact)
    (entailed_is c.args.protocol.now c.args.width c.args.others.now c.args.lit.now c.requires.fits)
