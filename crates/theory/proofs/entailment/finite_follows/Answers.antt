use Rattle.std.proofs.Common.{◌≡◌, ◌↔◌, ◌++◌, ◌∷◌, [], Bool, sym, subst}
use Rattle.std.specs.Prelude.{IsTrue}
use Rattle.cub_proto.specs.declared.literal.Lit.{Lit}
use Rattle.cub_proto.specs.StateOf.{signature_of}
use Rattle.fin_dom.specs.Solution as fin
use Rattle.theory.proofs.Parting.{fin_here}
use Rattle.theory.proofs.Following.{finite_decides, negation_fits}
use Rattle.theory.proofs.entailment.finite_follows.Goals as goal

pub solve-requires-clause-fit : goal.solve-requires-clause-fit
solve-requires-clause-fit c = fin_here c.args.protocol.now c.args.width c.args.lits.now c.args.masks.now c.requires.size c.requires.fitting

pub solve-requires-clause-more_fit : goal.solve-requires-clause-more_fit
solve-requires-clause-more_fit c =
    negation_fits c.args.protocol.now c.args.width c.requires.fitting.narrow c.args.masks.now c.requires.size c.args.lit.now c.negated.result c.negated.ensures c.requires.fits

pub returns-clause-exact : goal.returns-clause-exact
returns-clause-exact c =
    finite_decides c.args.protocol.now c.args.width c.args.lits.now c.requires.fitting c.requires.parts c.args.lit.now c.solve.result c.requires.finite c.requires.fits
    (subst (λ (l : Lit). IsTrue c.solve.result ↔ fin.HasSolution (signature_of c.args.protocol.now) (c.args.lits.now ++ l ∷ [])) c.negated.ensures c.solve.ensures.exact)
