use Rattle.std.proofs.Common.{◌≡◌, ◌∙◌, sym, refl}
use Rattle.cub_proto.specs.StateOf.{signature_of}
use Rattle.theory_laws.proofs.Extending.{finite_more}
use Rattle.theory.proofs.consistency.finite_extends.Goals as goal

pub returns-then-not-has_finite-clause-exact : goal.returns-then-not-has_finite-clause-exact
returns-then-not-has_finite-clause-exact c =
    ((λ h. finite_more (signature_of c.args.protocol.now) c.args.lits.now c.args.more.now (sym c.has_finite.ensures ∙ c.if-not-has_finite.true) c.requires.solved), (λ s. refl))
