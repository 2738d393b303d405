use Rattle.std.proofs.Common.{◌≡◌, ◌∙◌, sym, refl}
use Rattle.theory_laws.proofs.Extending.{integers_more}
use Rattle.theory.proofs.consistency.integer_extends.Goals as goal

pub returns-then-not-has_integer-clause-exact : goal.returns-then-not-has_integer-clause-exact
returns-then-not-has_integer-clause-exact c =
    ((λ h. integers_more c.args.lits.now c.args.more.now (sym c.has_integer.ensures ∙ c.if-not-has_integer.true) c.requires.solved), (λ s. refl))
