use Rattle.std.proofs.Common.{◌≡◌, ◌∙◌, sym, refl}
use Rattle.theory_laws.proofs.Extending.{processes_more}
use Rattle.theory.proofs.consistency.process_extends.Goals as goal

pub returns-then-not-has_process : goal.returns-then-not-has_process
returns-then-not-has_process c = record {
  exact = ((λ h. processes_more c.args.width c.args.lits.now c.args.more.now (sym c.has_process.ensures ∙ c.if-not-has_process.true) c.requires.solved), (λ s. refl));
}
