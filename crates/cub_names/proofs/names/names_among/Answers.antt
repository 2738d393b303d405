use Rattle.std.proofs.Common.{◌≡◌, [], subst, ap, sym, ◌∙◌}
use Rattle.cub_names.specs.Declarations.{faults_among}
use Rattle.cub_names.specs.Answers.{IsRefusal}
use Rattle.cub_names.proofs.names.names_among.Goals as goal

pub named_base-requires-clause-none : goal.named_base-requires-clause-none
named_base-requires-clause-none c = subst (λ types. faults_among c.args.text.now types c.args.decls.now ≡ []) c.requires c.in-Ok.ensures

pub returns-in-Err : goal.returns-in-Err
returns-in-Err c = subst (λ types. IsRefusal c.in-Err.e (faults_among c.args.text.now types c.args.decls.now)) c.requires c.in-Err.ensures
