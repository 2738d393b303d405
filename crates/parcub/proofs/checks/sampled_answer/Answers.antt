use Rattle.std.proofs.Common.{refl}
use Rattle.std.proofs.lemmas.Result.{IfOk-weaker}
use Rattle.answer_lines.specs.declared.answer.Answer.{Answer}
use Rattle.parcub.proofs.checks.sampled_answer.Goals as goal

pub returns : goal.returns
returns c = IfOk-weaker c.sample_answer.result _ _ (λ (a : Answer) answer. (c.args.budget, (refl, refl), answer)) c.sample_answer.ensures
