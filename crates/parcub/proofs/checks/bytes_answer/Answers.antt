use Rattle.std.proofs.Common.{refl, inr}
use Rattle.std.proofs.lemmas.Result.{IfOk-weaker}
use Rattle.answer_lines.specs.declared.answer.Answer.{Answer}
use Rattle.parcub.proofs.checks.bytes_answer.Goals as goal

pub returns-in-Ok : goal.returns-in-Ok
returns-in-Ok c = IfOk-weaker c.check_answer.result _ _
    (λ (a : Answer) answer. inr (record { protocol = c.in-Ok.protocol; read = c.in-Ok.ensures.ok; answer = (c.args.budget, (refl, refl), answer) })) c.check_answer.ensures
