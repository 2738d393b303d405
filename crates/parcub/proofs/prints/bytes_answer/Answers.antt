use Rattle.std.proofs.Common.{inr}
use Rattle.std.proofs.lemmas.Result.{IfOk-weaker}
use Rattle.answer_lines.specs.declared.answer.Answer.{Answer}
use Rattle.parcub.proofs.prints.bytes_answer.Goals as goal

pub returns-in-Ok : goal.returns-in-Ok
returns-in-Ok c = IfOk-weaker c.printed.result _ _
    (λ (a : Answer) answer. inr (record { protocol = c.in-Ok.protocol; read = c.in-Ok.ensures.ok; answer = answer })) c.printed.ensures
