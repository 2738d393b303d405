use Rattle.std.proofs.Common.{inl, inr}
use Rattle.std.proofs.lemmas.Result.{IfOk-weaker}
use Rattle.answer_lines.specs.declared.answer.Answer.{Answer}
use Rattle.verify_answers.proofs.verifies.certificate_answer.Goals as goal

pub returns-in-Ok : goal.returns-in-Ok
returns-in-Ok c = IfOk-weaker c.tested.result _ _
    (λ (a : Answer) answer. inr (record { certificate = c.in-Ok.certificate; read = c.in-Ok.ensures.certificate; its_text = c.in-Ok.ensures.text; answer = answer })) c.tested.ensures

pub returns-in-Err-Fault : goal.returns-in-Err-Fault
returns-in-Err-Fault c = IfOk-weaker c.at_cert_fault.result _ _
    (λ (a : Answer) answer. inl (record {
      at = c.in-Err-Fault.line;
      kind = c.in-Err-Fault.kind;
      first = rw c.in-Err-Fault.field-0-is at c.in-Err-Fault.ensures.fault;
      status_is = answer.0;
      line = answer.1;
    })) c.at_cert_fault.ensures
