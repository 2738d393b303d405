use Rattle.std.proofs.Common.{inl, inr}
use Rattle.std.proofs.lemmas.Result.{IfOk-weaker}
use Rattle.answer_lines.specs.declared.answer.Answer.{Answer}
use Rattle.parcub.proofs.Lawful.{may_replay}
use Rattle.parcub.proofs.replays.bytes_answer.Goals as goal

pub judged-requires : goal.judged-requires
judged-requires c = may_replay c.args.protocol.now c.in-Ok.trace c.in-Ok.ensures.lawful

pub returns-in-Ok : goal.returns-in-Ok
returns-in-Ok c = IfOk-weaker c.judged.result _ _
    (λ (a : Answer) answer. inr (record { trace = c.in-Ok.trace; read = c.in-Ok.ensures.trace; answer = answer })) c.judged.ensures

pub returns-in-Err-Fault : goal.returns-in-Err-Fault
returns-in-Err-Fault c = IfOk-weaker c.at_trace_fault.result _ _
    (λ (a : Answer) answer. inl (record {
      at = c.in-Err-Fault.line;
      kind = c.in-Err-Fault.kind;
      first = rw c.in-Err-Fault.field-0-is at c.in-Err-Fault.ensures.fault;
      status_is = answer.0;
      line_is = answer.1;
    })) c.at_trace_fault.ensures
