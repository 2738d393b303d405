use Rattle.std.proofs.Common.{inr}
use Rattle.std.proofs.lemmas.Result.{IfOk-weaker}
use Rattle.io_edge.proofs.Asked.{asks_first, added_at_ok}
use Rattle.answer_lines.specs.declared.answer.Answer.{Answer}
use Rattle.parcub.proofs.Asked.{asks_next}
use Rattle.parcub.proofs.Telling.{named_same}
use Rattle.parcub.proofs.verifies.verify_answer.Goals as goal

pub returns-in-Ok-read_protocol-clause-asked : goal.returns-in-Ok-read_protocol-clause-asked
returns-in-Ok-read_protocol-clause-asked g c =
    asks_next _ _ _ _ _ (added_at_ok _ _ _ _ _ c.in-Ok.is c.load.ensures.asked) c.named_answer.ensures.asked

pub returns-in-Ok-read_protocol-clause-answer : goal.returns-in-Ok-read_protocol-clause-answer
returns-in-Ok-read_protocol-clause-answer g c = IfOk-weaker c.named_answer.result _ _
    (λ (a : Answer) answer. inr (record {
      bytes = c.in-Ok.bytes.items;
      gave = (c.in-Ok.ensures.within, c.in-Ok.ensures.told);
      answer = inr (record {
        protocol = c.in-Ok-read_protocol.protocol;
        read = rw (← c.as_slice.ensures.value) c.in-Ok-read_protocol.ensures.ok;
        answer = named_same (g.S.Shelf.bytes_of c.load.new.self) (g.S.Shelf.bytes_of c.args.shelf.now) (g.S.Shelf.taken c.named_answer.new.shelf) c.args.cert.now
            c.in-Ok-read_protocol.protocol a.status a.text (c.load.ensures.same c.args.cert.now) answer;
      });
    })) c.named_answer.ensures.answer

pub returns-in_err-at_protocol_fault-in-Err-Fault-clause-asked : goal.returns-in_err-at_protocol_fault-in-Err-Fault-clause-asked
returns-in_err-at_protocol_fault-in-Err-Fault-clause-asked g c = asks_first _ _ _ _ _ c.load.ensures.asked

pub returns-in-Err-Fault-clause-asked : goal.returns-in-Err-Fault-clause-asked
returns-in-Err-Fault-clause-asked g c = asks_first _ _ _ _ _ c.load.ensures.asked
