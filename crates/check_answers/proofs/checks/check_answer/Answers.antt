use Rattle.std.proofs.lemmas.Result.{IfOk-weaker}
use Rattle.answer_lines.specs.declared.answer.Answer.{Answer}
use Rattle.crew.specs.Ends.{log_of}
use Rattle.check_answers.proofs.checks.check_answer.Goals as goal

pub returns : goal.returns
returns c = IfOk-weaker c.told.result _ _
    (λ (a : Answer) tells. record {
      log = log_of c.in_ok-ended.ended;
      search = c.in_ok-ended.ensures.search;
      protocol = c.in_ok-ended.ensures.protocol;
      budget_is = c.in_ok-ended.ensures.budget;
      tells = tells;
    })
    c.told.ensures
