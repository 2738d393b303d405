use Rattle.std.proofs.lemmas.Result.{IfOk-weaker}
use Rattle.answer_lines.specs.declared.answer.Answer.{Answer}
use Rattle.crew.specs.Ends.{log_of}
use Rattle.sample_laws.proofs.Climbs.{safe}
use Rattle.check_answers.proofs.samples.sample_answer.Goals as goal

pub told-requires-clause-safe : goal.told-requires-clause-safe
told-requires-clause-safe c = safe c.args.levels c.in_ok-protocol.protocol c.in_ok-protocol.ensures c.requires.low

pub returns : goal.returns
returns c = IfOk-weaker c.told.result _ _
    (λ (a : Answer) tells. record {
      protocol = c.in_ok-protocol.protocol;
      is_sample = c.in_ok-protocol.ensures;
      log = log_of c.in_ok-ended.ended;
      search = c.in_ok-ended.ensures.search;
      tells = tells;
    })
    c.told.ensures
