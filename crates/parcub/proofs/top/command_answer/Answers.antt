use Rattle.std.proofs.Common.{sym, subst}
use Rattle.cub_words.specs.Asked.{asked_by}
use Rattle.cub_words.specs.declared.request.Command.{Command}
use Rattle.parcub.specs.Answer.{AnswersRequest}
use Rattle.parcub.proofs.top.command_answer.Goals as goal

pub returns-in_ok-sampled_answer-in-Sample-clause-answer : goal.returns-in_ok-sampled_answer-in-Sample-clause-answer
returns-in_ok-sampled_answer-in-Sample-clause-answer g c =
    let answer = c.in_ok-sampled_answer-in-Sample.field-0 in
    subst (λ (command : Command). AnswersRequest (g.S.Shelf.bytes_of c.args.shelf.now) (g.S.Shelf.taken c.args.shelf.now) (asked_by command) answer.status answer.text) (sym c.in-Sample.is) c.in_ok-sampled_answer-in-Sample.ensures
