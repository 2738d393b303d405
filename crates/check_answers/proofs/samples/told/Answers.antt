use Rattle.std.proofs.lemmas.Result.{IfOk-weaker}
use Rattle.answer_lines.specs.declared.answer.Answer.{Answer}
use Rattle.log_form.specs.declared.verdicts.LogVerdict.TheVariants.{UnknownCubes, UnknownWidth}
use Rattle.check_answers.proofs.Telling.{full_verdict, wide_verdict}
use Rattle.check_answers.proofs.samples.told.Goals as goal

pub returns-in-Full : goal.returns-in-Full
returns-in-Full c = IfOk-weaker c.unknown_answer.result _ _
    (λ (a : Answer) told. (UnknownCubes, full_verdict c.args.ended.now c.in-Full._log c.in-Full.is c.requires.verdict, told)) c.unknown_answer.ensures

pub returns-in-Wide : goal.returns-in-Wide
returns-in-Wide c = IfOk-weaker c.unknown_answer-in-Wide.result _ _
    (λ (a : Answer) told. (UnknownWidth, wide_verdict c.args.ended.now c.in-Wide._log c.in-Wide._number c.in-Wide.is c.requires.verdict, told)) c.unknown_answer-in-Wide.ensures
