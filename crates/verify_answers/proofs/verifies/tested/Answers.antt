use Rattle.verify_answers.proofs.Rising.{rises}
use Rattle.verify_answers.proofs.verifies.tested.Goals as goal

pub lined_answer-requires-clause-rise : goal.lined_answer-requires-clause-rise
lined_answer-requires-clause-rise c =
    rises c.args.protocol.now c.args.certificate.now.cubes c.args.certificate.now.lines c.as_slice.result.now (let is = c.in-Some.is in let value = c.as_slice.ensures in cc) c.requires.covers
