use Rattle.verify_answers.proofs.Rising.{rises}
use Rattle.log_tables.proofs.certificates.test.Goals as goal

pub test_lined-requires-clause-rise : goal.test_lined-requires-clause-rise
test_lined-requires-clause-rise c =
    rises c.args.protocol.now c.args.certificate.now.cubes c.args.certificate.now.lines c.as_slice.result.now (let is = c.in-Some.is in let value = c.as_slice.ensures in cc) c.requires.covers
