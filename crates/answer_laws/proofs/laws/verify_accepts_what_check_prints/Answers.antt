use Rattle.answer_laws.proofs.Certificates.{verify_accepts}
use Rattle.answer_laws.proofs.laws.verify_accepts_what_check_prints.Goals as goal

pub returns : goal.returns
returns c = verify_accepts
