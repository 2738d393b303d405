use Rattle.piece_laws.proofs.TestLemmas.{test_inductive}
use Rattle.piece_laws.proofs.laws.certificate_is_inductive.Goals as goal

pub returns : goal.returns
returns c = test_inductive
