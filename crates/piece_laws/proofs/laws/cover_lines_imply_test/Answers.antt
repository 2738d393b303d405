use Rattle.piece_laws.proofs.TestLemmas.{lines_test}
use Rattle.piece_laws.proofs.laws.cover_lines_imply_test.Goals as goal

pub returns : goal.returns
returns c = lines_test
