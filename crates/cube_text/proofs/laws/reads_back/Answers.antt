use Rattle.cube_text.proofs.ReadBack.{read_back}
use Rattle.cube_text.proofs.laws.reads_back.Goals as goal

pub returns : goal.returns
returns c = λ p widest cube few lawful. read_back p widest cube few lawful
