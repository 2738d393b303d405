use Rattle.trace_text.proofs.Again.{reads_back}
use Rattle.trace_text.proofs.laws.reads_back.Goals as goal

pub returns : goal.returns
returns c = λ p t lawful. reads_back p t lawful 1
