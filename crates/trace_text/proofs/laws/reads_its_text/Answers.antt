use Rattle.trace_text.proofs.PlaceLaws.{is_its_text}
use Rattle.trace_text.proofs.laws.reads_its_text.Goals as goal

pub returns : goal.returns
returns c = λ p text t r. is_its_text p 1 text t r
