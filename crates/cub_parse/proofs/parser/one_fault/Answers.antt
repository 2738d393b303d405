use Rattle.cub_parse.proofs.Sentences.{fault_once}
use Rattle.cub_parse.proofs.parser.one_fault.Goals as goal

pub returns : goal.returns
returns c = λ ts at other kind another f g. fault_once ts at other kind another f g
