use Rattle.cub_parse.proofs.Sentences.{tree_once}
use Rattle.cub_parse.proofs.parser.one_tree.Goals as goal

pub returns : goal.returns
returns c = λ ts a b h i. tree_once ts a b h i
