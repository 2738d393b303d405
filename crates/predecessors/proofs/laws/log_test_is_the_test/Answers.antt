use Rattle.predecessors.specs.Facts.{passes_both}
use Rattle.predecessors.proofs.laws.log_test_is_the_test.Goals as goal

pub returns : goal.returns
returns c = passes_both
