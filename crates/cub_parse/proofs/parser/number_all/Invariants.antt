use Rattle.std.proofs.Common.{◌≡◌, ◌++◌, drop}
use Rattle.cub_parse.specs.Sentence.{numbered}
use Rattle.cub_parse.proofs.parser.number_all.Given as goal

abbrev pub invariant-loop-at : goal.invariant-loop-at
invariant-loop-at l = l.leaves.items ++ numbered l.at (drop l.at l.tokens) ≡ numbered 0 l.tokens
