use Rattle.std.proofs.Common.{◌≡◌, ◌<◌, ◌^◌, length, ap, ◌∙◌, subst, sym, ℕ, arith}
use Rattle.cub_parse.specs.Sentence.{numbered}
use Rattle.cub_parse.proofs.Sentences.{length-numbered}
use Rattle.cub_parse.proofs.parser.parse.Goals as goal

pub read_all-requires : goal.read_all-requires
read_all-requires c = omega (arith, ap length (c.as_slice.ensures.value ∙ c.in-Ok.ensures), length-numbered 0 c.args.tokens.now)
