use Rattle.std.proofs.Common.{◌≡◌, ◌+◌, ◌-◌, ap, sym, ◌∙◌, arith}
use Rattle.text_lines.specs.Loose.{behind_words}
use Rattle.text_lines.proofs.WordLaws.{behind_step}
use Rattle.text_lines.proofs.loose.behind_words.Goals as goal

pub loop-preserved : goal.loop-preserved
loop-preserved c =
    ap (λ t. behind_words (c.args.count - (c.loop.counter + 1)) t) c.next_word.ensures.rest
    ∙ sym (behind_step c.args.count c.loop.counter c.loop.rest.now (omega arith)) ∙ c.loop.invariant
