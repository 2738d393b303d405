use Rattle.std.proofs.Common.{◌≡◌, drop, ap, sym, ◌∙◌}
use Rattle.text_lines.proofs.WordLaws.{skip_is_drop}
use Rattle.text_lines.proofs.words.skip.Goals as goal

pub returns : goal.returns
returns c =
    c.split_at.ensures.back ∙ ap (λ n. drop n c.args.bytes.now) c.gap_len.ensures.value ∙ sym (skip_is_drop c.args.bytes.now)
