use Rattle.std.proofs.Common.{◌≡◌, take, drop, ap, sym, ◌∙◌}
use Rattle.text_lines.proofs.WordLaws.{front_is_take, back_is_drop}
use Rattle.text_lines.proofs.words.cut_word.Goals as goal

pub returns-clause-word : goal.returns-clause-word
returns-clause-word c =
    c.split_at.ensures.front ∙ ap (λ n. take n c.args.bytes.now) c.word_len.ensures.value ∙ sym (front_is_take c.args.bytes.now)

pub returns-clause-rest : goal.returns-clause-rest
returns-clause-rest c =
    c.split_at.ensures.back ∙ ap (λ n. drop n c.args.bytes.now) c.word_len.ensures.value ∙ sym (back_is_drop c.args.bytes.now)
