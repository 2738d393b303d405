use Rattle.std.proofs.Common.{drop, ap, sym, ◌∙◌}
use Rattle.cube_text.proofs.PartLaws.{onward_is_drop}
use Rattle.cube_text.proofs.parts.onward.Goals as goal

pub returns : goal.returns
returns c = c.split_at.ensures.back ∙ ap (λ n. drop n c.args.bytes.now) c.first_at.ensures.value ∙ sym (onward_is_drop c.args.kind c.args.bytes.now)
