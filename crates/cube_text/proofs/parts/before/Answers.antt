use Rattle.std.proofs.Common.{take, ap, sym, ◌∙◌}
use Rattle.cube_text.proofs.PartLaws.{before_is_take}
use Rattle.cube_text.proofs.parts.before.Goals as goal

pub returns : goal.returns
returns c = c.split_at.ensures.front ∙ ap (λ n. take n c.args.bytes.now) c.first_at.ensures.value ∙ sym (before_is_take c.args.kind c.args.bytes.now)
