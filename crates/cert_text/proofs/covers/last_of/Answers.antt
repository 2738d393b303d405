use Rattle.std.proofs.Common.{◌∙◌}
use Rattle.cert_text.proofs.Looping.{last_got}
use Rattle.cert_text.proofs.covers.last_of.Goals as goal

pub returns-else-is_empty : goal.returns-else-is_empty
returns-else-is_empty c =
    c.get.ensures.value ∙ last_got c.args.lines.now c.is_empty.result c.len.result c.is_empty.ensures c.if-is_empty.false c.len.ensures
