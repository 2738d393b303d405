use Rattle.trace_build.proofs.WalkLemmas.{label_there}
use Rattle.trace_build.proofs.walking.piece_step.Goals as goal

pub unreachable-requires : goal.unreachable-requires
unreachable-requires c = label_there c.args.protocol.now c.args.next.now c.args.number c.args.link.now c.requires.named c.in_ok-label.field-0 c.in_ok-label.ensures.value c.in-None.is
