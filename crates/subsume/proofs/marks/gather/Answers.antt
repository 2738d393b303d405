use Rattle.cub_proto.specs.StateOf.{signature_of}
use Rattle.subsume.proofs.marks.gather.Goals as goal

pub loop-lit-init : goal.loop-lit-init
loop-lit-init c = c.new-gathering.ensures (signature_of c.args.protocol.now)
