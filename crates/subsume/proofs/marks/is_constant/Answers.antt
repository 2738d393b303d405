use Rattle.std.proofs.Common.{ap, ◌∙◌}
use Rattle.std.specs.Prelude.{nat_eq}
use Rattle.cub_proto.specs.StateOf.{signature_of}
use Rattle.cub_proto.specs.Signature.{constructors_at}
use Rattle.subsume.proofs.Bits.{one_constructor}
use Rattle.subsume.proofs.marks.is_constant.Goals as goal

pub returns : goal.returns
returns c = ap (λ w. nat_eq w 1) c.full_mask.ensures ∙ one_constructor (constructors_at (signature_of c.args.protocol.now) c.args.term)
