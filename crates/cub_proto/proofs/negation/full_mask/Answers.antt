use Rattle.std.proofs.Common.{◌≡◌, ap, ◌∙◌, arith}
use Rattle.cub_proto.specs.Signature.{constructors_at}
use Rattle.cub_proto.specs.StateOf.{signature_of}
use Rattle.cub_proto.proofs.Constructors.{few_constructors}
use Rattle.cub_proto.proofs.negation.full_mask.Goals as goal

pub all_constructors-requires : goal.all_constructors-requires
all_constructors-requires c =
    let few = few_constructors c.args.protocol.now c.args.term in
    let same : c.constructors_at.result ≡ constructors_at (signature_of c.args.protocol.now) c.args.term =
    c.constructors_at.ensures ∙ ap (λ d. constructors_at d c.args.term) c.declared.ensures in
    omega arith
