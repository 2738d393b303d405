use Rattle.cub_proto.specs.declared.literal.Lit.TheVariants.{FinIn}
use Rattle.cub_proto.specs.declared.literal.Term.TheVariants as Term
use Rattle.cub_proto.specs.StateOf.{signature_of}
use Rattle.cub_cube.specs.Replace.{can_replace_all}
use Rattle.updates.specs.Chosen.{value_in}
use Rattle.updates.proofs.WayLemmas.{all_at}
use Rattle.pieces.proofs.whole.push_replaced.Goals as goal

pub replaced-requires-clause-can : goal.replaced-requires-clause-can
replaced-requires-clause-can c =
    all_at (can_replace_all (signature_of c.args.protocol.now) c.args.width (value_in c.args.terms.now c.args.values.now)) c.args.more.now c.loop-lit.lit-index (FinIn (Term.Global 0) 0) c.requires.can c.loop-lit-test.true
