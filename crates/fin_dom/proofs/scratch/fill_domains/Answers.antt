use Rattle.cub_proto.specs.StateOf.{signature_of}
use Rattle.fin_dom.proofs.Solving.{fresh}
use Rattle.fin_dom.proofs.scratch.fill_domains.Goals as goal

pub returns-clause-gathered : goal.returns-clause-gathered
returns-clause-gathered c e =
    c.gather.ensures.gathered e _ (fresh (signature_of c.args.protocol.now) c.args.masks.now c.clear.new.masks c.clear.ensures.size c.clear.ensures.all)

pub returns-clause-none : goal.returns-clause-none
returns-clause-none c e =
    c.gather.ensures.none e _ (fresh (signature_of c.args.protocol.now) c.args.masks.now c.clear.new.masks c.clear.ensures.size c.clear.ensures.all)
