use Rattle.std.proofs.Common.{true, ◌∙◌}
use Rattle.cub_proto.specs.StateOf.{signature_of}
use Rattle.cub_dnf.specs.Lists.{list_of}
use Rattle.cub_dnf.proofs.Fitting.{list_fits}
use Rattle.cub_dnf.proofs.Sizing.{whole_list}
use Rattle.cub_dnf.proofs.conjunctions.normal.Goals as goal

pub returns-clause-fits : goal.returns-clause-fits
returns-clause-fits c = λ bounds.
    let sig = signature_of c.args.protocol.now in
    let whole = whole_list c.in_ok-found.found c.in-Some.list (list_of sig true c.args.formula.now) c.in_ok-found.ensures c.if-found-gt64.false c.if-found-gt64-2.false c.in-Some.is in
    list_fits sig c.args.width true c.args.formula.now (c.in-Some.list-is ∙ whole.same) whole.few whole.narrow c.requires bounds
