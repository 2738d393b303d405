use Rattle.pieces.proofs.Gathering.{read_transition, few_params, short_updates}
use Rattle.pieces.proofs.pieces_of.transition_at.Goals as goal

pub returns-clause-few : goal.returns-clause-few
returns-clause-few c =
    few_params c.args.protocol.now c.args.number c.index-as_slice-number.result (read_transition c.args.protocol.now c.as_slice.result.now c.args.number c.index-as_slice-number.result c.as_slice.ensures c.requires c.index-as_slice-number.is)

pub returns-clause-short : goal.returns-clause-short
returns-clause-short c =
    short_updates c.args.protocol.now c.args.number c.index-as_slice-number.result (read_transition c.args.protocol.now c.as_slice.result.now c.args.number c.index-as_slice-number.result c.as_slice.ensures c.requires c.index-as_slice-number.is)
