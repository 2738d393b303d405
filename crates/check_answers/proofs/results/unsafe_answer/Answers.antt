use Rattle.std.proofs.Common.{◌∙◌}
use Rattle.check_answers.proofs.Telling.{bad_node, unsafe_told}
use Rattle.check_answers.proofs.results.unsafe_answer.Goals as goal

pub build-requires : goal.build-requires
build-requires c = bad_node c.args.log.now c.args.protocol.now c.nodes.result.now c.args.node c.nodes.ensures.legal c.requires.protocol c.nodes.ensures.value c.requires.bad

pub returns : goal.returns
returns c =
    unsafe_told c.args.log.now c.args.protocol.now c.nodes.result.now c.args.node c.in_ok-trace.trace _ _ c.requires.protocol c.nodes.ensures.value c.requires.bad c.in_ok-trace.ensures c.status_of-status.ensures
    (c.from_vec.ensures ∙ c.in_ok-text.ensures)
