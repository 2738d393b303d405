use Rattle.check_answers.proofs.Telling.{bad_node}
use Rattle.check_answers.proofs.Verdicts.{run_refutes}
use Rattle.check_answers.proofs.samples.never_bad.Goals as goal

pub build-requires : goal.build-requires
build-requires c = bad_node c.args.log.now c.args.protocol.now c.nodes.result.now c.args.node c.nodes.ensures.legal c.requires.protocol c.nodes.ensures.value c.requires.bad

pub unreachable-requires : goal.unreachable-requires
unreachable-requires c =
    let t = c.in_ok-_trace._trace in
    run_refutes c.args.protocol.now t.start t.events t.goal t.places t.plain (c.in_ok-_trace.ensures.2.accepted) c.requires.safe
