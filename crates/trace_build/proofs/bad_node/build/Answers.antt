use Rattle.trace_build.specs.Trace.{IsTraceOf}
use Rattle.trace_build.specs.Origins.{IsTraceOfNode}
use Rattle.trace_build.proofs.Both.{both_ok}
use Rattle.trace_build.proofs.OriginLemmas.{bad_inside, bad_back, bad_chain}
use Rattle.trace_build.proofs.bad_node.build.Goals as goal

pub chain_of-requires-clause-inside : goal.chain_of-requires-clause-inside
chain_of-requires-clause-inside c = bad_inside c.args.protocol.now c.args.nodes.now c.args.node c.requires

pub chain_of-requires-clause-back : goal.chain_of-requires-clause-back
chain_of-requires-clause-back c = bad_back c.args.protocol.now c.args.nodes.now c.args.node c.requires

pub build_chain-requires : goal.build_chain-requires
build_chain-requires c = bad_chain c.args.protocol.now c.args.nodes.now c.args.node c.in_ok-chain.chain c.requires c.in_ok-chain.ensures

pub returns : goal.returns
returns c =
    both_ok (IsTraceOf c.args.protocol.now c.in_ok-chain.chain) (IsTraceOf c.args.protocol.now c.in_ok-chain.chain) (IsTraceOfNode c.args.protocol.now c.args.nodes.now c.args.node)
    (λ t trace again. (c.in_ok-chain.chain, c.in_ok-chain.ensures, trace)) c.build_chain.result c.build_chain.ensures c.build_chain.ensures
