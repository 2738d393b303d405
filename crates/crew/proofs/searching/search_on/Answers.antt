use Rattle.crew.proofs.Stepping.{nodes_askable, nodes_few}
use Rattle.crew.proofs.searching.search_on.Goals as goal

pub fill-requires-clause-fit : goal.fill-requires-clause-fit
fill-requires-clause-fit c = nodes_askable c.args.log.now c.nodes.result.now c.nodes.ensures.legal c.nodes.ensures.value c.args.protocol.now c.requires

pub fill-requires-clause-few : goal.fill-requires-clause-few
fill-requires-clause-few c = nodes_few c.args.log.now c.nodes.result.now c.nodes.ensures.legal c.nodes.ensures.value
