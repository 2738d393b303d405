use Rattle.cover_lines.proofs.LogLemmas.{room_left}
use Rattle.cover_lines.proofs.lines.push_all_live.Goals as goal

pub push_live-requires-clause-room : goal.push_live-requires-clause-room
push_live-requires-clause-room g c =
    room_left c.args.nodes.now (g.F.Finder.list c.loop-node.finder) c.loop-node.node-index c.loop-node-test.true c.requires.few c.loop-node.invariant.list
