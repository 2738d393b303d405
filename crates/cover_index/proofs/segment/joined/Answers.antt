use Rattle.cover_index.proofs.Sealing.{join_more}
use Rattle.cover_index.proofs.segment.joined.Goals as goal

pub loop-i-preserved : goal.loop-i-preserved
loop-i-preserved c =
    join_more c.args.summaries.now c.loop-i.i c.loop-i.all c.join-all.result c.loop-i.invariant c.join-all.ensures.first c.join-all.ensures.second
