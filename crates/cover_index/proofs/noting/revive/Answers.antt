use Rattle.subsume.proofs.Retiring.{mapped_more, kept_by}
use Rattle.cover_index.proofs.noting.revive.Goals as goal

pub loop-by-preserved : goal.loop-by-preserved
loop-by-preserved c =
    mapped_more (kept_by c.args.count) c.args.retired.now c.loop-by.retired c.loop-by.by-index c.kept_by.result c.loop-by-test.true c.loop-by.invariant c.kept_by.ensures
