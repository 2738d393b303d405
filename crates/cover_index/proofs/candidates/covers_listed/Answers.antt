use Rattle.subsume.proofs.Summarized.{own_summary}
use Rattle.cover_index.proofs.candidates.covers_listed.Goals as goal

pub returns-then-passes_over-clause-exact : goal.returns-then-passes_over-clause-exact
returns-then-passes_over-clause-exact c =
    c.passes_over.ensures.none c.if-passes_over.true c.args.protocol.now c.args.cube.now c.args.small.now
    (own_summary _ _ _ c.requires.own) (own_summary _ _ _ c.requires.summary) c.requires.fit c.requires.small_fit c.requires.met

pub returns-then-passes_over-2-clause-exact : goal.returns-then-passes_over-2-clause-exact
returns-then-passes_over-2-clause-exact c =
    c.passes_over-2.ensures.none c.if-passes_over-2.true c.args.protocol.now c.args.cube.now c.args.small.now
    (own_summary _ _ _ c.requires.own) (own_summary _ _ _ c.requires.summary) c.requires.fit c.requires.small_fit c.load_small-consistent.ensures.exact.0
