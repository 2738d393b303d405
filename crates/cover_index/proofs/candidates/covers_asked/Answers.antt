use Rattle.subsume.proofs.Summarized.{own_summary}
use Rattle.cover_index.proofs.candidates.covers_asked.Goals as goal

pub returns-then-passes_over-clause-exact : goal.returns-then-passes_over-clause-exact
returns-then-passes_over-clause-exact c =
    c.passes_over.ensures.none c.if-passes_over.true c.args.protocol.now c.args.big.now c.args.cube.now
    (own_summary _ _ _ c.requires.summary) (own_summary _ _ _ c.requires.asked.own) c.requires.fit c.requires.asked.askable c.requires.asked.met
