use Rattle.std.proofs.Common.{inl}
use Rattle.journal_text.proofs.FullLaws.{closes_full}
use Rattle.journal_text.proofs.closing.closes.Goals as goal

-- with the heading of a full log
pub returns-then-full-clause-yes : goal.returns-then-full-clause-yes
returns-then-full-clause-yes g c = λ yes legal. rw c.if-full.true (inl (c.in_ok-yes.ensures.yes yes legal))

pub returns-then-full-clause-no : goal.returns-then-full-clause-no
returns-then-full-clause-no g c = λ no_match legal.
    closes_full g.M.PreImages.pieces c.args.full c.args.log.now c.args.line.now c.if-full.true (c.in_ok-yes.ensures.no no_match legal)
