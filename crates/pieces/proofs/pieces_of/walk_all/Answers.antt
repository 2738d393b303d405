use Rattle.std.proofs.lemmas.Result.{on_ok_weaker}
use Rattle.pieces.proofs.Gathering.{whole_walk, whole_hands}
use Rattle.pieces.proofs.pieces_of.walk_all.Goals as goal

pub walk-requires-clause-stands : goal.walk-requires-clause-stands
walk-requires-clause-stands g c = whole_walk c.args.job.now c.args.work.now c.requires.job c.requires.steps c.requires.first

pub returns-clause-handed : goal.returns-clause-handed
returns-clause-handed g c = on_ok_weaker c.walk.result (whole_hands g.R.Receiver.takes c.args.job.now c.args.work.now c.args.receiver.now c.walk.new.receiver c.requires.steps c.requires.first) c.walk.ensures.handed
