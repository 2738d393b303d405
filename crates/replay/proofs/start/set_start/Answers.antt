use Rattle.std.proofs.Common.{sym, subst}
use Rattle.replay.specs.FitsStart.{FitsStart}
use Rattle.replay.proofs.Started.{put_fits, takes_there}
use Rattle.replay.proofs.start.set_start.Goals as goal

pub set-requires : goal.set-requires
set-requires c = takes_there c.args.protocol.now c.args.state.now c.args.slot c.args.val c.requires.state.state_of c.requires.value

pub returns-clause-fits : goal.returns-clause-fits
returns-clause-fits c =
    subst (FitsStart c.args.protocol.now) (sym c.set.ensures) (put_fits c.args.protocol.now c.args.state.now c.args.slot c.args.val c.requires.state c.requires.value)
