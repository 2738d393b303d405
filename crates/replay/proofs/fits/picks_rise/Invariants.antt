use Rattle.std.proofs.Common.{◌≡◌, ◌-◌, drop}
use Rattle.cub_proto.specs.Legal.{picks_rise}
use Rattle.replay.proofs.fits.picks_rise.Given as goal

abbrev pub invariant-loop-at : goal.invariant-loop-at
invariant-loop-at l = picks_rise (drop (l.at - 1) l.picks) ≡ picks_rise l.picks
