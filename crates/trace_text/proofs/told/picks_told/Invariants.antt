use Rattle.std.proofs.Common.{◌≡◌, ◌-◌, ◌++◌}
use Rattle.trace_text.specs.Told.{picks_told}
use Rattle.trace_text.proofs.told.picks_told.Given as goal

abbrev pub invariant-loop : goal.invariant-loop
invariant-loop l = l.picks ++ picks_told l.protocol (l.most - l.counter) l.rest ≡ picks_told l.protocol l.most l.bytes
