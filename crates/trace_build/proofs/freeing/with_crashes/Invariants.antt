use Rattle.std.proofs.Common.{◌≡◌, length}
use Rattle.trace_build.proofs.FreeLemmas.{Stands}
use Rattle.trace_build.proofs.freeing.with_crashes.Given as goal

abbrev pub invariant-loop-step : goal.invariant-loop-step
invariant-loop-step l = record {
  number : l.number ≡ length l.yielded;
  stands : Stands l.protocol l.fn.start l.fn.steps l.number l.machine l.events l.plain;
}
