use Rattle.std.proofs.Common.{◌≡◌, ◌++◌, take}
use Rattle.cub_cube.specs.Crashes.{crashes}
use Rattle.trace_build.proofs.blocking.push_crashes.Given as goal

abbrev pub invariant-loop-process : goal.invariant-loop-process
invariant-loop-process l = l.events ≡ l.fn.events ++ crashes (take l.process-index l.processes)
