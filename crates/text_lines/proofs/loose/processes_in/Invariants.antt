use Rattle.std.proofs.Common.{◌≡◌, ◌-◌, ◌++◌}
use Rattle.text_lines.specs.Loose.{processes_in}
use Rattle.text_lines.proofs.loose.processes_in.Given as goal

abbrev pub invariant-loop : goal.invariant-loop
invariant-loop l = l.processes ++ processes_in (l.count - l.counter) l.rest ≡ processes_in l.count l.bytes
