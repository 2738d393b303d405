use Rattle.trace_build.proofs.Refusing.{not_refused}
use Rattle.trace_build.proofs.freeing.replay_all.Goals as goal

pub unreachable-requires : goal.unreachable-requires
unreachable-requires c = not_refused c.args.machine.now c.run.new.self c.args.events.now c.in-Err.field-0 c.requires.legal c.in-Err.ensures.refused
