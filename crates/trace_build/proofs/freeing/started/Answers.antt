use Rattle.trace_build.proofs.Refusing.{starts}
use Rattle.trace_build.proofs.freeing.started.Goals as goal

pub unreachable-requires : goal.unreachable-requires
unreachable-requires c =
    let none = starts c.args.protocol.now c.args.start c.requires.start in
    let some = c.new.ensures.fault c.in-Err-Not.field-0-0 cc in cc
