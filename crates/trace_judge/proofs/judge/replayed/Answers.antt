use Rattle.std.proofs.Common.{sym, subst}
use Rattle.trace_judge.specs.Judge.{IsRefused}
use Rattle.trace_judge.proofs.judge.replayed.Goals as goal

pub returns-in-Err-unsafe_run-clause-refused : goal.returns-in-Err-unsafe_run-clause-refused
returns-in-Err-unsafe_run-clause-refused c = rw (← c.as_slice.ensures, ← c.as_slice-2.ensures) (c.in-Err-unsafe_run.ensures.refused c.args.trace.plain)

pub returns-clause-refused : goal.returns-clause-refused
returns-clause-refused c =
    subst (λ plain. IsRefused c.args.protocol.now c.args.trace.start c.args.trace.events c.args.trace.goal c.args.trace.places plain c.in-Err-fails_plainly.refusal) (sym c.in-Some.is)
    (rw (← c.in-Ok.ensures, ← c.as_slice-in-Some.ensures) (c.in-Err-fails_plainly.ensures.refused c.args.trace.goal c.args.trace.places))
