use Rattle.std.proofs.lemmas.Result.{err_from_is_err_and}
use Rattle.trace_text.proofs.reader.read_closing.Goals as goal

pub returns-in_err-plain-clause-err : goal.returns-in_err-plain-clause-err
returns-in_err-plain-clause-err c =
    let p = err_from_is_err_and c.from_residual.result c.from_residual.ensures.1 in
    rw (p.1, p.2, c.if-not-crashes.false) (λ q. c.in_err-plain.ensures.err q)

pub returns-clause-ok : goal.returns-clause-ok
returns-clause-ok c = rw c.if-not-crashes.false (λ q. c.in_ok-plain.ensures.ok q)
