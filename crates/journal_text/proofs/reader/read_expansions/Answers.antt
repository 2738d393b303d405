use Rattle.std.proofs.lemmas.Result.{err_from_is_err_and}
use Rattle.journal_text.proofs.reader.read_expansions.Goals as goal

pub returns-in_err-expanded-clause-err : goal.returns-in_err-expanded-clause-err
returns-in_err-expanded-clause-err g c =
    let e = err_from_is_err_and c.from_residual.result c.from_residual.ensures.1 in
    rw (e.1, e.2) (λ place n whole full r. c.in_err-expanded.ensures.err place n whole full (c.loop-expanded.invariant.keeps place n whole full r))
