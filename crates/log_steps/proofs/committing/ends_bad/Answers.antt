use Rattle.std.proofs.Common.{◌-◌, ◌↔◌, length, subst, arith}
use Rattle.std.specs.Prelude.{IsTrue}
use Rattle.log_form.specs.Legal.{EndsBad}
use Rattle.log_steps.specs.declared.judgement.Pick.{Pick}
use Rattle.log_steps.specs.Commits.{kept_of}
use Rattle.log_steps.proofs.CommitLemmas.{ends_last}
use Rattle.log_steps.proofs.committing.ends_bad.Goals as goal

pub returns : goal.returns
returns c = λ p tell.
    let some = c.if-count-eq0.false in
    subst (λ (k : Pick). IsTrue k.starts ↔ EndsBad p (kept_of c.args.picks.now c.args.which.now)) c.index-picks-which.is
    (ends_last p c.args.picks.now c.args.which.now (length c.args.which.now - 1) c.index-picks-which.result (omega arith) c.index-picks-which.is c.requires tell)
