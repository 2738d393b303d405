use Rattle.std.proofs.Common.{◌<◌, length, subst, arith}
use Rattle.subsume.specs.declared.summary.Summary.{Summary}
use Rattle.cover_index.specs.Asked.{Joins}
use Rattle.cover_index.proofs.Grouping.{kept_set, summary_read}
use Rattle.cover_index.proofs.noting.join_at.Goals as goal

pub returns-then-at-len-clause-kept : goal.returns-then-at-len-clause-kept
returns-then-at-len-clause-kept c =
    let below : c.args.at < length c.args.groups.now.items = omega arith in
    kept_set c.args.groups.now.items c.args.at c.join.result below
    (subst (λ (x : Summary). Joins x c.join.result) (summary_read c.args.groups.now.items c.args.at c.index.result.now below c.index.ensures) c.join.ensures.first)
